use Rattle.std.specs.Prelude.{option_map}
use Rattle.std.proofs.Common.{◌≡◌, ◌++◌, ◌&&◌, not, Contains, sym, ◌∙◌, ap, ap₂, subst}
use Rattle.std.specs.List.{dedup, list_any}
use Rattle.std.proofs.lemmas.List.Filters.{dedup_is}
use Rattle.std.proofs.lemmas.List.Kept.{Contains-dedup, Contains-from_dedup, IsStrictlySortedBy-dedup}
use Rattle.std.proofs.lemmas.List.Sorted.{Contains-permutation, IsPermutation-sym}
use Rattle.std.proofs.lemmas.Result.{on_ok_weaker}
use Rattle.waff_model.specs.declared.cell.Cell.{Cell}
use Rattle.waff_assign.proofs.CellOrder.{cell_cmp_total, cell_eq, cell_eq_equiv, cell_eq_same, cell_eq_ties}
use Rattle.std.proofs.lemmas.Option.{IfSome_then}
use Rattle.waff_assign.proofs.Assignments.{cells_of_layout}
use Rattle.waff_model.specs.Cells.{cells_of}
use Rattle.waff_limits.specs.Writes.{cells_alone}
use Rattle.waff_limits.specs.Data.{is_cell}
use Rattle.waff_limits.specs.Edges.{edges_of}
use Rattle.waff_limits.specs.Readings.{readings_of}
use Rattle.waff_limits.proofs.EdgeLemmas.{same_used}
use Rattle.waff_limits.proofs.SkyLemmas.{same_read}
use Rattle.waff_limits.proofs.Uses.{has_same}
use Rattle.waff_limits.proofs.WrittenCells.{any_same, read_by, written_by}
use Rattle.waff_limits.proofs.writes.add_cells.Goals as goal

pub add_all-requires : goal.add_all-requires
add_all-requires c =
    let sorted = c.sort_unstable.new.self.items in
    let is : c.dedup.new.self.items ≡ dedup cell_eq sorted = dedup_is cell_eq sorted c.dedup.new.self.items c.dedup.ensures.filtered in
    record { rising = rw (c.as_slice-3.ensures.value, is) (IsStrictlySortedBy-dedup cell_cmp_total cell_eq_ties sorted c.sort_unstable.ensures.sorted) }

pub returns : goal.returns
returns c =
    let sharing = option_map (λ l. l.now.spaces) c.args.sharing in
    let messages = c.args.trace.now.messages in
    let message = c.message-message.result.now in
    let here = cells_alone sharing message.ops in
    let pushed = c.push_alone.new.cells.items in
    let sorted = c.sort_unstable.new.self.items in
    let moved = c.sort_unstable.ensures.permutation in
    let cells : pushed ≡ here = c.in_ok-push_alone.ensures ∙ ap (λ xs. xs ++ here) c.new-own.ensures.items in
    let to : (x : Cell) → Contains sorted x → Contains here x = λ x there.
    subst (λ xs. Contains xs x) cells (Contains-permutation sorted pushed x (IsPermutation-sym pushed sorted moved) there) in
    let from : (x : Cell) → Contains here x → Contains sorted x = λ x there.
    Contains-permutation pushed sorted x moved (subst (λ xs. Contains xs x) (sym cells) there) in
    let is : c.as_slice-3.result.now ≡ dedup cell_eq sorted
    = c.as_slice-3.ensures.value ∙ dedup_is cell_eq sorted c.dedup.new.self.items c.dedup.ensures.filtered in
    let same : (cell : Cell) → list_any (is_cell cell) c.as_slice-3.result.now ≡ list_any (is_cell cell) here = λ cell.
    ap (list_any (is_cell cell)) is
    ∙ any_same (dedup cell_eq sorted) here (λ x there. to x (Contains-from_dedup cell_eq sorted x there))
    (λ x there. Contains-dedup cell_eq_equiv cell_eq_same sorted x (from x there)) cell in
    let own : (cell : Cell) → list_any (is_cell cell) c.as_slice-2.result.now ≡ list_any (is_cell cell) here = λ cell.
    ap (list_any (is_cell cell)) c.as_slice-2.ensures.value ∙ any_same sorted here to from cell in
    on_ok_weaker c.add_all.result
    (λ told. record {
      alone = λ are. same_used (edges_of c.add_all.new.self) _ _
          (λ cell. written_by sharing messages c.args.n message c.requires.number c.message-message.ensures.message cell
          (list_any (is_cell cell) c.as_slice-3.result.now) (same cell))
          (told _ are);
      shared = λ are. same_read (readings_of c.add_others.new.self) _ _
          (λ cell. read_by sharing messages c.args.n message c.requires.number c.message-message.ensures.message cell
          (list_any (is_cell cell) c.as_slice.result.now && not (list_any (is_cell cell) c.as_slice-2.result.now))
          (ap₂ (λ a b. a && not b) (ap (list_any (is_cell cell)) c.as_slice.ensures.value
          ∙ has_same messages c.args.n message c.in_ok-cells.cells.items cell c.message-message.ensures.message c.in_ok-cells.ensures) (own cell)))
          (c.in_ok-add_others.ensures _ are);
    })
    c.add_all.ensures

pub push_alone-requires : goal.push_alone-requires
push_alone-requires c = record {
  cells = IfSome_then c.args.sharing c.requires.fits
      (λ layout fits. cells_of_layout c.args.trace.now.sizes layout.now.spaces (cells_of c.message-message.result.now.ops) fits c.message-message.ensures.within.cells);
}
