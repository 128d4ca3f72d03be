use Rattle.std.proofs.Common.{◌≡◌, ◌++◌, Contains, sym, ◌∙◌, ap, subst}
use Rattle.std.specs.List.{dedup}
use Rattle.std.proofs.lemmas.List.Filters.{dedup_is}
use Rattle.std.proofs.lemmas.List.Kept.{Contains-dedup, Contains-from_dedup, IsStrictlySortedBy-dedup}
use Rattle.std.proofs.lemmas.List.Sorted.{Contains-permutation, IsPermutation-sym}
use Rattle.std.proofs.lemmas.Option.{same_Some}
use Rattle.waff_model.specs.Cells.{cells_of}
use Rattle.waff_model.specs.declared.message.Message.{Message}
use Rattle.waff_assign.specs.Lowest.{IsInFootprint}
use Rattle.waff_assign.proofs.CellOrder.{cell_eq, cell_cmp_total, cell_eq_equiv, cell_eq_same, cell_eq_ties}
use Rattle.waff_assign.proofs.footprints.footprint.Goals as goal

pub returns : goal.returns
returns c =
    let message = c.message.result.now in
    let cells : c.push_cells.new.cells.items ≡ cells_of message.ops
    = c.in_ok-push_cells.ensures ∙ ap (λ xs. xs ++ cells_of message.ops) c.new-cells.ensures.items in
    let moved = c.sort_unstable.ensures.permutation in
    let sorted = c.sort_unstable.new.self.items in
    let is : c.dedup.new.self.items ≡ dedup cell_eq sorted = dedup_is cell_eq sorted c.dedup.new.self.items c.dedup.ensures.filtered in
    record {
      each = λ other at cell.
          let same : message ≡ other = same_Some message other (sym c.message.ensures.message ∙ at) in (
            λ has.
                subst (λ (x : Message). IsInFootprint x.ops cell) same
                (subst (λ xs. Contains xs cell) cells
                (Contains-permutation _ _ cell (IsPermutation-sym _ _ moved)
                (Contains-from_dedup cell_eq sorted cell (subst (λ xs. Contains xs cell) is has)))),
            λ used.
                subst (λ xs. Contains xs cell) (sym is)
                (Contains-dedup cell_eq_equiv cell_eq_same sorted cell
                (Contains-permutation _ _ cell moved
                (subst (λ xs. Contains xs cell) (sym cells) (subst (λ (x : Message). IsInFootprint x.ops cell) (sym same) used)))),
          );
      rising = rw is (IsStrictlySortedBy-dedup cell_cmp_total cell_eq_ties sorted c.sort_unstable.ensures.sorted);
    }
