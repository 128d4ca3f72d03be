use Rattle.std.proofs.Common.{◌≡◌, ℕ, ◌+◌, ◌&&◌, not, Bool, true, cond, max, List, get_or, take, sym, ◌∙◌, ap, subst, arith}
use Rattle.std.specs.List.{list_any}
use Rattle.std.proofs.lemmas.List.{get_or_default, take_all}
use Rattle.waff_model.specs.declared.cell.Cell.{Cell}
use Rattle.waff_assign.proofs.CellOrder.{cell_eq_same}
use Rattle.waff_limits.specs.Data.{is_cell}
use Rattle.waff_limits.specs.Readings.{AreRead, readings_of}
use Rattle.waff_limits.proofs.Cells.{is_turned, one_more}
use Rattle.waff_limits.proofs.SkyLemmas.{none_read, one_read, same_read}
use Rattle.waff_limits.proofs.readings.Readings.add_others.Goals as goal
use Rattle.waff_limits.proofs.readings.Readings.add_others.Goals.{then-not-has+in_ok-add, else-not-has}

abbrev cell_at : List Cell → ℕ → Cell
cell_at cells at = get_or cells at (record { space = 0; index = 0 })

-- the peak with the first cells
abbrev so_far : (Cell → ℕ) → List Cell → List Cell → ℕ → Cell → ℕ
so_far peak cells written cost x = max (peak x) (cond (list_any (is_cell x) cells && not (list_any (is_cell x) written)) cost 0)

-- whether a cell that is this one is written
written_there : (written : List Cell) (cell other : Cell) (b : Bool) → b ≡ list_any (is_cell cell) written → is_cell other cell ≡ true → not (list_any (is_cell other) written) ≡ not b
written_there written cell other b is same = ap (λ x. not (list_any (is_cell x) written)) (cell_eq_same other cell same) ∙ ap not (sym is)

pub loop-at-preserved : goal.loop-at-preserved
loop-at-preserved c =
    let cells = c.args.cells.now in
    let written = c.args.written.now in
    let cost = c.args.cost in
    let at = c.loop-at.at in
    let cell = cell_at cells at in
    let within = c.loop-at-test.true in
    let more = λ (other : Cell). one_more cells at cell within (get_or_default cells at cell _ within) other in
    elim c.if-not-has.branch [
      | then-not-has+in_ok-add w ↦ rw w.self-is (λ peak are.
          let prev : Cell → ℕ = so_far peak (take at cells) written cost in
          same_read (readings_of w.add.new.self) (λ other. max (prev other) (cond (is_cell cell other) cost 0)) (so_far peak (take (at + 1) cells) written cost)
          (λ other.
          ap (λ b. max (prev other) (cond b cost 0)) (is_turned cell other)
          ∙ one_read (list_any (is_cell other) (take at cells)) (is_cell other cell) (not (list_any (is_cell other) written)) (peak other) cost
          (λ same. written_there written cell other c.has.result c.has.ensures same ∙ ap not w.if-not-has.true)
          ∙ ap (λ b. max (peak other) (cond (b && not (list_any (is_cell other) written)) cost 0)) (sym (more other)))
          (w.in_ok-add.ensures prev (c.loop-at.invariant peak are)))
      | else-not-has w ↦ rw w.self-is (λ peak are.
          same_read (readings_of c.loop-at.self) (so_far peak (take at cells) written cost) (so_far peak (take (at + 1) cells) written cost)
          (λ other.
          ap (λ b. max (peak other) (cond b cost 0))
          (none_read (list_any (is_cell other) (take at cells)) (is_cell other cell) (not (list_any (is_cell other) written))
          (λ same. written_there written cell other c.has.result c.has.ensures same ∙ ap not w.if-not-has.false)
          ∙ ap (λ b. b && not (list_any (is_cell other) written)) (sym (more other))))
          (c.loop-at.invariant peak are))
    ]

pub returns : goal.returns
returns c = λ peak are.
    let cells = c.args.cells.now in
    subst (λ cs. AreRead (readings_of c.loop-at.self) (so_far peak cs c.args.written.now c.args.cost)) (take_all c.loop-at.at cells c.loop-at-test.false)
    (c.loop-at.invariant peak are)

pub loop-at-init : goal.loop-at-init
loop-at-init c = λ peak are. same_read _ peak _ (λ cell. omega arith) are
