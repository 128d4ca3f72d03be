use Rattle.std.proofs.Common.{◌≡◌, ℕ, ◌<◌, List, [], length, take, Contains, arith, sym, subst}
use Rattle.std.proofs.lemmas.List.{take_all}
use Rattle.waff_model.specs.Cells.{cells_of, cells_of_op}
use Rattle.waff_model.specs.Layout.{IsCell}
use Rattle.waff_model.specs.Tree.{Node, AtOrAbove}
use Rattle.waff_assign.specs.Lowest.{IsLowest, IsInFootprint}
use Rattle.waff_assign.proofs.Coverings.{lowest_of_both, root_is_lowest}
use Rattle.waff_model.proofs.OpCells.{cells_of_more, cells_of_one, among_all}
use Rattle.waff_assign.proofs.assignment.lowest_of_ops.Goals as goal

pub lowest_of_op-low-requires : goal.lowest_of_op-low-requires
lowest_of_op-low-requires c = cells_of_one (IsCell c.args.layout.now.spaces) c.args.ops.now 0 c.get.result c.get.ensures c.requires.cells

pub loop-index-init : goal.loop-index-init
loop-index-init c = record {
  lowest = subst (λ cells. IsLowest c.args.layout.now (Contains cells) c.lowest_of_op-low.result.0)
      (cells_of_more [] c.args.ops.now 0 c.get.result c.get.ensures) c.lowest_of_op-low.ensures.lowest;
  within = c.lowest_of_op-low.ensures.within;
}

pub returns-then-low-eq0-clause-lowest : goal.returns-then-low-eq0-clause-lowest
returns-then-low-eq0-clause-lowest c =
    let layout = c.args.layout.now in
    let ops = c.args.ops.now in
    let low = c.loop-index.low.0 in
    let top : low ≡ 0 = omega arith in
    let first = subst (λ a. IsLowest layout (IsInFootprint (take c.loop-index.index ops)) a) top c.loop-index.invariant.lowest in
    subst (λ a. IsLowest layout (IsInFootprint ops) a) (sym top)
    (root_is_lowest layout (cells_of (take c.loop-index.index ops)) (cells_of ops) c.space_count.ensures.layout c.requires.cells
    (λ cell has. among_all ops c.loop-index.index cell has) first)

pub lowest_of_op-other-requires : goal.lowest_of_op-other-requires
lowest_of_op-other-requires c =
    cells_of_one (IsCell c.args.layout.now.spaces) c.args.ops.now c.loop-index.index c.get-in-loop-index.result c.get-in-loop-index.ensures c.requires.cells

pub loop-index-preserved : goal.loop-index-preserved
loop-index-preserved c =
    let layout = c.args.layout.now in
    let ops = c.args.ops.now in
    let index = c.loop-index.index in
    let op = c.get-in-loop-index.result in
    let first = c.loop-index.low.0 in
    let second = c.lowest_of_op-other.result.0 in
    let low = c.lowest_above-low.result.0 in
    let h = c.lowest_above-low.ensures in
    let same = c.tree.ensures in
    record {
      lowest = subst (λ cells. IsLowest layout (Contains cells) low) (cells_of_more [] ops index op c.get-in-loop-index.ensures)
          (lowest_of_both layout (cells_of (take index ops)) (cells_of_op op) first second low
          c.loop-index.invariant.lowest c.lowest_of_op-other.ensures.lowest
          (subst (λ (t : List Node). AtOrAbove t low first) same h.first)
          (subst (λ (t : List Node). AtOrAbove t low second) same h.second)
          (subst (λ (t : List Node). (a : ℕ) → AtOrAbove t a first → AtOrAbove t a second → AtOrAbove t a low) same h.lowest));
      within = subst (λ (t : List Node). low < length t) same h.within;
    }

pub returns-clause-lowest : goal.returns-clause-lowest
returns-clause-lowest c =
    let ops = c.args.ops.now in
    let all : take c.loop-index.index ops ≡ ops = take_all c.loop-index.index ops (omega arith) in
    subst (λ list. IsLowest c.args.layout.now (IsInFootprint list) c.loop-index.low.0) all c.loop-index.invariant.lowest
