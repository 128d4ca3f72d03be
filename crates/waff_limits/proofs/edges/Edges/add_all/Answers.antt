use Rattle.std.proofs.Common.{◌≡◌, ◌+◌, ℕ, List, get_or, take, arith, subst}
use Rattle.std.proofs.lemmas.List.{get_or_default, take_all}
use Rattle.waff_model.specs.declared.cell.Cell.{Cell}
use Rattle.waff_limits.specs.Data.{used_among}
use Rattle.waff_limits.specs.Edges.{AreUsed, edges_of}
use Rattle.waff_limits.proofs.Cells.{used_more}
use Rattle.waff_limits.proofs.EdgeLemmas.{same_used}
use Rattle.waff_limits.proofs.edges.Edges.add_all.Goals as goal

-- the cell at a place, from 0
abbrev cell_at : List Cell → ℕ → Cell
cell_at cells at = get_or cells at (record { space = 0; index = 0 })

pub loop-at-init : goal.loop-at-init
loop-at-init c = λ used are. same_used _ used _ (λ cell. omega arith) are

pub loop-at-preserved : goal.loop-at-preserved
loop-at-preserved c = λ used are.
    let cells = c.args.cells.now in
    let cell = cell_at cells c.loop-at.at in
    let more = used_more cells c.loop-at.at cell c.loop-at-test.true (get_or_default cells c.loop-at.at cell _ c.loop-at-test.true) used c.args.cost c.requires.rising in
    c.in_ok-add.ensures (used_among (take c.loop-at.at cells) used c.args.cost) (used_among (take (c.loop-at.at + 1) cells) used c.args.cost)
    (c.loop-at.invariant used are) more

pub returns : goal.returns
returns c = λ used are.
    let cells = c.args.cells.now in
    let all : take c.loop-at.at cells ≡ cells = take_all c.loop-at.at cells c.loop-at-test.false in
    subst (λ cs. AreUsed (edges_of c.loop-at.self) (used_among cs used c.args.cost)) all (c.loop-at.invariant used are)
