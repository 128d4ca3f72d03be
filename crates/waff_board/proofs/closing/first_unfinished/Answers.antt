use Rattle.std.proofs.Common.{◌≡◌, slice_index, arith, rules}
use Rattle.std.specs.Slots.{slots_items}
use Rattle.waff_board.specs.declared.view.TheConstants.{DONE}
use Rattle.waff_board.proofs.Sweeps.{below_more}
use Rattle.waff_board.proofs.Takings.{index_there}
use Rattle.waff_board.proofs.closing.first_unfinished.Goals as goal

pub returns-then-word-ne-DONE-clause-some : goal.returns-then-word-ne-DONE-clause-some
returns-then-word-ne-DONE-clause-some c =
    let at = index_there (slots_items c.args.closed.now.words) c.loop-n.n c.word.result c.word.ensures in
    (search rules, search rules, λ two. let is : c.word.result ≡ DONE = omega (arith, at, two) in c.if-word-ne-DONE.true is)

pub loop-n-preserved : goal.loop-n-preserved
loop-n-preserved c =
    let words = slots_items c.args.closed.now.words in
    let at = index_there words c.loop-n.n c.word.result c.word.ensures in
    below_more (λ m. slice_index words m ≡ DONE) c.loop-n.n c.loop-n.invariant (omega (arith, at, c.if-word-ne-DONE.false))

pub returns-clause-none : goal.returns-clause-none
returns-clause-none c =
    λ m from to. c.loop-n.invariant m from (omega (arith, to, c.loop-n-test.false))
