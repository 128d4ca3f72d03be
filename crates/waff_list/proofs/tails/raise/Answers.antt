use Rattle.std.proofs.Common.{◌+◌, List, [], Contains, take, ℕ, arith, sym, subst}
use Rattle.std.proofs.lemmas.List.{take_all}
use Rattle.waff_model.proofs.Members.{in_none}
use Rattle.waff_list.specs.Tails.{AreRaised}
use Rattle.waff_list.proofs.TailMaking.{raised_listed, raised_none}
use Rattle.waff_list.proofs.tails.raise.Goals as goal

pub loop-m-init : goal.loop-m-init
loop-m-init c = raised_none c.args.tails.now (Contains []) (λ m. 0) c.args.tail (λ m there. in_none m there)

pub loop-m-preserved : goal.loop-m-preserved
loop-m-preserved c =
    let at = c.loop-m.m-index in
    let number = c.requires at 0 c.loop-m-test.true in
    subst (λ (xs : List ℕ). AreRaised c.args.tails.now (Contains (take (at + 1) c.args.messages.now)) (λ m. 0) c.args.tail xs) (sym c.raise_to.ensures)
    (raised_listed c.args.tails.now c.loop-m.tails c.args.messages.now c.args.tail at c.loop-m-test.true
    (record { from = number.from; to = omega (arith, number.to, c.loop-m.invariant.count) }) c.loop-m.invariant)

pub returns : goal.returns
returns c =
    subst (λ (xs : List ℕ). AreRaised c.args.tails.now (Contains xs) (λ m. 0) c.args.tail c.loop-m.tails)
    (take_all c.loop-m.m-index c.args.messages.now c.loop-m-test.false) c.loop-m.invariant
