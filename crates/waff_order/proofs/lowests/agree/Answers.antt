use Rattle.std.proofs.Common.{rules, ◌≡◌, ◌<◌, length, Some, None, arith, refl, sym, ◌∙◌}
use Rattle.std.proofs.lemmas.Bool.{false≢true}
use Rattle.waff_order.specs.Lowests.{above_of}
use Rattle.waff_order.proofs.CarryLemmas.{carried_alone, carried_more, carried_apart, carried_all}
use Rattle.waff_order.proofs.lowests.agree.Goals as goal

pub loop-a-preserved-in_default : goal.loop-a-preserved-in_default
loop-a-preserved-in_default c =
    let none : above_of c.args.tree.now c.loop-a.lowests c.loop-a.a ≡ None = sym c.noted_above.ensures ∙ c.in_default.is in
    carried_alone c.args.tree.now c.args.coarse_tree.now c.args.lowests.now c.len-a-end.ensures.tree.rooted c.loop-a.a c.loop-a.lowests none
    c.loop-a.invariant

pub returns-in_default-lower : goal.returns-in_default-lower
returns-in_default-lower c =
    let is : above_of c.args.tree.now c.loop-a.lowests c.loop-a.a ≡ Some c.in-Some.above = sym c.noted_above.ensures ∙ c.in-Some.is in
    record {
      agree = λ t. absurd (false≢true t);
      all = λ agree. absurd (carried_apart c.args.tree.now c.args.coarse_tree.now c.args.lowests.now c.len-a-end.ensures.tree.rooted c.loop-a.a
          c.loop-a.lowests c.in-Some.above is c.in_default-lower.ensures.0 c.loop-a.invariant (agree c.in_default-lower.ensures.1));
    }

pub loop-a-preserved : goal.loop-a-preserved
loop-a-preserved c =
    let is : above_of c.args.tree.now c.loop-a.lowests c.loop-a.a ≡ Some c.in-Some.above = sym c.noted_above.ensures ∙ c.in-Some.is in
    let within : c.loop-a.a < length c.loop-a.lowests = search rules in
    carried_more c.args.tree.now c.args.coarse_tree.now c.args.lowests.now c.len-a-end.ensures.tree.rooted c.loop-a.a c.loop-a.lowests
    c.in-Some.above c.in-Some-lower.low within is c.in-Some-lower.ensures c.loop-a.invariant

pub returns : goal.returns
returns c = record {
  agree = λ _. carried_all c.args.tree.now c.args.coarse_tree.now c.args.lowests.now c.loop-a.a c.loop-a.lowests
      (let done = c.loop-a-test.false in omega (arith, done, c.requires.count, c.len-a-end.ensures.count)) c.loop-a.invariant;
  all = λ _. refl;
}
