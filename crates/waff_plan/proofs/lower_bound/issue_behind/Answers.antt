-- One message more that is awaited.
use Rattle.std.proofs.Common.{◌-◌, ◌<◌, length, get_or, arith}
use Rattle.waff_plan.specs.Work.{Await}
use Rattle.waff_plan.proofs.AwaitLemmas.{awaited_at, issue_from}
use Rattle.waff_plan.proofs.lower_bound.issue_behind.Goals as goal

abbrev nobody : Await
nobody = record { message = 0; gap = 0 }

pub overflow_sub-message : goal.overflow_sub-message
overflow_sub-message c =
    let k = c.loop-k.k - 1 in
    (c.requires.known (get_or c.args.after.now k nobody).message (awaited_at c.args.after.now k nobody (omega (arith, c.loop-k-test.true, c.loop-k.auto.k)))).from

pub bounds-finishes-message : goal.bounds-finishes-message
bounds-finishes-message c =
    let k = c.loop-k.k - 1 in
    let number = c.requires.known (get_or c.args.after.now k nobody).message (awaited_at c.args.after.now k nobody (omega (arith, c.loop-k-test.true, c.loop-k.auto.k))) in
    omega (arith, number.from, number.to)

pub overflow_add-finishes : goal.overflow_add-finishes
overflow_add-finishes c =
    let k = c.loop-k.k - 1 in
    let inside : k < length c.args.after.now = omega (arith, c.loop-k-test.true, c.loop-k.auto.k) in
    let number = c.requires.known (get_or c.args.after.now k nobody).message (awaited_at c.args.after.now k nobody inside) in
    omega (arith, c.requires.early ((get_or c.args.after.now k nobody).message - 1) 0 (omega (arith, number.from, number.to)), c.requires.gaps k nobody inside, c.from.ensures)

pub loop-k-preserved : goal.loop-k-preserved
loop-k-preserved c =
    let after = c.args.after.now in
    let k = c.loop-k.k - 1 in
    let inside : k < length after = omega (arith, c.loop-k-test.true, c.loop-k.auto.k) in
    let number = c.requires.known (get_or after k nobody).message (awaited_at after k nobody inside) in
    let small = c.requires.early ((get_or after k nobody).message - 1) 0 (omega (arith, number.from, number.to)) in
    let gap = c.requires.gaps k nobody inside in
    record {
      issue = omega (
        arith,
        c.max-issue.ensures,
        c.from.ensures,
        c.loop-k.invariant.issue,
        issue_from after c.loop-k.k nobody (omega (arith, c.loop-k-test.true)) (omega (arith, c.loop-k.auto.k)) (λ i. get_or c.args.finishes.now (i - 1) 0) c.args.floor,
      );
      early = omega (arith, c.max-issue.ensures, c.from.ensures, c.loop-k.invariant.early, small, gap);
    }
