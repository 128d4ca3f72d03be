-- The issue of a message by all that it awaits.
use Rattle.std.proofs.Common.{◌≡◌, ℕ, ◌+◌, ◌-◌, ◌^◌, ◌<◌, List, length, get_or, arith, ap, sym, ◌∙◌, subst}
use Rattle.waff_plan.specs.Timing.{start_of, timing_of, work_of}
use Rattle.waff_plan.specs.Work.{Await, IsAwaited, finish_of}
use Rattle.waff_plan.specs.declared.timing.Timing.{Timing}
use Rattle.waff_plan.proofs.AwaitLemmas.{awaited_at, issue_from}
use Rattle.waff_plan.proofs.FollowLemmas.{followed_awaited, listed_awaited, timing_read}
use Rattle.waff_plan.proofs.timing.issue.Goals as goal

abbrev nobody : Await
nobody = record { message = 0; gap = 0 }

-- one that stands in its list is awaited
listed : (timings : List Timing) (m : ℕ) (timing : Timing) (after : List Await) (k : ℕ) → timing ≡ timing_of timings m → after ≡ timing.after → k < length after
    → IsAwaited ((work_of timings).awaits m) (get_or after k nobody).message
listed timings m timing after k is same within =
    listed_awaited timings m (get_or after k nobody).message
    (subst (λ xs. IsAwaited xs (get_or after k nobody).message) (same ∙ ap (λ (t : Timing). t.after) is) (awaited_at after k nobody within))

pub finish-requires-clause-number : goal.finish-requires-clause-number
finish-requires-clause-number c =
    let is = timing_read c.args.timings.now c.args.m c.index-timings-m.result c.requires.number c.index-timings-m.is in
    let after = c.as_slice-after.result.now in
    let k = c.loop-k.k - 1 in
    let awaited = listed c.args.timings.now c.args.m c.index-timings-m.result after k is c.as_slice-after.ensures (omega (arith, c.loop-k-test.true, c.loop-k.auto.k)) in
    let before = c.requires.earlier (get_or after k nobody).message c.args.m awaited in
    record { from = before.from; to = omega (arith, before.earlier, before.to) }

pub finish-requires-clause-early : goal.finish-requires-clause-early
finish-requires-clause-early c =
    let is = timing_read c.args.timings.now c.args.m c.index-timings-m.result c.requires.number c.index-timings-m.is in
    let after = c.as_slice-after.result.now in
    let k = c.loop-k.k - 1 in
    c.requires.early (get_or after k nobody).message
    (listed c.args.timings.now c.args.m c.index-timings-m.result after k is c.as_slice-after.ensures (omega (arith, c.loop-k-test.true, c.loop-k.auto.k)))

pub finish-requires-2-clause-number : goal.finish-requires-2-clause-number
finish-requires-2-clause-number c =
    let is = timing_read c.args.timings.now c.args.m c.index-timings-m.result c.requires.number c.index-timings-m.is in
    let f = ap (λ (t : Timing). t.follows) is in
    let before = c.requires.earlier (timing_of c.args.timings.now c.args.m).follows c.args.m (followed_awaited c.args.timings.now c.args.m (λ none. c.if-before-eq0.false (f ∙ none))) in
    record { from = omega (arith, f, before.from); to = omega (arith, f, before.earlier, before.to) }

pub finish-requires-2-clause-early : goal.finish-requires-2-clause-early
finish-requires-2-clause-early c =
    let is = timing_read c.args.timings.now c.args.m c.index-timings-m.result c.requires.number c.index-timings-m.is in
    let f = ap (λ (t : Timing). t.follows) is in
    subst (λ i. start_of c.args.starts.now i + 2 ^ 33 < 2 ^ 64) (sym f)
    (c.requires.early (timing_of c.args.timings.now c.args.m).follows (followed_awaited c.args.timings.now c.args.m (λ none. c.if-before-eq0.false (f ∙ none))))

pub loop-k-preserved : goal.loop-k-preserved
loop-k-preserved c =
    let after = c.as_slice-after.result.now in
    let work = work_of c.args.timings.now in
    let finish = finish_of work (start_of c.args.starts.now) in
    let floor = c.index-timings-m.result.floor in
    record {
      issue = omega (
        arith,
        c.max-issue.ensures,
        c.finish.ensures.finish,
        c.from.ensures,
        c.loop-k.invariant.issue,
        issue_from after c.loop-k.k nobody (omega (arith, c.loop-k-test.true)) (omega (arith, c.loop-k.auto.k)) finish floor,
      );
    }
