-- Each message enters with those that it awaits.
use Rattle.std.proofs.Common.{◌≡◌, ℕ, ◌+◌, ◌-◌, ◌<◌, ◌≤◌, List, ◌∷◌, [], ◌++◌, length, get_or, map, refl, arith, ◌∙◌, ap, subst}
use Rattle.std.specs.List.{range_with_len}
use Rattle.waff_plan.specs.Awaiting.{awaited_by}
use Rattle.waff_plan.specs.Timing.{awaits_by, timing_of, work_of}
use Rattle.waff_plan.specs.Work.{Await, IsAwaited, IsNumber}
use Rattle.waff_plan.specs.declared.timing.Awaited.TheVariants.{Every}
use Rattle.waff_plan.specs.declared.timing.Timing.{Timing}
use Rattle.waff_waits.specs.Waits.{AreWaits, Enters}
use Rattle.waff_waits.proofs.Waiting.{waits_none}
use Rattle.waff_plan.proofs.AwaitingLemmas.{needs_count, none_taken, range_more, waits_more}
use Rattle.waff_plan.proofs.FollowLemmas.{timing_read}
use Rattle.waff_plan.proofs.awaiting.awaiting.Goals as goal

-- the timing that is read
read : (timings : List Timing) (m : ℕ) (timing : Timing) → 1 ≤ m → m < length timings + 1 → timing ≡ get_or timings (m - 1) timing → timing ≡ timing_of timings m
read timings m timing from to is = timing_read timings m timing (record { from = from; to = omega (arith, to) }) is

pub loop-m-init : goal.loop-m-init
loop-m-init c =
    let work = work_of c.args.timings.now in
    rw c.in_ok-waits.ensures (record {
      waits = waits_none (awaited_by work) (length c.args.timings.now) (needs_count work);
      none = refl;
    })

pub enter-requires-clause-awaited : goal.enter-requires-clause-awaited
enter-requires-clause-awaited c = λ i awaited.
    let work = work_of c.args.timings.now in
    let sooner = c.requires.earlier i c.loop-m.m (subst (λ (t : Timing). IsAwaited (awaits_by Every t) i) (read c.args.timings.now c.loop-m.m c.index-timings-m.result c.loop-m.auto.m c.loop-m-test.true c.index-timings-m.is) awaited) in
    let count : length c.loop-m.waits.awaited ≡ work.count = c.loop-m.invariant.waits.count ∙ needs_count work in
    record { from = sooner.from; to = omega (arith, sooner.earlier, sooner.to, count) }

pub loop-m-preserved : goal.loop-m-preserved
loop-m-preserved c =
    let work = work_of c.args.timings.now in
    let needs = awaited_by work in
    let m = c.loop-m.m in
    let h = c.loop-m.invariant in
    let back : m + 1 - 1 ≡ m = omega arith in
    let before : 1 + (m - 1) ≡ m = omega (arith, c.loop-m.auto.m) in
    let number : IsNumber work m = record { from = c.loop-m.auto.m; to = omega (arith, c.loop-m-test.true) } in
    let listed : range_with_len 1 (m - 1) ++ m ∷ [] ≡ range_with_len 1 m
    = range_more (m - 1) m before ∙ ap (range_with_len 1) (let same : m - 1 + 1 ≡ m = omega (arith, before) in same) in
    rw back (record {
      waits = subst (λ xs. AreWaits xs needs c.enter.new.waits) listed
          (waits_more work m number c.loop-m.waits c.enter.new.waits h.waits
          (subst (λ (t : Timing). Enters c.loop-m.waits m (map (λ (a : Await). a.message) (awaits_by Every t)) c.enter.new.waits)
          (read c.args.timings.now m c.index-timings-m.result c.loop-m.auto.m c.loop-m-test.true c.index-timings-m.is) c.in_ok-enter.ensures));
      none = c.in_ok-enter.ensures.finished ∙ h.none;
    })

pub returns : goal.returns
returns c =
    let work = work_of c.args.timings.now in
    none_taken work c.loop-m.waits
    (subst (λ n. AreWaits (range_with_len 1 n) (awaited_by work) c.loop-m.waits)
    (let all : c.loop-m.m - 1 ≡ work.count = omega (arith, c.loop-m-test.false, c.loop-m.auto.m-end) in all) c.loop-m.invariant.waits)
    c.loop-m.invariant.none
