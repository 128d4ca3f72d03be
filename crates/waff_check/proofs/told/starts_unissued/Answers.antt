-- A message that follows none awaits none, and what follows one awaits that one alone.
use Rattle.std.proofs.Common.{◌≡◌, ◌≢◌, ◌<◌, arith, sym, ◌∙◌, ap, subst}
use Rattle.std.proofs.lemmas.Bool.{lt-ltb, ltb-true}
use Rattle.waff_plan.specs.Timetable.{client_work_in, starts_in}
use Rattle.waff_plan.specs.Timing.{timing_of}
use Rattle.waff_plan.specs.Work.{IsAwaited, gap_of, holds_until}
use Rattle.waff_plan.proofs.FollowLemmas.{awaited_is, awaits_it, awaits_none, none_awaited}
use Rattle.waff_check.proofs.ServedLaws.{gap_after_one}
use Rattle.waff_check.proofs.told.starts_unissued.Goals as goal

pub returns-then-followed-eq0 : goal.returns-then-followed-eq0
returns-then-followed-eq0 c =
    let work = client_work_in c.args.plan.now in
    let timing = timing_of c.args.plan.now.timings c.args.n in
    let none = awaits_none timing.follows timing.think (sym c.follows-followed.ensures.follows ∙ c.if-followed-eq0.true) in
    (λ t. absurd (cc t), λ early. absurd (none_awaited (work.awaits c.args.n) early.awaited none early.held.awaits))

pub returns : goal.returns
returns c =
    let work = client_work_in c.args.plan.now in
    let start = starts_in c.args.plan.now in
    let n = c.args.n in
    let timing = timing_of c.args.plan.now.timings n in
    let f = c.follows-followed.result in
    let is : f ≡ timing.follows = c.follows-followed.ensures.follows in
    let some : timing.follows ≢ 0 = λ none. c.if-followed-eq0.false (is ∙ none) in
    let gap : gap_of work f n ≡ timing.think = ap (λ i. gap_of work i n) is ∙ gap_after_one timing.follows timing.think some in (
      λ t. record {
        awaited = f;
        held = record {
          number = c.requires.number;
          awaits = subst (IsAwaited (work.awaits n)) (sym is) (awaits_it timing.follows timing.think some);
          early = omega (arith, gap, ltb-true _ _ t, c.start.ensures.start, c.finish.ensures.finish, c.think.ensures.think);
        };
      },
      λ early.
          let same : f ≡ early.awaited = is ∙ awaited_is timing.follows timing.think early.awaited early.held.awaits in
          let sooner : start n < holds_until work start n f = subst (λ i. start n < holds_until work start n i) (sym same) early.held.early in
          lt-ltb _ _ (omega (arith, gap, sooner, c.start.ensures.start, c.finish.ensures.finish, c.think.ensures.think)),
    )
