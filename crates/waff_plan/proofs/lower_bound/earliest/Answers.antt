-- The finish of a message by those of the messages that it awaits.
use Rattle.std.proofs.Common.{◌≡◌, ◌≢◌, ℕ, ◌+◌, ◌-◌, ◌^◌, ◌≤◌, List, [], refl, get_or, arith, sym, ◌∙◌, ap, subst}
use Rattle.std.proofs.lemmas.List.{get_or_default}
use Rattle.waff_plan.specs.LowerBound.{earliest_finish}
use Rattle.waff_plan.specs.Timing.{await_of, awaits_by, timing_of, work_by, work_of}
use Rattle.waff_plan.specs.declared.timing.Timing.{Timing}
use Rattle.waff_plan.proofs.AwaitLemmas.{issue_after-append}
use Rattle.waff_plan.specs.Work.{Await, IsAwaited, issue_after}
use Rattle.waff_plan.specs.declared.timing.Awaited.{Awaited}
use Rattle.waff_plan.specs.declared.timing.Awaited.TheVariants.{Client, Every}
use Rattle.waff_plan.proofs.FollowLemmas.{earlier_by, followed_awaited, issue_after_none, issue_after_one, listed_awaited}
use Rattle.waff_plan.proofs.Holding.{issue_again}
use Rattle.waff_plan.proofs.LowerBounds.{each_small, earliest_is, finish_at, timing_limits}
use Rattle.waff_plan.proofs.lower_bound.earliest.Goals as goal
use Rattle.waff_plan.proofs.lower_bound.earliest.Goals.{After-len-messages, After-follows-before, in-Client, in-Every, then-before-eq0, else-before-eq0}

-- the finishes so far are small
early : (c : After-len-messages) → (i : ℕ) → get_or c.args.finishes.now i 0 ≤ 2 ^ 46
early c i =
    let work = work_by c.args.awaited c.args.plan.now.timings in
    let timings = c.len-messages.ensures.table.timings in
    let few = c.len-messages.ensures.table.few in
    let small = each_small work c.args.finishes.now c.requires.finishes (omega (arith, c.requires.before, c.requires.number.to))
    (earlier_by c.args.awaited c.args.plan.now.timings timings.earlier) (timing_limits c.args.awaited c.args.plan.now.timings timings.small) i in
    omega (arith, small, c.requires.before, c.requires.number.to, few)

-- what is awaited has its finish
read : (c : After-follows-before) → (i : ℕ) → IsAwaited ((work_of c.args.plan.now.timings).awaits c.args.n) i
    → get_or c.args.finishes.now (i - 1) 0 ≡ earliest_finish (work_by c.args.awaited c.args.plan.now.timings) i
read c i awaited =
    let work = work_by c.args.awaited c.args.plan.now.timings in
    let before = c.len-messages.ensures.table.timings.earlier i c.args.n awaited in
    let at = finish_at work c.args.finishes.now c.requires.finishes (omega (arith, c.requires.before, c.requires.number.to)) (i - 1) (omega (arith, before.from, before.earlier, c.requires.before)) in
    at ∙ ap (earliest_finish work) (let same : i - 1 + 1 ≡ i = omega (arith, before.from) in same)

pub issue_behind-listed-requires-clause-known : goal.issue_behind-listed-requires-clause-known
issue_behind-listed-requires-clause-known c = λ i listed.
    let before = c.len-messages.ensures.table.timings.earlier i c.args.n
    (listed_awaited c.args.plan.now.timings c.args.n i (subst (λ xs. IsAwaited xs i) c.after.ensures.after listed)) in
    record { from = before.from; to = omega (arith, before.earlier, c.requires.before) }

pub issue_behind-listed-requires-clause-early : goal.issue_behind-listed-requires-clause-early
issue_behind-listed-requires-clause-early c = λ k d within.
    let small = early (goal.at.issue_behind-listed-requires-clause-early c).After-len-messages k in
    omega (arith, small, get_or_default c.args.finishes.now k d 0 within)

-- the issue by the list, where it counts
listed_small : (c : After-follows-before) → c.match-awaited.listed ≤ 2 ^ 47
listed_small c = elim c.match-awaited.branch [
  | in-Client w ↦ omega (arith, w.listed-is, w.release-listed.ensures.small)
  | in-Every w ↦ omega (arith, w.listed-is, w.release.ensures.small, w.issue_behind-listed.ensures.early)
]

pub overflow_add-finishes : goal.overflow_add-finishes
overflow_add-finishes c =
    let small = early (goal.at.overflow_add-finishes c).After-len-messages (c.follows-before.result - 1) in
    omega (arith, small, c.think.ensures.small)

pub overflow_add-result : goal.overflow_add-result
overflow_add-result c =
    let small = early (goal.at.overflow_add-result c).After-len-messages (c.follows-before.result - 1) in
    let listed = listed_small (goal.at.overflow_add-result c).After-follows-before in
    elim c.if-before-eq0.branch [
      | then-before-eq0 w ↦ omega (arith, w.issue-is, listed, c.cost.ensures.small)
      | else-before-eq0 w ↦ omega (arith, w.issue-is, listed, w.max-issue.ensures, w.think.ensures.small, small, c.cost.ensures.small)
    ]

-- what of the list counts
abbrev list_by : Awaited → Timing → List Await
list_by Client timing = []
list_by Every timing = timing.after

by_parts : (awaited : Awaited) (timing : Timing) (finish : ℕ → ℕ) (floor : ℕ) → issue_after finish floor (awaits_by awaited timing)
    ≡ issue_after finish (issue_after finish floor (list_by awaited timing)) (await_of timing.follows timing.think)
by_parts Client timing finish floor = refl
by_parts Every timing finish floor = issue_after-append finish floor (await_of timing.follows timing.think) timing.after

listed_is : (c : After-follows-before) → c.match-awaited.listed ≡ issue_after (earliest_finish (work_by c.args.awaited c.args.plan.now.timings))
    (timing_of c.args.plan.now.timings c.args.n).floor (list_by c.args.awaited (timing_of c.args.plan.now.timings c.args.n))
listed_is c =
    let timing = timing_of c.args.plan.now.timings c.args.n in
    let finish = earliest_finish (work_by c.args.awaited c.args.plan.now.timings) in
    let at = λ (i : ℕ). get_or c.args.finishes.now (i - 1) 0 in
    elim c.match-awaited.branch [
      | in-Client w ↦ subst (λ awaited. c.match-awaited.listed ≡ issue_after finish timing.floor (list_by awaited timing)) (sym w.in-Client.is)
          (w.listed-is ∙ w.release-listed.ensures.release)
      | in-Every w ↦
          let again = issue_again at finish timing.floor timing.after (λ i listed. read c i (listed_awaited c.args.plan.now.timings c.args.n i listed)) in
          subst (λ awaited. c.match-awaited.listed ≡ issue_after finish timing.floor (list_by awaited timing)) (sym w.in-Every.is)
          (w.listed-is ∙ w.issue_behind-listed.ensures.issue ∙ ap (λ floor. issue_after at floor w.after.result.now) w.release.ensures.release
          ∙ ap (issue_after at timing.floor) w.after.ensures.after ∙ again)
    ]

pub returns : goal.returns
returns c =
    let timings = c.args.plan.now.timings in
    let work = work_by c.args.awaited timings in
    let n = c.args.n in
    let timing = timing_of timings n in
    let finish = earliest_finish work in
    let f = c.follows-before.ensures.follows in
    let by = earliest_is work (earlier_by c.args.awaited timings c.len-messages.ensures.table.timings.earlier) n c.requires.number in
    let parts = by_parts c.args.awaited timing finish timing.floor in
    let listed = listed_is (goal.at.returns c).After-follows-before in
    let behind = issue_after finish timing.floor (list_by c.args.awaited timing) in
    elim c.if-before-eq0.branch [
      | then-before-eq0 w ↦
          let none = issue_after_none finish behind timing.follows timing.think (sym f ∙ w.if-before-eq0.true) in
          omega (arith, w.issue-is, listed, none, parts, by, c.cost.ensures.cost)
      | else-before-eq0 w ↦
          let some : timing.follows ≢ 0 = λ none. w.if-before-eq0.false (f ∙ none) in
          let one = issue_after_one finish behind timing.follows timing.think some in
          let at = ap (λ i. get_or c.args.finishes.now (i - 1) 0) f ∙ read (goal.at.returns c).After-follows-before timing.follows (followed_awaited timings n some) in
          omega (arith, w.issue-is, w.max-issue.ensures, w.think.ensures.think, listed, one, at, parts, by, c.cost.ensures.cost)
    ]
