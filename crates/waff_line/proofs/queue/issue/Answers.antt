-- The issue of a message by all that it awaits, as they have finished.
use Rattle.std.proofs.Common.{◌≡◌, ℕ, ◌+◌, ◌-◌, ◌*◌, List, [], ◌∷◌, ◌++◌, drop, get_or, length, arith, ap, sym, ◌∙◌, subst}
use Rattle.std.proofs.lemmas.List.{drop_all, drop_more}
use Rattle.waff_plan.specs.Timing.{awaits_by, timing_of, work_of}
use Rattle.waff_plan.specs.Work.{Await, issue_after}
use Rattle.waff_plan.specs.declared.timing.Awaited.TheVariants.{Every}
use Rattle.waff_plan.specs.declared.timing.Timing.{Timing}
use Rattle.waff_plan.proofs.FollowLemmas.{awaits_none, awaits_one, timing_read}
use Rattle.waff_line.specs.Lined.{issue_noted}
use Rattle.waff_line.specs.Machine.{State, Turn, finish_in}
use Rattle.waff_line.specs.Scaled.{awaits_scaled, scaled}
use Rattle.waff_line.proofs.queue.issue.Goals as goal
use Rattle.waff_line.proofs.queue.issue.Goals.{After-loop-k}

abbrev nobody : Await
nobody = record { message = 0; gap = 0 }

-- the issue by a timing that has been read is that of the message
issue_is : (timings : List Timing) (m tick issue : ℕ) (s : State) (timing : Timing) → timing ≡ timing_of timings m
    → issue ≡ issue_after (finish_in s) (timing.floor * tick) (awaits_scaled tick (awaits_by Every timing))
    → issue ≡ issue_noted (scaled tick (work_of timings)) s m
issue_is timings m tick issue s timing is by_timing =
    subst (λ (t : Timing). issue ≡ issue_after (finish_in s) (t.floor * tick) (awaits_scaled tick (awaits_by Every t))) is by_timing

pub loop-k-init : goal.loop-k-init
loop-k-init c =
    let after = c.as_slice-after.result.now in
    let tick = c.args.tick in
    let floor = c.index-timings-m.result.floor * tick in
    let none : drop (length after) after ≡ [] = drop_all (length after) after (omega arith) in
    c.nanos-issue.ensures ∙ sym (ap (λ (xs : List Await). issue_after (finish_in c.args.notes.now.0) floor (awaits_scaled tick xs)) none)

pub loop-k-preserved : goal.loop-k-preserved
loop-k-preserved c =
    let after = c.as_slice-after.result.now in
    let tick = c.args.tick in
    let s = c.args.notes.now.0 in
    let floor = c.index-timings-m.result.floor * tick in
    let at = c.loop-k.k - 1 in
    let a = get_or after at nobody in
    let next : at + 1 ≡ c.loop-k.k = omega (arith, c.loop-k-test.true) in
    let list : drop at after ≡ a ∷ drop c.loop-k.k after
    = drop_more after at nobody (omega (arith, c.loop-k.auto.k, c.loop-k-test.true)) ∙ ap (λ k. a ∷ drop k after) next in
    let by_list = ap (λ (xs : List Await). issue_after (finish_in s) floor (awaits_scaled tick xs)) list in
    omega (arith, c.max-issue.ensures, ap (λ (turn : Turn). turn.finish) c.turn.ensures.turn, c.nanos.ensures, c.loop-k.invariant, by_list)

-- by all of the list
by_list : (c : After-loop-k) → c.loop-k.issue ≡ issue_after (finish_in c.args.notes.now.0) (c.index-timings-m.result.floor * c.args.tick) (awaits_scaled c.args.tick c.index-timings-m.result.after)
by_list c =
    let tick = c.args.tick in
    let Issue = λ (xs : List Await). c.loop-k.issue ≡ issue_after (finish_in c.args.notes.now.0) (c.index-timings-m.result.floor * tick) (awaits_scaled tick xs) in
    let none : c.loop-k.k ≡ 0 = omega (arith, c.loop-k-test.false) in
    subst Issue c.as_slice-after.ensures (subst (λ k. Issue (drop k c.as_slice-after.result.now)) none c.loop-k.invariant)

pub returns-then-timing-eq0 : goal.returns-then-timing-eq0
returns-then-timing-eq0 c =
    let timing = c.index-timings-m.result in
    let tick = c.args.tick in
    let s = c.args.notes.now.0 in
    let is = timing_read c.args.timings.now c.args.m timing c.requires.number c.index-timings-m.is in
    issue_is c.args.timings.now c.args.m tick c.loop-k.issue s timing is
    (by_list (goal.at.returns-then-timing-eq0 c).After-loop-k
    ∙ sym (ap (λ (xs : List Await). issue_after (finish_in s) (timing.floor * tick) (awaits_scaled tick (xs ++ timing.after)))
    (awaits_none timing.follows timing.think c.if-timing-eq0.true)))

pub returns : goal.returns
returns c =
    let timing = c.index-timings-m.result in
    let tick = c.args.tick in
    let s = c.args.notes.now.0 in
    let is = timing_read c.args.timings.now c.args.m timing c.requires.number c.index-timings-m.is in
    let listed = by_list (goal.at.returns c).After-loop-k in
    let both = ap (λ (xs : List Await). issue_after (finish_in s) (timing.floor * tick) (awaits_scaled tick (xs ++ timing.after)))
    (awaits_one timing.follows timing.think c.if-timing-eq0.false) in
    issue_is c.args.timings.now c.args.m tick c.max.result s timing is
    (omega (arith, c.max.ensures, ap (λ (turn : Turn). turn.finish) c.turn-finish.ensures.turn, c.nanos-2.ensures, listed, both))
