use Rattle.std.proofs.Common.{◌≡◌, ◌-◌, length, get_or, arith, ap, sym, ◌∙◌, subst}
use Rattle.std.proofs.lemmas.List.{get_or_read}
use Rattle.waff_plan.specs.Timetable.{Timetable}
use Rattle.waff_plan.specs.Timing.{await_of, no_timing, timing_of}
use Rattle.waff_plan.specs.Work.{IsAmongFirst, IsAwaited}
use Rattle.waff_plan.specs.declared.timing.Timing.{Timing}
use Rattle.waff_plan.proofs.AwaitLemmas.{awaited_at, awaited_right}
use Rattle.waff_plan.proofs.timetable.Plan.after.Goals as goal

pub returns-clause-earlier : goal.returns-clause-earlier
returns-clause-earlier c = λ k d within.
    let timings = c.self.inside.timings.items in
    let number = subst (λ (t : Timetable). IsAmongFirst (length t.timings) c.args.n) (sym c.self.view_is) c.requires.number in
    let read : c.index.result.now ≡ timing_of timings c.args.n
    = get_or_read timings (c.args.n - 1) c.index.result.now (omega (arith, number.from, number.to)) c.index.ensures no_timing in
    let timing = timing_of timings c.args.n in
    let i = (get_or c.as_slice.result.now k d).message in
    let listed : IsAwaited timing.after i
    = subst (λ xs. IsAwaited xs i) (c.as_slice.ensures ∙ ap (λ (t : Timing). t.after) read) (awaited_at c.as_slice.result.now k d within) in
    let before = c.self.invariant.timings.earlier i c.args.n (awaited_right (await_of timing.follows timing.think) timing.after i listed) in
    (before.from, before.earlier)
