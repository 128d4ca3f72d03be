use Rattle.std.proofs.Common.{◌-◌, length, arith, ap, sym, subst}
use Rattle.std.proofs.lemmas.List.{get_or_read}
use Rattle.waff_plan.specs.Timetable.{Timetable}
use Rattle.waff_plan.specs.Timing.{no_timing}
use Rattle.waff_plan.specs.Work.{IsAmongFirst}
use Rattle.waff_plan.specs.declared.timing.Timing.{Timing}
use Rattle.waff_plan.proofs.FollowLemmas.{follows_earlier}
use Rattle.waff_plan.proofs.timetable.Plan.follows.Goals as goal

pub returns-clause-earlier : goal.returns-clause-earlier
returns-clause-earlier c =
    let timings = c.self.inside.timings.items in
    let number = subst (λ (t : Timetable). IsAmongFirst (length t.timings) c.args.n) (sym c.self.view_is) c.requires.number in
    let read = get_or_read timings (c.args.n - 1) c.index.result.now (omega (arith, number.from, number.to)) c.index.ensures no_timing in
    let earlier = follows_earlier timings c.self.invariant.timings.earlier c.args.n number.from in
    omega (arith, ap (λ (t : Timing). t.follows) read, earlier)
