use Rattle.std.proofs.Common.{reverse, MatchOption}
use Rattle.waff_plan.specs.Work.{IsNumber}
use Rattle.waff_plan.specs.Chain.{IsPrinted, LeadsToEnd}
use Rattle.waff_plan.specs.Serving.{started_in}
use Rattle.waff_plan.specs.Timetable.{work_in, starts_in}
use Rattle.waff_plan.proofs.ServingLemmas.{place_in, place_or}
use Rattle.waff_plan.proofs.printed.walk.Given as goal

abbrev pub invariant-loop-next : goal.invariant-loop-next
invariant-loop-next l =
    MatchOption l.next
    (IsPrinted (started_in l.tree l.assigned l.plan) (work_in l.plan) (starts_in l.plan) (reverse l.messages.items))
    (λ m. IsNumber (work_in l.plan) m
    × LeadsToEnd (started_in l.tree l.assigned l.plan) (work_in l.plan) (starts_in l.plan) m (reverse l.messages.items))

abbrev pub decreases-loop-next : goal.decreases-loop-next
decreases-loop-next l = place_or (place_in l.plan.version (work_in l.plan) (starts_in l.plan)) l.next
