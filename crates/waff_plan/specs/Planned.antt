-- A trace under a tree of affinities, with a plan of its messages.
use Rattle.std.specs.Prelude.{ℕ}
use Rattle.waff_assign.specs.Order.{Relation}
use Rattle.waff_plan.specs.Serving.{served_in, started_in}
use Rattle.waff_plan.specs.Timetable.{work_in, starts_in}
use Rattle.waff_plan.specs.Work.{Work}
use Rattle.waff_plan.specs.declared.planned.Planned.{Planned}

-- the order of its chains, the work of its messages, and their starts
abbrev pub planned_pairs : Planned → Relation
planned_pairs planned =
    started_in planned.case.tree.now planned.case.assigned.now planned.plan.now

-- the order in which it is to serve messages that exclude each other
abbrev pub planned_order : Planned → Relation
planned_order planned =
    served_in planned.case.tree.now planned.case.assigned.now planned.plan.now

abbrev pub planned_work : Planned → Work
planned_work planned = work_in planned.plan.now

abbrev pub planned_starts : Planned → ℕ → ℕ
planned_starts planned = starts_in planned.plan.now
