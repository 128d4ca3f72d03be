-- The work of an instance, and what is before what in a plan of it.
use Rattle.std.specs.Prelude.{ℕ}
use Rattle.waff_assign.specs.Instance.{Instance}
use Rattle.waff_assign.specs.Order.{Relation}
use Rattle.waff_plan.specs.Serving.{served_before, started_before}
use Rattle.waff_plan.specs.Timetable.{work_of_messages}
use Rattle.waff_plan.specs.Work.{Work}

abbrev pub work_of_instance : Instance → Work
work_of_instance instance = work_of_messages instance.trace.messages

-- the order in which a plan with these starts is to serve messages that exclude each other
abbrev pub served_first : Instance → (ℕ → ℕ) → Relation
served_first instance start =
    served_before instance.trace.version instance.tree instance.assigned
    (work_of_instance instance) start

-- the order of its chains
abbrev pub started_first : Instance → (ℕ → ℕ) → Relation
started_first instance start =
    started_before instance.trace.version instance.tree instance.assigned start
