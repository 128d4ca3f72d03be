-- What is before what in a plan, by the version of its trace: before the third, what comes first in
-- the trace; from the third on, what is issued or starts first in the plan itself.
use Rattle.std.specs.Prelude.{ℕ, ◌<◌, List, length}
use Rattle.waff_model.specs.Tree.{Node}
use Rattle.waff_model.specs.declared.message.Version.{Version}
use Rattle.waff_model.specs.declared.message.Version.TheVariants.{V1, V2, V3, V4}
use Rattle.waff_assign.specs.Order.{Relation, IsOrdered}
use Rattle.waff_plan.specs.Issues.{IsServedBefore}
use Rattle.waff_plan.specs.Order.{Precedes}
use Rattle.waff_plan.specs.Timetable.{Timetable, starts_in, work_in}
use Rattle.waff_plan.specs.Work.{Work}
use Rattle.waff_assign.specs.Held.{Held}

-- message i starts before message j, and they exclude each other
abbrev pub IsStartedBefore : List Node → List Held → (ℕ → ℕ) → Relation
IsStartedBefore tree assigned start =
    Precedes (length assigned) (λ i j. start i < start j) tree assigned

-- the order in which messages that exclude each other are to be served
abbrev pub served_before : Version → List Node → List Held → Work → (ℕ → ℕ) → Relation
served_before V1 tree assigned work start = IsOrdered tree assigned
served_before V2 tree assigned work start = IsOrdered tree assigned
served_before V3 tree assigned work start = IsServedBefore tree assigned work start
served_before V4 tree assigned work start = IsServedBefore tree assigned work start

-- the order of a plan's chains: what holds back what, but for what follows what
abbrev pub started_before : Version → List Node → List Held → (ℕ → ℕ) → Relation
started_before V1 tree assigned start = IsOrdered tree assigned
started_before V2 tree assigned start = IsOrdered tree assigned
started_before V3 tree assigned start = IsStartedBefore tree assigned start
started_before V4 tree assigned start = IsStartedBefore tree assigned start

-- both of a plan
abbrev pub served_in : List Node → List Held → Timetable → Relation
served_in tree assigned plan =
    served_before plan.version tree assigned (work_in plan) (starts_in plan)

abbrev pub started_in : List Node → List Held → Timetable → Relation
started_in tree assigned plan = started_before plan.version tree assigned (starts_in plan)

-- the key by which the messages of a plan are walked: their numbers, or where they are of clients their starts
abbrev pub chain_key : Version → (ℕ → ℕ) → ℕ → ℕ
chain_key V1 start m = m
chain_key V2 start m = m
chain_key V3 start m = start m
chain_key V4 start m = start m
