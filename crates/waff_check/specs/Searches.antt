-- The search for the first overlap, place by place, for a link that is none, and for what a list awaits.
use Rattle.std.specs.Prelude.{ℕ, ◌+◌, ◌<◌, ◌≤◌, Bool, false, true, Option, Some, None}
use Rattle.waff_model.specs.declared.limits.TheConstants.{MAX_MESSAGES}
use Rattle.waff_model.specs.Versions.{has_clients}
use Rattle.waff_assign.specs.Case.{instance_of, pairs_of}
use Rattle.waff_assign.specs.Order.{Relation}
use Rattle.waff_plan.specs.Obeys.{IsLinked}
use Rattle.waff_plan.specs.Instances.{started_first}
use Rattle.waff_plan.specs.Planned.{planned_starts, planned_work}
use Rattle.waff_plan.specs.Work.{Work, finish_of}
use Rattle.waff_plan.specs.declared.planned.Planned.{Planned}
use Rattle.waff_check.specs.Faults.{OverlapsWhere, RunTogether, StartsHeld}
use Rattle.waff_check.specs.Listed.{list_work_of}

-- two messages are at odds, if they exclude each other: the second starts before the first has
-- finished, or where messages have clients both run at a common tick
abbrev pub AreAtOddsWhere : Bool → Work → (ℕ → ℕ) → Relation
AreAtOddsWhere false work start i j = start j < finish_of work start i
AreAtOddsWhere true work start i j = RunTogether work start i j

-- whether the messages have clients, and the pairs that overlap
abbrev pub planned_clients : Planned → Bool
planned_clients planned = has_clients planned.case.trace.now.version

abbrev pub planned_overlaps : Planned → Relation
planned_overlaps planned =
    OverlapsWhere (planned_clients planned) (pairs_of planned.case) (planned_work planned)
    (planned_starts planned)

-- none of the first messages, of which there are `count`, overlaps with a later one
abbrev pub NoneAmong : Planned → ℕ → Type 0
NoneAmong planned count = (i j : ℕ) → i ≤ count → planned_overlaps planned i j → ⊥

-- what the plan serves before what, and from which message to which a chain may go
abbrev pub planned_before : Planned → Relation
planned_before planned = started_first (instance_of planned.case) (planned_starts planned)

abbrev pub planned_links : Planned → Relation
planned_links planned = IsLinked (planned_before planned) (planned_work planned)

-- the messages that start while one of their list holds them back, each with such a one
abbrev pub planned_held : Planned → Relation
planned_held planned = StartsHeld (list_work_of planned.plan.now.timings) (planned_starts planned)

-- i is the place, from 0, of one of the messages, of which there are at most MAX_MESSAGES
pub record IsSearchable (planned : Planned) (i : ℕ) : Type 0 where
  pub few : (planned_work planned).count ≤ MAX_MESSAGES
  pub below : i < (planned_work planned).count

-- the message at the place i, from 0, overlaps with another one
abbrev pub HasOverlap : Planned → ℕ → Type 0
HasOverlap planned i = (j : ℕ) × planned_overlaps planned (i + 1) j

-- the first of n places at which P holds, if there is one
abbrev pub IsFirstPlace : (ℕ → Type 0) → ℕ → Option ℕ → Type 0
IsFirstPlace P n None = (i : ℕ) → i < n → P i → ⊥
IsFirstPlace P n (Some place) = (place < n) × P place × ((i : ℕ) → i < place → P i → ⊥)
