-- The verdict on a plan that is given: the first fault, or else how good the plan is.
use Rattle.std.specs.Prelude.{◌≡◌, ℕ, ◌+◌, ◌<◌, Bool, false, true, List, length, map, Option, Some}
use Rattle.waff_model.specs.Versions.{has_clients}
use Rattle.waff_model.specs.declared.message.Version.{Version}
use Rattle.waff_assign.specs.Instance.{Instance, before_in}
use Rattle.waff_assign.specs.Order.{Relation, affinity_name}
use Rattle.waff_plan.specs.Bound.{IsWithinBound}
use Rattle.waff_plan.specs.Chain.{chain_cost, chain_release}
use Rattle.waff_plan.specs.Instances.{started_first, work_of_instance}
use Rattle.waff_plan.specs.LowerBound.{lower_bound_of}
use Rattle.waff_plan.specs.Obeys.{IsLinked}
use Rattle.waff_plan.specs.Timetable.{client_work_of_messages, timings_of}
use Rattle.waff_plan.specs.Timing.{start_of}
use Rattle.waff_plan.specs.Work.{Work, length_of}
use Rattle.waff_plan_text.specs.Given.{Given, row_at}
use Rattle.waff_check.specs.Faults.{HasTotals, HasWrongFinish, HasWrongName, HasWrongWorker}
use Rattle.waff_check.specs.Faults.{IsBroken, IsCrowded, IsFirstPair, IsLeastOf, IsLinkedAt}
use Rattle.waff_check.specs.Faults.{OverlapsWhere, StartsEarly, StartsHeld, StartsUnissued}
use Rattle.waff_check.specs.Listed.{list_work_of}
use Rattle.waff_check.specs.declared.verdict.Verdict.{Verdict}
use Rattle.waff_check.specs.declared.verdict.Verdict.TheVariants as verdict
use Rattle.waff_assign.specs.Held.{AreKnown}

-- a plan that is given for an instance
pub record Claim : Type 0 where
  pub instance : Instance
  pub plan : Given

abbrev pub claim_of : Instance → Given → Claim
claim_of instance plan = record { instance = instance; plan = plan }

-- the assignment, the rows and the messages are as many, and what messages hold is of the tree
pub record IsClaim (claim : Claim) : Type 0 where
  pub lengths : length claim.instance.trace.messages ≡ length claim.instance.assigned
  pub rows : length claim.plan.rows ≡ length claim.instance.trace.messages
  pub known : AreKnown claim.instance.tree claim.instance.assigned

-- the version, the work and the starts
abbrev pub version_of : Claim → Version
version_of claim = claim.instance.trace.version

abbrev pub work_of_claim : Claim → Work
work_of_claim claim = work_of_instance claim.instance

-- the work by clients alone, and by lists alone
abbrev pub client_work_of_claim : Claim → Work
client_work_of_claim claim = client_work_of_messages claim.instance.trace.messages

abbrev pub list_work_of_claim : Claim → Work
list_work_of_claim claim = list_work_of (timings_of claim.instance.trace.messages)

abbrev pub starts_of : Given → List ℕ
starts_of plan = map (λ row. row.start) plan.rows

abbrev pub start_in : Claim → ℕ → ℕ
start_in claim = start_of (starts_of claim.plan)

-- the messages that exclude each other, the one that comes first in the trace before the other
abbrev pub pairs_of_claim : Claim → Relation
pairs_of_claim claim = before_in claim.instance

-- the order in which the plan serves them, and from which message to which a chain may go
abbrev pub before_of : Claim → Relation
before_of claim = started_first claim.instance (start_in claim)

abbrev pub links_of : Claim → Relation
links_of claim = IsLinked (before_of claim) (work_of_claim claim)

-- the number of workers, and the chain
abbrev pub workers_in : Claim → Option ℕ
workers_in claim = claim.plan.summary.workers

abbrev pub chain_in : Claim → List ℕ
chain_in claim = claim.plan.summary.chain

-- what the row of a message tells
abbrev pub worker_in : Given → ℕ → Option ℕ
worker_in plan n = (row_at plan.rows n).worker

abbrev pub told_name : Given → ℕ → List ℕ
told_name plan n = (row_at plan.rows n).affinity

abbrev pub told_finish : Given → ℕ → ℕ
told_finish plan n = (row_at plan.rows n).finish

-- the faults
abbrev pub PairOverlaps : Claim → Relation
PairOverlaps claim =
    OverlapsWhere (has_clients (version_of claim)) (pairs_of_claim claim) (work_of_claim claim) (start_in claim)

abbrev pub TickIsCrowded : Claim → ℕ → Type 0
TickIsCrowded claim = IsCrowded (work_of_claim claim) (start_in claim) (workers_in claim)

abbrev pub WorkerIsWrong : Claim → ℕ → Type 0
WorkerIsWrong claim =
    HasWrongWorker (work_of_claim claim) (start_in claim) (worker_in claim.plan) (workers_in claim)

abbrev pub NameIsWrong : Claim → ℕ → Type 0
NameIsWrong claim =
    HasWrongName (work_of_claim claim) (told_name claim.plan)
    (affinity_name claim.instance.tree claim.instance.assigned)

abbrev pub FinishIsWrong : Claim → ℕ → Type 0
FinishIsWrong claim = HasWrongFinish (work_of_claim claim) (start_in claim) (told_finish claim.plan)

abbrev pub SumsAreRight : Claim → Type 0
SumsAreRight claim = HasTotals (work_of_claim claim) (start_in claim) claim.plan.summary

abbrev pub LinkIsBroken : Claim → ℕ → Type 0
LinkIsBroken claim = IsBroken (links_of claim) (chain_in claim)

abbrev pub StartIsEarly : Claim → ℕ → Type 0
StartIsEarly claim = StartsEarly (work_of_claim claim) (start_in claim)

abbrev pub StartIsUnissued : Claim → ℕ → Type 0
StartIsUnissued claim = StartsUnissued (client_work_of_claim claim) (start_in claim)

abbrev pub StartIsHeld : Claim → Relation
StartIsHeld claim = StartsHeld (list_work_of_claim claim) (start_in claim)

-- the release and the cost of the chain are the length
abbrev pub ReachesLength : Claim → Type 0
ReachesLength claim =
    chain_release (work_of_claim claim) (chain_in claim)
    + chain_cost (work_of_claim claim) (chain_in claim)
    ≡ length_of (work_of_claim claim) (start_in claim)

-- the length below which no plan obeys, in whatever order
abbrev pub lower_bound_in : Claim → ℕ
lower_bound_in claim =
    lower_bound_of (workers_in claim) claim.instance.tree claim.instance.assigned
    (work_of_claim claim)

-- the length is the least that any plan may have: by the chain, or where messages have clients by what
-- every plan needs, in whatever order it serves
abbrev pub IsShortWhere : Bool → Claim → Type 0
IsShortWhere false claim = ReachesLength claim
IsShortWhere true claim =
    length_of (work_of_claim claim) (start_in claim) ≡ lower_bound_in claim

abbrev pub IsShort : Claim → Type 0
IsShort claim = IsShortWhere (has_clients (version_of claim)) claim

-- with workers, the length is within the bound for as many, by the chain
abbrev pub KeepsBound : Claim → Type 0
KeepsBound claim =
    (k : ℕ) × (workers_in claim ≡ Some k)
    × IsWithinBound (work_of_claim claim) k (start_in claim) (chain_in claim)

-- the order in which verdicts are looked for: one kind of faults after the other, and then how good
-- a plan without a fault is
abbrev pub stage : Verdict → ℕ
stage (verdict.Overlap first second) = 0
stage (verdict.TooManyAt tick) = 1
stage (verdict.Worker message) = 2
stage (verdict.Affinity message) = 3
stage (verdict.Finish message) = 4
stage verdict.Totals = 5
stage (verdict.NotAChain place) = 6
stage (verdict.Early message) = 7
stage (verdict.Client message) = 8
stage (verdict.After message awaited) = 9
stage verdict.Shortest = 10
stage verdict.Tight = 11
stage verdict.WithinBound = 12
stage verdict.Obeys = 13

-- what a verdict tells does not hold of the plan
abbrev pub IsFreeOf : Claim → Verdict → Type 0
IsFreeOf claim (verdict.Overlap first second) = PairOverlaps claim first second → ⊥
IsFreeOf claim (verdict.TooManyAt tick) = TickIsCrowded claim tick → ⊥
IsFreeOf claim (verdict.Worker message) = WorkerIsWrong claim message → ⊥
IsFreeOf claim (verdict.Affinity message) = NameIsWrong claim message → ⊥
IsFreeOf claim (verdict.Finish message) = FinishIsWrong claim message → ⊥
IsFreeOf claim verdict.Totals = SumsAreRight claim
IsFreeOf claim (verdict.NotAChain place) = IsLinkedAt (links_of claim) (chain_in claim) place
IsFreeOf claim (verdict.Early message) = StartIsEarly claim message → ⊥
IsFreeOf claim (verdict.Client message) = StartIsUnissued claim message → ⊥
IsFreeOf claim (verdict.After message awaited) = StartIsHeld claim message awaited → ⊥
IsFreeOf claim verdict.Shortest = IsShort claim → ⊥
IsFreeOf claim verdict.Tight = ReachesLength claim → ⊥
IsFreeOf claim verdict.WithinBound = KeepsBound claim → ⊥
IsFreeOf claim verdict.Obeys = ⊥

-- what a verdict tells holds, and of its kind it is the first
abbrev pub IsFound : Claim → Verdict → Type 0
IsFound claim (verdict.Overlap first second) = IsFirstPair (PairOverlaps claim) first second
IsFound claim (verdict.TooManyAt tick) = IsLeastOf (TickIsCrowded claim) tick
IsFound claim (verdict.Worker message) = IsLeastOf (WorkerIsWrong claim) message
IsFound claim (verdict.Affinity message) = IsLeastOf (NameIsWrong claim) message
IsFound claim (verdict.Finish message) = IsLeastOf (FinishIsWrong claim) message
IsFound claim verdict.Totals = SumsAreRight claim → ⊥
IsFound claim (verdict.NotAChain place) = IsLeastOf (LinkIsBroken claim) place
IsFound claim (verdict.Early message) = IsLeastOf (StartIsEarly claim) message
IsFound claim (verdict.Client message) = IsLeastOf (StartIsUnissued claim) message
IsFound claim (verdict.After message awaited) = IsFirstPair (StartIsHeld claim) message awaited
IsFound claim verdict.Shortest = IsShort claim
IsFound claim verdict.Tight = ReachesLength claim
IsFound claim verdict.WithinBound = KeepsBound claim
IsFound claim verdict.Obeys = Unit {0}

-- no verdict of an earlier stage holds
abbrev pub IsFreeBelow : Claim → ℕ → Type 0
IsFreeBelow claim n = (v : Verdict) → stage v < n → IsFreeOf claim v

-- no pair overlaps, no tick is crowded, and each message has a right worker
abbrev pub IsManned : Claim → Type 0
IsManned claim = IsFreeBelow claim (stage (verdict.Affinity 0))

-- and what rows and totals say is right
abbrev pub IsSummed : Claim → Type 0
IsSummed claim = IsFreeBelow claim (stage (verdict.NotAChain 0))

-- and the chain is one, and no message starts before its release
abbrev pub IsReleased : Claim → Type 0
IsReleased claim = IsFreeBelow claim (stage (verdict.Client 0))

-- and each message is issued when it starts: no fault is left
abbrev pub IsFaultless : Claim → Type 0
IsFaultless claim = IsFreeBelow claim (stage verdict.Shortest)

-- the verdict: it holds, and none of an earlier stage does
pub record IsVerdict (claim : Claim) (v : Verdict) : Type 0 where
  pub free : IsFreeBelow claim (stage v)
  pub found : IsFound claim v
