-- The list rule for k workers (Graham 1969), for any relation that says which of two messages is taken
-- first: whenever a worker is free and messages are ready, the one that is taken first starts.
use Rattle.std.specs.Prelude.{◌≡◌, ◌≢◌, ℕ, ◌<◌, ◌≤◌, ◌⊎◌}
use Rattle.waff_assign.specs.Order.{Path, Relation}
use Rattle.waff_plan.specs.Work.{Work, IsNumber, finish_of, issue_of}
use Rattle.waff_plan.specs.Workers.{running, IsWorkerPlan}

-- of two ready messages i is taken first: its priority is higher, or they have the same and i
-- arrived first
abbrev pub IsTakenFirst : (ℕ → ℕ) → Relation
IsTakenFirst priority i j = (priority j < priority i) ⊎ ((priority i ≡ priority j) × (i < j))

-- by arrival: all messages have the same priority
abbrev pub arrival : ℕ → ℕ
arrival m = 0

-- m is ready at the tick t: it is issued by t, and each message that is before it has finished by t
pub record IsReady (before : Relation) (work : Work) (start : ℕ → ℕ) (t m : ℕ) : Type 0 where
  pub number : IsNumber work m
  pub issued : issue_of work start m ≤ t
  pub free : (i : ℕ) → before i m → finish_of work start i ≤ t

-- no worker idles while a message is ready: where one is ready at t and starts later, k messages run
-- at t
abbrev pub KeepsBusy : Relation → Work → ℕ → (ℕ → ℕ) → Type 0
KeepsBusy before work k start =
    (t m : ℕ) → IsReady before work start t m → t < start m → running work start t ≡ k

-- and where a message is ready at t and starts later, none that it is taken before starts at t
pub record FollowsListRule (before first : Relation)
    (work : Work) (k : ℕ) (start : ℕ → ℕ) : Type 0 where
  pub busy : KeepsBusy before work k start
  pub in_turn : (t m other : ℕ) → IsReady before work start t m → t < start m
      → IsNumber work other → first m other → start other ≢ t

-- a list plan for k: a worker plan for k that follows the list rule
pub record IsListPlan (before first : Relation)
    (work : Work) (k : ℕ) (start : ℕ → ℕ) : Type 0 where
  pub within : IsWorkerPlan before work k start
  pub follows : FollowsListRule before first work k start

-- each pair of one set of pairs is a path through the other
pub record HaveSamePaths (near before : Relation) : Type 0 where
  pub to : (i j : ℕ) → before i j → Path near i j
  pub from : (i j : ℕ) → near i j → Path before i j
