-- What may be wrong with a plan that is given: one definition a fault. `before i j` says that
-- message j starts only when message i has finished, and `link i j` that a chain may go from i to j.
use Rattle.std.specs.Prelude.{◌≡◌, ◌≢◌, ◌⊎◌, ℕ, ◌-◌, ◌<◌, ◌≤◌, List, length, slice_index}
use Rattle.std.specs.Prelude.{Bool, false, true, Option, Some, None}
use Rattle.waff_assign.specs.Order.{Relation}
use Rattle.waff_plan.specs.Work.{Work, IsAwaited, IsNumber, finish_of, holds_until}
pub use Rattle.waff_plan.specs.Apart.{RunTogether}
use Rattle.waff_plan.specs.Apart.{Collides}
use Rattle.waff_plan.specs.Workers.{running}
use Rattle.waff_plan.specs.Totals.{totals_of}
use Rattle.waff_plan_text.specs.Given.{SummaryLines}

-- n is the least number that P holds of
pub record IsLeastOf (P : ℕ → Type 0) (n : ℕ) : Type 0 where
  pub holds : P n
  pub least : (m : ℕ) → P m → n ≤ m

-- P holds of no number
abbrev pub NoneOf : (ℕ → Type 0) → Type 0
NoneOf P = (n : ℕ) → P n → ⊥

-- an ordered pair the second message of which starts before the first has finished
pub record Overlaps (before : Relation) (work : Work) (start : ℕ → ℕ) (i j : ℕ) : Type 0 where
  pub ordered : before i j
  pub early : start j < finish_of work start i

-- a pair that overlaps: the second message starts too early, or where messages have clients both run
-- at a common tick
abbrev pub OverlapsWhere : Bool → Relation → Work → (ℕ → ℕ) → Relation
OverlapsWhere false before work start = Overlaps before work start
OverlapsWhere true before work start = Collides before work start

-- the least first message of such a pair, and the least second message with it
pub record IsFirstPair (Pair : Relation) (first second : ℕ) : Type 0 where
  pub least_second : IsLeastOf (Pair first) second
  pub least_first : (i j : ℕ) → Pair i j → first ≤ i

-- more messages run at the tick t than there are workers
abbrev pub IsCrowded : Work → (ℕ → ℕ) → Option ℕ → ℕ → Type 0
IsCrowded work start None t = ⊥
IsCrowded work start (Some k) t = k < running work start t

-- message i, of a lower number than n, has the worker w and runs at a tick at which n runs
pub record IsTaken (work : Work) (start : ℕ → ℕ) (worker : ℕ → Option ℕ) (w n i : ℕ) : Type 0 where
  pub from : 1 ≤ i
  pub earlier : i < n
  pub same : worker i ≡ Some w
  pub together : RunTogether work start i n

-- the worker w of message n, of k workers, is none of them, or is taken
abbrev pub IsWrong : Work → (ℕ → ℕ) → (ℕ → Option ℕ) → ℕ → ℕ → ℕ → Type 0
IsWrong work start worker k n w = (w < 1) ⊎ ((k < w) ⊎ ((i : ℕ) × IsTaken work start worker w n i))

-- what a row says of the worker of message n is wrong: with workers, that it has none, or a wrong
-- one; without, that it has one
abbrev pub IsMisplaced : Work → (ℕ → ℕ) → (ℕ → Option ℕ) → Option ℕ → ℕ → Option ℕ → Type 0
IsMisplaced work start worker None n None = ⊥
IsMisplaced work start worker None n (Some w) = Unit {0}
IsMisplaced work start worker (Some k) n None = Unit {0}
IsMisplaced work start worker (Some k) n (Some w) = IsWrong work start worker k n w

-- a message whose row tells a wrong worker
pub record HasWrongWorker (work : Work) (start : ℕ → ℕ) (worker : ℕ → Option ℕ)
    (workers : Option ℕ) (n : ℕ) : Type 0 where
  pub number : IsNumber work n
  pub wrong : IsMisplaced work start worker workers n (worker n)

-- a message whose row tells another name than its affinity has, and of one that has none anything but a hyphen
pub record HasWrongName (work : Work) (told name : ℕ → List ℕ) (n : ℕ) : Type 0 where
  pub number : IsNumber work n
  pub wrong : told n ≢ name n

-- a message whose row tells another finish than its start and its cost make
pub record HasWrongFinish (work : Work) (start told : ℕ → ℕ) (n : ℕ) : Type 0 where
  pub number : IsNumber work n
  pub wrong : told n ≢ finish_of work start n

-- a message whose row tells a start below its floor
pub record StartsEarly (work : Work) (start : ℕ → ℕ) (n : ℕ) : Type 0 where
  pub number : IsNumber work n
  pub early : start n < work.floor n

-- a message that starts while this one, which it awaits, holds it back
pub record StartsHeld (work : Work) (start : ℕ → ℕ) (n awaited : ℕ) : Type 0 where
  pub number : IsNumber work n
  pub awaits : IsAwaited (work.awaits n) awaited
  pub early : start n < holds_until work start n awaited

-- a message that starts before it is issued: while one that it awaits holds it back
pub record StartsUnissued (work : Work) (start : ℕ → ℕ) (n : ℕ) : Type 0 where
  pub awaited : ℕ
  pub held : StartsHeld work start n awaited

-- the totals of a summary are those of the trace, the starts and the chain; where all releases are
-- 0, as in a trace of the first version, the release is 0
abbrev pub HasTotals : Work → (ℕ → ℕ) → SummaryLines → Type 0
HasTotals work start summary = summary.totals ≡ totals_of summary.workers work start summary.chain

-- the message at a place of a chain, from 1
abbrev pub link_at : List ℕ → ℕ → ℕ
link_at chain place = slice_index chain (place - 1)

-- at this place of a chain, from 2 on, stands a message to which no link goes from the one
-- before it
pub record IsBroken (link : Relation) (chain : List ℕ) (place : ℕ) : Type 0 where
  pub from : 2 ≤ place
  pub to : place ≤ length chain
  pub broken : link (link_at chain (place - 1)) (link_at chain place) → ⊥

-- a link goes to the message at this place of a chain from the one before it
abbrev pub IsLinkedAt : Relation → List ℕ → ℕ → Type 0
IsLinkedAt link chain place =
    2 ≤ place → place ≤ length chain → link (link_at chain (place - 1)) (link_at chain place)

-- a link goes from each message of a chain to the next one
abbrev pub AreLinked : Relation → List ℕ → Type 0
AreLinked link chain = (place : ℕ) → IsLinkedAt link chain place
