-- The workers of a plan's messages, and the order in which the messages start.
use Rattle.std.specs.Prelude.{◌≡◌, ◌≢◌, ℕ, ◌<◌, ◌≤◌, ◌⊎◌, List, All, AllPairs, Contains, IsTrue}
use Rattle.waff_plan.specs.Work.{Work, IsNumber}
use Rattle.waff_plan.specs.Workers.{runs_at}

-- i comes before m: it starts earlier, or at the same tick and has a lower number
abbrev pub ComesBefore : (ℕ → ℕ) → ℕ → ℕ → Type 0
ComesBefore start i m = (start i < start m) ⊎ ((start i ≡ start m) × (i < m))

-- i holds its worker when m starts: it comes before m and runs at that tick
pub record HoldsWorker (work : Work) (start : ℕ → ℕ) (i m : ℕ) : Type 0 where
  pub number : IsNumber work i
  pub sooner : ComesBefore start i m
  pub runs : IsTrue (runs_at work start (start m) i)

-- the worker of m is the least number from 1 that is the worker of no message that comes before m
-- and runs when m starts
pub record IsSeated (work : Work) (start worker : ℕ → ℕ) (m : ℕ) : Type 0 where
  pub from : 1 ≤ worker m
  pub free : (i : ℕ) → HoldsWorker work start i m → worker i ≢ worker m
  pub least : (w : ℕ) → 1 ≤ w → w < worker m → (i : ℕ) × HoldsWorker work start i m × (worker i ≡ w)

-- the order of a plan lists all messages, those that come before others first
pub record IsInOrder (work : Work) (start : ℕ → ℕ) (order : List ℕ) : Type 0 where
  pub messages : All (IsNumber work) order
  pub each : (m : ℕ) → IsNumber work m → Contains order m
  pub sorted : AllPairs (ComesBefore start) order
