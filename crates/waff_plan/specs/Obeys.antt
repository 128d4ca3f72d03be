-- Plans that obey an order of the messages, and the least of them. `before i j` says that message j
-- starts only when message i has finished.
use Rattle.std.specs.Prelude.{◌≡◌, ℕ, ◌<◌, ◌≤◌, ◌⊎◌, []}
use Rattle.waff_assign.specs.Order.{Relation}
use Rattle.waff_plan.specs.Work.{Work, IsAwaited, IsNumber, finish_of, issue_of}

-- message i holds back message m: it is before m, or m awaits it
abbrev pub IsLinked : Relation → Work → Relation
IsLinked before work i m = before i m ⊎ IsAwaited (work.awaits m) i

-- messages have places in the order in which they are served, from 1 to their number, and what holds
-- back another is a message that has an earlier place
pub record IsForward (before : Relation) (work : Work) : Type 0 where
  pub place : ℕ → ℕ
  pub from : (m : ℕ) → IsNumber work m → 1 ≤ place m
  pub to : (m : ℕ) → IsNumber work m → place m ≤ work.count
  pub first : (i m : ℕ) → IsLinked before work i m → IsNumber work i
  pub second : (i m : ℕ) → IsLinked before work i m → IsNumber work m
  pub earlier : (i m : ℕ) → IsLinked before work i m → place i < place m

-- message i comes earlier than message m in the trace
pub record IsEarlier (work : Work) (i m : ℕ) : Type 0 where
  pub from : 1 ≤ i
  pub earlier : i < m
  pub to : m ≤ work.count

-- what a message awaits comes earlier in the trace
abbrev pub AwaitsEarlier : Work → Type 0
AwaitsEarlier work = (i m : ℕ) → IsAwaited (work.awaits m) i → IsEarlier work i m

-- no two messages await the same one
abbrev pub AwaitedOnce : Work → Type 0
AwaitedOnce work =
    (i m n : ℕ) → IsAwaited (work.awaits m) i → IsAwaited (work.awaits n) i → m ≡ n

-- no message awaits another
abbrev pub AwaitsNone : Work → Type 0
AwaitsNone work = (m : ℕ) → work.awaits m ≡ []

-- each message runs for one tick at least
abbrev pub EachRuns : Work → Type 0
EachRuns work = (m : ℕ) → IsNumber work m → 1 ≤ work.cost m

-- no message starts before it is issued
abbrev pub StartsIssued : Work → (ℕ → ℕ) → Type 0
StartsIssued work start = (m : ℕ) → IsNumber work m → issue_of work start m ≤ start m

-- a pair of the order the first message of which is one of the first n
pub record IsAmong (n : ℕ) (before : Relation) (i j : ℕ) : Type 0 where
  pub ordered : before i j
  pub within : i ≤ n

-- no message starts before the finish of one that is before it
abbrev pub KeepsOrder : Relation → Work → (ℕ → ℕ) → Type 0
KeepsOrder before work start = (i j : ℕ) → before i j → finish_of work start i ≤ start j

-- an obeying plan: no message starts before it is issued, nor before the finish of one that is
-- before it
pub record Obeys (before : Relation) (work : Work) (start : ℕ → ℕ) : Type 0 where
  pub issued : StartsIssued work start
  pub ordered : KeepsOrder before work start

-- the least obeying plan: in each other one every message starts at the same tick or later
pub record IsLeast (before : Relation) (work : Work) (start : ℕ → ℕ) : Type 0 where
  pub obeys : Obeys before work start
  pub least : (other : ℕ → ℕ) → Obeys before work other
      → (m : ℕ) → IsNumber work m → start m ≤ other m
