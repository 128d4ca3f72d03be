-- What holds of the waits of all plans: they add up, and they leave no choice.
use Rattle.std.specs.Prelude.{◌≡◌, ◌≢◌, ℕ, ◌+◌, ◌-◌, ◌==◌, ◌≤◌, ◌⊎◌, All, Bool, List, Option}
use Rattle.std.specs.Prelude.{count_by, if◌then◌else◌, length, sum_by}
use Rattle.std.specs.Cmp.{IsEquivalence}
use Rattle.waff_model.specs.Tree.{Node}
use Rattle.waff_model.specs.declared.message.Version.{Version}
use Rattle.waff_assign.specs.Held.{Held}
use Rattle.waff_assign.specs.Order.{Relation}
use Rattle.waff_plan.specs.Obeys.{AwaitsEarlier, Obeys}
use Rattle.waff_plan.specs.Serving.{started_before}
use Rattle.waff_plan.specs.Unique.{AreSame}
use Rattle.waff_plan.specs.Waited.{IsWaitedFor}
use Rattle.waff_plan.specs.Work.{Work, IsAwaited, IsNumber, finish_of, holds_until, issue_of}
use Rattle.waff_figures.specs.Figures.{waits_of}
use Rattle.waff_figures.specs.Waits.{AreWaits, ready_of}
use Rattle.waff_figures.specs.WaitRows.{AreRows}
use Rattle.waff_figures.specs.declared.wait_rows.Row.{Row}
use Rattle.waff_figures.specs.declared.waits.Wait.{Wait}

-- the tick is the greatest of the issue of m and the finishes of the messages before it
pub record IsReady (before : Relation) (work : Work)
    (start : ℕ → ℕ) (m ready : ℕ) : Type 0 where
  pub issued : issue_of work start m ≤ ready
  pub finished : (i : ℕ) → before i m → finish_of work start i ≤ ready
  pub one : (ready ≡ issue_of work start m)
      ⊎ ((i : ℕ) × before i m × (ready ≡ finish_of work start i))

-- a message waits for another one until that tick, and for a worker from then on
abbrev pub ReadyIsGreatest : Relation → Work → (ℕ → ℕ) → Type 0
ReadyIsGreatest before work start =
    (m : ℕ) (waited_for : Option ℕ) → IsWaitedFor before work start m waited_for
    → IsReady before work start m (ready_of work start m waited_for)

-- the waits of a message add up to the time from its issue to its start
abbrev pub WaitsAddUp : List Node → List Held → Relation → Work → (ℕ → ℕ) → Type 0
WaitsAddUp tree assigned before work start =
    (waits : List Wait) (m : ℕ)
    → AreWaits tree assigned before work start waits → Obeys before work start → IsNumber work m
    → sum_by (λ wait. if wait.message == m then wait.ticks else 0) waits
    ≡ start m - issue_of work start m

-- waiting for what a message awaits is no wait: a message that starts as soon as one that it awaits, by its
-- client or by its list, holds it back no longer waits for nobody
abbrev pub AwaitingIsNoWait : List Node → List Held → Relation → Work → (ℕ → ℕ) → Type 0
AwaitingIsNoWait tree assigned before work start =
    (waits : List Wait) (i m : ℕ) → AreWaits tree assigned before work start waits → Obeys before work start
    → IsNumber work m → IsAwaited (work.awaits m) i → start m ≡ holds_until work start m i
    → All (λ wait. wait.message ≢ m) waits

-- each wait is told of in one row
abbrev pub WaitsAreOnce : Type 0
WaitsAreOnce =
    (alike : Wait → Wait → Bool) (waits : List Wait) (rows : List Row) → IsEquivalence alike
    → AreRows alike waits rows
    → All (λ wait. count_by (λ row. alike row.first wait) rows ≡ 1) waits

-- the ticks of all rows add up to how long all messages wait
abbrev pub TicksAddUp : List Node → List Held → Relation → Work → (ℕ → ℕ) → Type 0
TicksAddUp tree assigned before work start =
    (alike : Wait → Wait → Bool) (waits : List Wait) (rows : List Row) → IsEquivalence alike
    → AreWaits tree assigned before work start waits → Obeys before work start → AreRows alike waits rows
    → sum_by (λ row. row.ticks) rows ≡ waits_of work start

-- where two plans start each message at the same tick, their rows are equal
abbrev pub RowsAreOne : Version → List Node → List Held → Work → Type 0
RowsAreOne version tree assigned work =
    (alike : Wait → Wait → Bool) (start other : ℕ → ℕ) (waits other_waits : List Wait)
    (rows other_rows : List Row) → length assigned ≡ work.count → AwaitsEarlier work
    → AreSame work start other
    → AreWaits tree assigned (started_before version tree assigned start) work start waits
    → AreWaits tree assigned (started_before version tree assigned other) work other other_waits
    → AreRows alike waits rows → AreRows alike other_waits other_rows
    → rows ≡ other_rows
