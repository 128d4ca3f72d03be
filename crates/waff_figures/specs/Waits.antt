-- Who waits for whom in a plan.
use Rattle.std.specs.Prelude.{◌≡◌, ℕ, ◌-◌, ◌<◌, ◌⊎◌, List, [], ◌∷◌, ◌++◌, Option, Some, None, IsSome}
use Rattle.std.specs.Prelude.{IfSome, if◌then◌else◌, nat_lt, slice_index_or}
use Rattle.std.specs.List.{flat_map}
use Rattle.waff_model.specs.Tree.{Node}
use Rattle.waff_assign.specs.Held.{Held}
use Rattle.waff_assign.specs.Order.{Relation}
use Rattle.waff_plan.specs.Waited.{AreWaitedFor}
use Rattle.waff_plan.specs.Work.{Work, IsAmongFirst, finish_of, issue_of, numbers}
use Rattle.waff_figures.specs.WaitLocks.{AreBy}
use Rattle.waff_figures.specs.declared.waits.Wait.{Wait}

-- from when on m waits for a worker alone: from the finish of the message that it waited for, or
-- from its issue where it waited for none
abbrev pub ready_of : Work → (ℕ → ℕ) → ℕ → Option ℕ → ℕ
ready_of work start m None = issue_of work start m
ready_of work start m (Some i) = finish_of work start i

-- the wait of m for so many ticks, none where there are no ticks
abbrev pub wait_of : ℕ → Option ℕ → Option ℕ → ℕ → List Wait
wait_of m on by ticks =
    if nat_lt 0 ticks then record { message = m; on = on; by = by; ticks = ticks } ∷ [] else []

-- the waits of m: from its issue until it is ready for the message that it waited for, by this lock, and
-- then until its start for a worker
abbrev pub waits_in : Work → (ℕ → ℕ) → ℕ → Option ℕ → Option ℕ → List Wait
waits_in work start m waited_for by =
    wait_of m waited_for by (ready_of work start m waited_for - issue_of work start m)
    ++ wait_of m None None (start m - ready_of work start m waited_for)

-- the waits of a plan, message by message
pub record AreWaits (tree : List Node) (assigned : List Held) (before : Relation) (work : Work)
    (start : ℕ → ℕ) (waits : List Wait) : Type 0 where
  pub links : List (Option ℕ)
  pub locks : List (Option ℕ)
  pub are_links : AreWaitedFor before work start work.count links
  pub are_locks : AreBy tree assigned links locks
  pub waits_are : waits ≡ flat_map (λ m.
      waits_in work start m (slice_index_or links (m - 1) None) (slice_index_or locks (m - 1) None))
      (numbers work)

-- the one wait is of an earlier message, or is that for a message where the other is that of the
-- same message for a worker
abbrev pub ComesFirst : Wait → Wait → Type 0
ComesFirst one other =
    (one.message < other.message)
    ⊎ ((one.message ≡ other.message) × IsSome one.on × (other.on ≡ None))

-- the wait is of one of so many messages, and for one of them or for a worker
pub record IsWaitAmong (messages : ℕ) (wait : Wait) : Type 0 where
  pub message : IsAmongFirst messages wait.message
  pub on : IfSome wait.on (IsAmongFirst messages)
