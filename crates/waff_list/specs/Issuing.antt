-- Messages are issued while a list plan is made, in the order of their issues. The needs of one are
-- known among those that were issued before it.
use Rattle.std.specs.Prelude.{◌≡◌, ℕ, ◌-◌, ◌<◌, ◌≤◌, ◌⊎◌, List, [], ◌++◌, length, map}
use Rattle.std.specs.Prelude.{All, AllPairs, Contains, slice_index, slice_set, true}
use Rattle.waff_model.specs.Numbers.{IsAmongFirst}
use Rattle.waff_order.specs.Joined.{Joined}
use Rattle.waff_order.specs.Needs.{needs_of}
use Rattle.waff_plan.specs.Issues.{IsIssuedBefore}
use Rattle.waff_plan.specs.Work.{Work, IsNumber, issue_of}
use Rattle.waff_waits.specs.Times.{AreEach}
use Rattle.waff_waits.specs.Waits.{IsFree, WhoWaits, waiting_for}
use Rattle.waff_plan.specs.declared.due.TheConstants.{NEVER}

-- the message at this place of the order of issue, from 1
abbrev pub served_at : List ℕ → ℕ → ℕ
served_at issued p = slice_index issued (p - 1)

-- these are the messages that are issued by now, each once, in the order of issue
pub record AreServed (work : Work) (start : ℕ → ℕ) (now : ℕ) (issued : List ℕ) : Type 0 where
  pub each : AreEach (λ m. IsNumber work m × (issue_of work start m ≤ now)) issued
  pub sorted : AllPairs (IsIssuedBefore work start) issued

-- the issues of the messages that are issued after now, as far as what they await is placed
pub record AreIssues (work : Work) (start : ℕ → ℕ) (now : ℕ) (issues : List (ℕ × ℕ)) : Type 0 where
  pub each : AreEach
      (λ m. IsNumber work m × (now < issue_of work start m) × (issue_of work start m < NEVER))
      (map (λ r. r.1) issues)
  pub ticks : All (λ r. issue_of work start r.1 ≡ r.0) issues

-- the messages whose issue is known are issued or still to be, each once; those that are issued stand in
-- the order of issue, and were issued by now and before the others
pub record AreJoining (work : Work) (start : ℕ → ℕ) (now : ℕ) (issued : List ℕ)
    (issues : List (ℕ × ℕ)) : Type 0 where
  pub each : AreEach (λ m. IsNumber work m × (issue_of work start m < NEVER))
      (issued ++ map (λ r. r.1) issues)
  pub ticks : All (λ r. issue_of work start r.1 ≡ r.0) issues
  pub by_now : All (λ m. issue_of work start m ≤ now) issued
  pub sorted : AllPairs (IsIssuedBefore work start) issued
  pub first : (i m : ℕ) → Contains issued i → Contains (map (λ r. r.1) issues) m
      → IsIssuedBefore work start i m

-- the needs of the messages by their numbers; one that is not issued yet has none
pub record AreNeedsByNumber (messages : ℕ) (issued : List ℕ) (joined : Joined)
    (needs : List (List ℕ)) : Type 0 where
  pub count : length needs ≡ messages
  pub of_served : (p : ℕ) → IsAmongFirst (length issued) p
      → needs_of needs (served_at issued p) ≡ map (served_at issued) (needs_of joined.needs p)
  pub of_others : (m : ℕ) → IsAmongFirst messages m → (Contains issued m → ⊥) → needs_of needs m ≡ []

-- who waits for whom when message m has its start: those that waited for it have been let go
abbrev pub after_start : WhoWaits → ℕ → WhoWaits
after_start w m = record {
  awaited = slice_set w.awaited (m - 1) [];
  finished = slice_set w.finished (m - 1) true;
}

-- message d waited for message m, and then for nothing more
abbrev pub IsOpened : WhoWaits → ℕ → ℕ → Type 0
IsOpened w m d = IsFree (waiting_for w m) (after_start w m) d

-- these are all that waited for message m and then for nothing more, each once with its issue
pub record AreOpened (work : Work) (start : ℕ → ℕ) (w : WhoWaits) (m : ℕ) (opened : List (ℕ × ℕ))
    : Type 0 where
  pub each : AreEach (IsOpened w m) (map (λ r. r.1) opened)
  pub ticks : All (λ r. issue_of work start r.1 ≡ r.0) opened

-- next is the least tick after now at which a message finishes or is issued
pub record IsNextEvent (work : Work) (start : ℕ → ℕ) (finishes : List (ℕ × ℕ))
    (now next : ℕ) : Type 0 where
  pub later : now < next
  pub tick : next < NEVER
  pub first : All (λ r. next ≤ r.0) finishes
  pub issues : (m : ℕ) → IsNumber work m
      → (issue_of work start m ≤ now) ⊎ (next ≤ issue_of work start m)
  pub one : ((m : ℕ) × Contains finishes (next, m))
      ⊎ ((m : ℕ) × IsNumber work m × (issue_of work start m ≡ next))

-- after now no message finishes, and the issue of none that is not issued is known
pub record IsLastEvent (work : Work) (start : ℕ → ℕ) (finishes : List (ℕ × ℕ))
    (now : ℕ) : Type 0 where
  pub none : All (λ r. NEVER ≤ r.0) finishes
  pub issues : (m : ℕ) → IsNumber work m
      → (issue_of work start m ≤ now) ⊎ (NEVER ≤ issue_of work start m)
