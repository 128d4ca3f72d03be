-- The shifts of workers: each is a message that runs, with the worker that its row tells and its
-- start.
use Rattle.std.specs.Prelude.{◌≡◌, ◌≢◌, ℕ, ◌+◌, ◌<◌, ◌≤◌, List, length, slice_index_or, All}
use Rattle.std.specs.Prelude.{Contains, Option, Some, None}
use Rattle.waff_plan.specs.Work.{Work, IsNumber, finish_of}
use Rattle.waff_check.specs.declared.shifts.Shift.{Shift}

-- the worker is one of k
abbrev pub IsOneOf : ℕ → Option ℕ → Type 0
IsOneOf k None = ⊥
IsOneOf k (Some w) = (1 ≤ w) × (w ≤ k)

-- the first messages of the work, this many
abbrev pub first_of : Work → ℕ → Work
first_of work many = record {
  count = many;
  cost = work.cost;
  floor = work.floor;
  awaits = work.awaits;
}

abbrev pub shift_of : ℕ → ℕ → ℕ → Shift
shift_of worker start number = record { worker = worker; start = start; number = number }

-- the message has this worker and this start, and runs at a tick
pub record IsShift (work : Work) (start : ℕ → ℕ) (worker : ℕ → Option ℕ)
    (shift : Shift) : Type 0 where
  pub number : IsNumber work shift.number
  pub same_worker : worker shift.number ≡ Some shift.worker
  pub same_start : start shift.number ≡ shift.start
  pub runs : start shift.number < finish_of work start shift.number

-- the shift of message n: none where it has no worker, or runs at no tick
abbrev pub IsShiftOf : Work → (ℕ → ℕ) → (ℕ → Option ℕ) → ℕ → Option Shift → Type 0
IsShiftOf work start worker n None =
    (w : ℕ) → worker n ≡ Some w → start n < finish_of work start n → ⊥
IsShiftOf work start worker n (Some shift) = IsShift work start worker shift × (shift.number ≡ n)

-- the shift at a place, from 0
abbrev pub shift_at : List Shift → ℕ → Shift
shift_at shifts i = slice_index_or shifts i (shift_of 0 0 0)

-- all shifts, each once, by worker and then by start
pub record AreShifts (work : Work) (start : ℕ → ℕ) (worker : ℕ → Option ℕ)
    (shifts : List Shift) : Type 0 where
  pub each : (n w : ℕ) → IsNumber work n → worker n ≡ Some w
      → start n < finish_of work start n → Contains shifts (shift_of w (start n) n)
  pub only : All (IsShift work start worker) shifts
  pub once : (i j : ℕ) → i < j → j < length shifts → (shift_at shifts i).number ≢ (shift_at shifts j).number
  pub by_worker : (i j : ℕ) → i ≤ j → j < length shifts
      → (shift_at shifts i).worker ≤ (shift_at shifts j).worker
  pub by_start : (i j : ℕ) → i ≤ j → j < length shifts
      → (shift_at shifts i).worker ≡ (shift_at shifts j).worker
      → (shift_at shifts i).start ≤ (shift_at shifts j).start

-- where both are of one worker, the one has ended when the next begins
abbrev pub Follows : Work → (ℕ → ℕ) → Shift → Shift → Type 0
Follows work start one next =
    one.worker ≡ next.worker → finish_of work start one.number ≤ next.start

-- each shift follows the one before it
abbrev pub AreApart : Work → (ℕ → ℕ) → List Shift → Type 0
AreApart work start shifts = (i : ℕ) → i + 1 < length shifts
    → Follows work start (shift_at shifts i) (shift_at shifts (i + 1))
