-- What the views of a board's seats show of a state of the core machine.
use Rattle.std.specs.Prelude.{◌≡◌, ◌≢◌, ℕ, ◌+◌, ◌<◌, ◌≤◌, ◌==◌, ◌&&◌, ◌||◌, Bool, true, List, []}
use Rattle.std.specs.Prelude.{Some, AllPairs, Contains, length}
use Rattle.std.specs.List.{list_any}
use mathlib.Core.Option.{some}
use lib.ListN.{get_elem?}
use Rattle.waff_core.specs.Job.{JobValue}
use Rattle.waff_core.specs.Machine.{Core, phase_of}
use Rattle.waff_core.specs.declared.actors.Phase.TheVariants.{Free}
use Rattle.waff_board.specs.declared.view.Setup.{Setup}
use Rattle.waff_board.specs.declared.view.View.{View}

-- the view of an actor that has done nothing
abbrev pub fresh : JobValue → ℕ → ℕ → View
fresh job actor made =
    record { actor = actor; phase = Free; draws = []; looks = []; ran = []; made = made; job = job }

-- the view of the first seat
abbrev pub first : Setup → View
first setup = fresh setup.job 1 1

-- whether a view has seen that message n is done: it finished the message, or a look found it done
abbrev pub has_seen : View → ℕ → Bool
has_seen v n = list_any (λ m. m == n) v.ran || list_any (λ look. look.0 == n && look.1) v.looks

-- a view has seen that message n is done
abbrev pub HasSeen : View → ℕ → Type 0
HasSeen v n = has_seen v n ≡ true

-- a view shows the state
pub record Shown (job : JobValue) (core : Core) (v : View) : Type 0 where
  pub same : v.job ≡ job
  pub phase : phase_of core.phases v.actor ≡ Some v.phase
  pub seen : (n : ℕ) → HasSeen v n → core.done n ≡ true

-- number n stands in the list of one of the views
pub record StandsInOne (list : View → List ℕ) (views : List View) (n : ℕ) : Type 0 where
  pub seat : ℕ
  pub view : View
  pub at : get_elem? views seat ≡ some view
  pub has : Contains (list view) n

-- the numbers that are such are those that stand in the lists of the views, each in one list, there
-- once
pub record AreListedOnce (list : View → List ℕ) (such : ℕ → Type 0) (views : List View) : Type 0 where
  pub each : (n : ℕ) → such n → StandsInOne list views n
  pub only : (seat : ℕ) (v : View) → get_elem? views seat ≡ some v
      → (n : ℕ) → Contains (list v) n → such n
  pub apart : (seat other : ℕ) (v w : View) → get_elem? views seat ≡ some v
      → get_elem? views other ≡ some w
      → (n : ℕ) → Contains (list v) n → Contains (list w) n → seat ≡ other
  pub once : (seat : ℕ) (v : View) → get_elem? views seat ≡ some v → AllPairs (λ m n. m ≢ n) (list v)

-- the views show the state: those of actors 1, 2 and so on; each number below that of the draws
-- was drawn by one of them, once; each message that is done was run by one, once; an actor whose
-- seat is not made yet is free
pub record Seats (setup : Setup) (core : Core) (views : List View) : Type 0 where
  pub each : (id : ℕ) (v : View) → get_elem? views id ≡ some v → Shown setup.job core v
  pub actors : (id : ℕ) (v : View) → get_elem? views id ≡ some v → v.actor ≡ id + 1
  pub draws : AreListedOnce (λ v. v.draws) (λ p. p < core.drawn) views
  pub ran : AreListedOnce (λ v. v.ran) (λ m. core.done m ≡ true) views
  pub made : (v : View) → get_elem? views 0 ≡ some v → v.made ≡ length views
  pub few : length views ≤ setup.seats
  pub free : (x : ℕ) → length views < x → x ≤ setup.seats → phase_of core.phases x ≡ Some Free
