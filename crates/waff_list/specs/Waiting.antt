-- What the planner keeps of the workers that are idle, and of the messages that run.
use Rattle.std.specs.Prelude.{◌≡◌, ℕ, ◌<◌, ◌≤◌, ◌⊎◌, List, ◌∷◌, ◌++◌, map, All, Contains}
use Rattle.std.specs.List.Sorted.{IsPermutation}
use Rattle.waff_model.specs.Numbers.{IsAmongFirst}
use Rattle.waff_plan.specs.Work.{Work, IsNumber, finish_of}
use Rattle.waff_waits.specs.Times.{AreEach}
use Rattle.waff_list.specs.Seating.{worker_of}

-- m, the least number of a heap, has left it
pub record LeavesLeast (old : List ℕ) (m : ℕ) (new : List ℕ) : Type 0 where
  pub rest : IsPermutation old (m ∷ new)
  pub least : (x : ℕ) → Contains new x → m ≤ x

-- each worker is idle or that of one message that runs
abbrev pub AreManned : ℕ → List ℕ → List (ℕ × ℕ) → List ℕ → Type 0
AreManned workers seats finishes idle =
    AreEach (IsAmongFirst workers) (idle ++ map (λ r. worker_of seats r.1) finishes)

-- a message that runs at now, after the tick at which it finishes
abbrev pub Runs : Work → (ℕ → ℕ) → ℕ → ℕ × ℕ → Type 0
Runs work start now r =
    IsNumber work r.1 × (start r.1 ≤ now) × (now < r.0) × (finish_of work start r.1 ≡ r.0)

-- the messages that run at now, each with its finish
pub record AreFinishes (work : Work) (start : ℕ → ℕ)
    (now : ℕ) (finishes : List (ℕ × ℕ)) : Type 0 where
  pub each : (m : ℕ) → IsNumber work m → start m ≤ now → now < finish_of work start m
      → Contains finishes (finish_of work start m, m)
  pub only : All (Runs work start now) finishes

-- those that finish by next have left
pub record HaveFinished (next : ℕ) (old new : List (ℕ × ℕ)) : Type 0 where
  pub kept : (r : ℕ × ℕ) → Contains old r → (r.0 ≤ next) ⊎ Contains new r
  pub only : (r : ℕ × ℕ) → Contains new r → Contains old r × (next < r.0)
