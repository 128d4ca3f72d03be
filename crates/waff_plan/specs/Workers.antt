-- Plans for k workers (Graham 1969): at each tick at most k messages run.
use Rattle.std.specs.Prelude.{ℕ, ◌≤◌, Bool, ◌&&◌, nat_le, nat_lt, count_by}
use Rattle.waff_assign.specs.Order.{Relation}
use Rattle.waff_plan.specs.Work.{Work, finish_of, numbers}
use Rattle.waff_plan.specs.Obeys.{Obeys}

-- whether m runs at the tick t: it has started and has not finished
abbrev pub runs_at : Work → (ℕ → ℕ) → ℕ → ℕ → Bool
runs_at work start t m = nat_le (start m) t && nat_lt t (finish_of work start m)

-- how many messages run at the tick t
abbrev pub running : Work → (ℕ → ℕ) → ℕ → ℕ
running work start t = count_by (runs_at work start t) (numbers work)

-- a worker plan for k: an obeying plan in which at each tick at most k messages run
pub record IsWorkerPlan (before : Relation) (work : Work) (k : ℕ) (start : ℕ → ℕ) : Type 0 where
  pub obeys : Obeys before work start
  pub within : (t : ℕ) → running work start t ≤ k
