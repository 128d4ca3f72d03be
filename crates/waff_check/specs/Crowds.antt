-- The first of the ticks so far at which more than k messages run.
use Rattle.std.specs.Prelude.{ℕ, Bool, true, ◌&&◌, nat_lt, if◌then◌else◌, List, map, Option, Some}
use Rattle.std.specs.Prelude.{None, IsPermutation}
use Rattle.waff_plan.specs.Work.{Work, finish_of, numbers}
use Rattle.waff_plan.specs.Workers.{running}

-- the starts of all messages, and their finishes, each in whatever order
pub record AreTicks (work : Work) (start : ℕ → ℕ) (starts finishes : List ℕ) : Type 0 where
  pub of_starts : IsPermutation (map start (numbers work)) starts
  pub of_finishes : IsPermutation (map (finish_of work start) (numbers work)) finishes

-- a tick is before another, which need not be there
abbrev pub is_earlier : ℕ → Option ℕ → Bool
is_earlier tick None = true
is_earlier tick (Some other) = nat_lt tick other

-- the first tick so far, with one more tick
abbrev pub with_tick : Work → (ℕ → ℕ) → ℕ → Option ℕ → ℕ → Option ℕ
with_tick work start k first tick =
    if is_earlier tick first && nat_lt k (running work start tick) then Some tick else first
