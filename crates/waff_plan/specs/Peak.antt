-- The greatest of some numbers.
use Rattle.std.specs.Prelude.{◌≡◌, ℕ, ◌+◌, ◌<◌, ◌≤◌, map}
use Rattle.std.specs.List.{range_with_len}
use Rattle.waff_plan.specs.Work.{greatest}
use Rattle.waff_plan.specs.declared.peak.Peak.{Peak}

-- of `count` numbers from `from` on the greatest value of f, and the first number that has it; 0 and 0 where all have 0
pub record IsPeak (f : ℕ → ℕ) (from count : ℕ) (peak : Peak) : Type 0 where
  pub ticks : peak.ticks ≡ greatest (map f (range_with_len from count))
  pub none : peak.ticks ≡ 0 → peak.at ≡ 0
  pub at : 0 < peak.ticks → (from ≤ peak.at) × (peak.at < from + count) × (f peak.at ≡ peak.ticks)
  pub first : (m : ℕ) → from ≤ m → m < peak.at → f m < peak.ticks
