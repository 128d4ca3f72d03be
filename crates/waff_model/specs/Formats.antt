-- The limits of spaces and maps, and whether spaces may have locks, by the format of their
-- hierarchy.
use Rattle.std.specs.Prelude.{ℕ, Bool, true, false}
use Rattle.waff_model.specs.declared.limits.TheConstants.{MAX_SIZE, MAX_UNIT}
use Rattle.waff_model.specs.declared.limits.TheConstants.{MAX_LARGE_SIZE, MAX_LARGE_UNIT}
use Rattle.waff_model.specs.declared.format.Format.{Format}
use Rattle.waff_model.specs.declared.format.Format.TheVariants.{F1, F2, F3}

-- the greatest size of a space
abbrev pub max_size_of : Format → ℕ
max_size_of F1 = MAX_SIZE
max_size_of F2 = MAX_LARGE_SIZE
max_size_of F3 = MAX_LARGE_SIZE

-- the greatest unit of a map
abbrev pub max_unit_of : Format → ℕ
max_unit_of F1 = MAX_UNIT
max_unit_of F2 = MAX_LARGE_UNIT
max_unit_of F3 = MAX_LARGE_UNIT

-- whether spaces may have locks
abbrev pub may_lock : Format → Bool
may_lock F1 = false
may_lock F2 = false
may_lock F3 = true
