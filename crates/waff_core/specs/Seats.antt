-- How many seats a replay may have.
use Rattle.std.specs.Prelude.{ℕ, ◌≤◌}
use Rattle.waff_core.specs.declared.limits.TheConstants.{MAX_SEATS}

-- so many seats are some, and not too many
pub record IsSeats (seats : ℕ) : Type 0 where
  pub some : 1 ≤ seats
  pub few : seats ≤ MAX_SEATS
