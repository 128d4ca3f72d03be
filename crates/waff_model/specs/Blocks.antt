-- How the tables by places are cut into blocks of 64 places.
use Rattle.std.specs.Prelude.{◌≡◌, ℕ, suc, ◌+◌, ◌*◌, ◌/◌, ◌<◌, ◌≤◌, Bool, true, false}
use Rattle.std.specs.Prelude.{List, [], ◌∷◌, length, slice_index, slice_index_or}
use Rattle.waff_model.specs.Later.{Join, latest_in, value_at}

-- there is a block for each 64 places
abbrev pub AreCut : {A B : Type 0} → List A → List B → Type 0
AreCut places blocks = length places ≤ 64 * length blocks

-- what counts at each place from p on: the later of what is noted at the place alone and at all
-- places of its block
abbrev pub spread_from : {T : Type 0} → Join T → List T → ℕ → List T → List T
spread_from join blocks p [] = []
spread_from join blocks p (x ∷ xs) =
    join.later x (value_at join blocks (p / 64)) ∷ spread_from join blocks (suc p) xs

-- of each block the latest of its places is known
pub record AreSummed {T : Type 0} (join : Join T) (places blocks : List T) : Type 0 where
  pub room : AreCut places blocks
  pub each : (b : ℕ) → b < length blocks
      → value_at join blocks b ≡ latest_in join places (64 * b) (64 * b + 64)

-- no message stands in a block that is not filled
pub record AreFilled (places : List ℕ) (blocks : List Bool) : Type 0 where
  pub room : AreCut places blocks
  pub none : (p : ℕ) → slice_index_or blocks (p / 64) true ≡ false → slice_index places p ≡ 0

-- no message stands from this place on
abbrev pub AreBelow : ℕ → List ℕ → Type 0
AreBelow end places = (p : ℕ) → end ≤ p → slice_index places p ≡ 0
