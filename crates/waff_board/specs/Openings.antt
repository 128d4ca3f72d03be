-- What a board is when it is made.
use Rattle.std.specs.Prelude.{◌≡◌, ℕ, ◌+◌, List, [], ◌∷◌, map, replicate}
use Rattle.std.specs.List.{range_with_len}
use Rattle.waff_model.specs.Layout.{Space}
use Rattle.waff_model.specs.Parcel.{parcel_size}
use Rattle.waff_core.specs.declared.actors.Phase.TheVariants.{Free}
use Rattle.waff_board.specs.declared.tokens.Seat.{Seat}
use Rattle.waff_board.specs.declared.view.View.{View}

-- actor x has done nothing
pub record IsFresh (x : ℕ) (v : View) : Type 0 where
  pub actor : v.actor ≡ x
  pub phase : v.phase ≡ Free
  pub draws : v.draws ≡ []
  pub looks : v.looks ≡ []
  pub ran : v.ran ≡ []

-- the seats are those of actors x, x + 1 and so on, which have done nothing
abbrev pub AreFresh : ℕ → List Seat → Type 0
AreFresh x [] = Unit {0}
AreFresh x (seat ∷ seats) = IsFresh x seat.view × AreFresh (x + 1) seats

-- the parcels of the first n affinities, with 0 in every cell
abbrev pub zero_parcels_of : List Space → ℕ → List (List ℕ)
zero_parcels_of spaces n = map (λ a. replicate (parcel_size spaces a) 0) (range_with_len 0 n)
