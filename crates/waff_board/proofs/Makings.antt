-- A new board, its parcels and its seats.
use Rattle.std.proofs.Common.{◌≡◌, ℕ, ◌+◌, ◌<◌, List, [], ◌∷◌, ◌++◌, Some, length, replicate, get_or, slice_get, ap, ◌∙◌, subst, arith}
use Rattle.std.proofs.lemmas.List.FromFn.{length-map-range_with_len, get_or-map-range_with_len}
use Rattle.std.proofs.lemmas.Option.{slice_get-get_or}
use Rattle.waff_model.specs.Parcel.{parcel_size}
use Rattle.waff_core.specs.Job.{JobValue}
use Rattle.waff_board.specs.Openings.{IsFresh, AreFresh, zero_parcels_of}
use Rattle.waff_board.specs.Seats.{fresh}
use Rattle.waff_board.specs.declared.tokens.Seat.{Seat}
use Rattle.waff_board.specs.declared.view.View.{View}
use Rattle.waff_board.proofs.Opens.{AreZeros}

-- one more seat
pub fresh_more : (x n : ℕ) (seats : List Seat) (seat : Seat) → x + length seats ≡ n → AreFresh x seats → IsFresh n seat.view
    → AreFresh x (seats ++ seat ∷ [])
fresh_more x n [] seat is before here =
    let same : n ≡ x = omega (arith, is) in (subst (λ k. IsFresh k seat.view) same here, tt)
fresh_more x n (first ∷ seats) seat is (one, rest) here = (one, fresh_more (x + 1) n seats seat (omega (arith, is)) rest here)

-- a view that is fresh
pub fresh_is : (job : JobValue) (x made : ℕ) (v : View) → v ≡ fresh job x made → IsFresh x v
fresh_is job x made v is = record {
  actor = ap (λ (w : View). w.actor) is;
  phase = ap (λ (w : View). w.phase) is;
  draws = ap (λ (w : View). w.draws) is;
  looks = ap (λ (w : View). w.looks) is;
  ran = ap (λ (w : View). w.ran) is;
}

-- the parcels of all affinities
pub zeros_are : (job : JobValue) (n : ℕ) (parcels : List (List ℕ)) → parcels ≡ zero_parcels_of job.layout.spaces n → n ≡ length job.layout.tree
    → AreZeros job parcels
zeros_are job n parcels is count = (long, each)
  where
    long : length parcels ≡ length job.layout.tree
    long = ap length is ∙ length-map-range_with_len (λ a. replicate (parcel_size job.layout.spaces a) 0) 0 n ∙ count

    each : (a : ℕ) → a < length job.layout.tree → slice_get parcels a ≡ Some (replicate (parcel_size job.layout.spaces a) 0)
    each a within =
        slice_get-get_or parcels a [] (let size = long in omega (arith, within, size))
        ∙ ap (λ xs. Some (get_or xs a [])) is
        ∙ ap (λ (xs : List ℕ). Some xs) (get_or-map-range_with_len (λ a. replicate (parcel_size job.layout.spaces a) 0) 0 n a a [] (omega (arith, within, count)) (omega arith))
