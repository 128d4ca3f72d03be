-- The rows of a message's owners, into which parcels are taken out of slots, and out of which they are put in.
use Rattle.std.proofs.Common.{◌≡◌, ⊎_elim, ℕ, zero, suc, ◌+◌, ◌<◌, List, [], ◌∷◌, ◌++◌, Contains, map, length, set, get_or, take, drop, slice_index_or, refl, sym, ap, ◌∙◌, subst, arith}
use mathlib.Core.List.{map-append}
use Rattle.std.proofs.lemmas.List.{take_more, get_or-set_same, get_or-set_other}
use Rattle.std.proofs.lemmas.List.Elements.{Contains-get_or}
use Rattle.waff_model.specs.Layout.{Space}
use Rattle.waff_cells.specs.Meaning.{Cells}
use Rattle.waff_cells.specs.Parcel.{IsParcel, AreParcels}
use Rattle.waff_core.specs.Job.{StandOnce}
use Rattle.waff_board.specs.Hands.{rows_at}
use Rattle.waff_board.specs.Plays.{Parcels}
use Rattle.waff_board.proofs.Swapping.{drop_next}
use Rattle.waff_model.proofs.Members.{in_cases, in_first, in_none, in_rest}
use Rattle.waff_board.proofs.Owners.{once_first, once_rest}

-- another row leaves these
rows_other : (rows : List (List ℕ)) (affinities : List ℕ) (a : ℕ) (x : List ℕ) → ¬ Contains affinities a
    → rows_at (set rows a x) affinities ≡ rows_at rows affinities
rows_other rows [] a x not_in = refl
rows_other rows (b ∷ rest) a x not_in =
    ap (λ row. row ∷ rows_at (set rows a x) rest)
    (get_or-set_other rows a b x [] (λ same. not_in (subst (λ c. Contains (b ∷ rest) c) same (in_first b rest))))
    ∙ ap (λ later. get_or rows b [] ∷ later) (rows_other rows rest a x (λ there. not_in (in_rest b rest a there)))

-- an affinity stands neither before its place nor after it
not_before : (owners : List ℕ) (k : ℕ) → StandOnce owners → k < length owners → ¬ Contains (take k owners) (get_or owners k 0)
not_before [] k apart within there = absurd (omega (arith, within))
not_before (first ∷ rest) zero apart within there = in_none first there
not_before (first ∷ rest) (suc k) apart within there = ⊎_elim {C = ⊥}
    (λ (same : first ≡ get_or rest k 0).
    once_first first rest apart (subst (λ b. Contains rest b) (sym same) (Contains-get_or rest k 0 (omega (arith, within)))))
    (λ (later : Contains (take k rest) (get_or rest k 0)). not_before rest k (once_rest first rest apart) (omega (arith, within)) later)
    (in_cases first (take k rest) (get_or rest k 0) there)

not_after : (owners : List ℕ) (k : ℕ) → StandOnce owners → k < length owners → ¬ Contains (drop (suc k) owners) (get_or owners k 0)
not_after [] k apart within there = absurd (omega (arith, within))
not_after (first ∷ rest) zero apart within there = once_first first rest apart there
not_after (first ∷ rest) (suc k) apart within there = not_after rest k (once_rest first rest apart) (omega (arith, within)) there

module _ (rows : List (List ℕ)) (owners : List ℕ) (apart : StandOnce owners) (k : ℕ) (within : k < length owners) (x : List ℕ) where
  -- one more row
  pub rows_taken : get_or owners k 0 < length rows
      → rows_at (set rows (get_or owners k 0) x) (take (k + 1) owners) ≡ rows_at rows (take k owners) ++ x ∷ []
  rows_taken small =
      let a = get_or owners k 0 in
      let f : ℕ → List ℕ = λ b. get_or (set rows a x) b [] in
      ap (λ names. map f names) (take_more owners k 0 within)
      ∙ map-append f (take k owners) (a ∷ [])
      ∙ ap (λ before. before ++ get_or (set rows a x) a [] ∷ []) (rows_other rows (take k owners) a x (not_before owners k apart within))
      ∙ ap (λ row. rows_at rows (take k owners) ++ row ∷ []) (get_or-set_same rows a x [] small)

  -- one row less
  module _ (was : List (List ℕ)) (same : rows_at rows (drop k owners) ≡ rows_at was (drop k owners)) where
    both : get_or rows (get_or owners k 0) [] ∷ rows_at rows (drop (k + 1) owners)
        ≡ get_or was (get_or owners k 0) [] ∷ rows_at was (drop (k + 1) owners)
    both = subst (λ names. rows_at rows names ≡ rows_at was names) (drop_next owners k within) same

    pub row_left : get_or rows (get_or owners k 0) [] ≡ get_or was (get_or owners k 0) []
    row_left = let same = both in cc

    pub rows_left : rows_at (set rows (get_or owners k 0) x) (drop (k + 1) owners) ≡ rows_at was (drop (k + 1) owners)
    rows_left =
        let a = get_or owners k 0 in
        let next : suc k ≡ k + 1 = omega arith in
        let later : rows_at rows (drop (k + 1) owners) ≡ rows_at was (drop (k + 1) owners) = (let same = both in cc) in
        rows_other rows (drop (k + 1) owners) a x (subst (λ n. ¬ Contains (drop n owners) a) next (not_after owners k apart within)) ∙ later

-- the rows are the parcels of slots
pub parcels_at : {S : Type 0} (items : S → List ℕ) (spaces : List Space) (cells : Cells) (owners : List ℕ) (held : List (ℕ × S)) (rows : List (List ℕ))
    → Parcels items spaces cells owners held → rows_at rows owners ≡ map (λ slot. items slot.1) held → AreParcels spaces owners cells rows
parcels_at items spaces cells [] held rows parcels same a there = absurd (in_none a there)
parcels_at items spaces cells (o ∷ rest) [] rows parcels same a there = absurd parcels
parcels_at items spaces cells (o ∷ rest) (slot ∷ held) rows parcels same a there =
    let row : slice_index_or rows o [] ≡ items slot.1 = cc in
    let later : rows_at rows rest ≡ map (λ slot. items slot.1) held = cc in
    ⊎_elim {C = IsParcel spaces a cells (slice_index_or rows a [])}
    (λ (is : o ≡ a). subst (λ b. IsParcel spaces b cells (slice_index_or rows b [])) is
    (subst (λ numbers. IsParcel spaces o cells numbers) (sym row) parcels.0.1))
    (λ (after : Contains rest a). parcels_at items spaces cells rest held rows parcels.1 later a after)
    (in_cases o rest a there)

-- slots with the parcels of rows
pub parcels_from : {S : Type 0} (items : S → List ℕ) (spaces : List Space) (cells : Cells) (owners : List ℕ) (held : List (ℕ × S)) (rows : List (List ℕ))
    → map (λ slot. slot.0) held ≡ owners → map (λ slot. items slot.1) held ≡ rows_at rows owners → AreParcels spaces owners cells rows
    → Parcels items spaces cells owners held
parcels_from items spaces cells [] [] rows names values are = tt
parcels_from items spaces cells [] (slot ∷ held) rows names values are = absurd (cc)
parcels_from items spaces cells (o ∷ rest) [] rows names values are = absurd (cc)
parcels_from items spaces cells (o ∷ rest) (slot ∷ held) rows names values are =
    let name : slot.0 ≡ o = cc in
    let later : map (λ slot. slot.0) held ≡ rest = cc in
    let value : items slot.1 ≡ slice_index_or rows o [] = cc in
    let others : map (λ slot. items slot.1) held ≡ rows_at rows rest = cc in (
      (name, subst (λ numbers. IsParcel spaces o cells numbers) (sym value) (are o (in_first o rest))),
      parcels_from items spaces cells rest held rows later others (λ a there. are a (in_rest o rest a there)),
    )
