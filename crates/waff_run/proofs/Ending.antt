-- The ends of cells in files, one cell after another.
use Rattle.std.proofs.Common.{◌≡◌, inl, inr, ℕ, ◌<◌, ◌≤◌, List, [], ◌∷◌, ◌++◌, length, get_or, set, replicate, refl, ap, ap₂, sym, subst, subst₂, ◌+◌, ◌∙◌, arith, le_refl, le_trans}
use Rattle.std.proofs.lemmas.Bool.{cases_eq}
use Rattle.std.proofs.lemmas.List.{get_or-replicate, get_or-set_other, get_or-set_same, length-replicate, length-set}
use Rattle.std.proofs.lemmas.List.Elements.{Contains-append_left, Contains-push, Contains-push_cases}
use Rattle.waff_model.specs.declared.cell.Cell.{Cell}
use Rattle.waff_run.specs.Named.{AreEnds, HasEnd, IsEnd, end_of}
use Rattle.waff_run.specs.Places.{Placing, spot_of}
use Rattle.waff_run.specs.declared.places.Spot.{Spot}

-- one cell more
module _ (placing : Placing) (cells : List Cell) (cell : Cell) where
  still_ends : (file end : ℕ) → HasEnd placing cells file end → HasEnd placing (cells ++ cell ∷ []) file end
  still_ends file end has = record {
    cell = has.cell;
    named = Contains-append_left cells (cell ∷ []) has.cell has.named;
    here = has.here;
    ends = has.ends;
  }

  -- the end of a file stays where the cell ends by it, or lies in another file
  end_stays : (file end : ℕ) → IsEnd placing cells file end → ((spot_of placing cell).file ≡ file → end_of placing cell ≤ end)
      → IsEnd placing (cells ++ cell ∷ []) file end
  end_stays file end is within = record {
    enough = λ other has here. elim (Contains-push_cases cells cell other has) [
      | inl before ↦ is.enough other before here
      | inr same ↦
          subst (λ (c : Cell). end_of placing c ≤ end) same
          (within (subst (λ (c : Cell). (spot_of placing c).file ≡ file) (sym same) here))
    ];
    least = elim is.least [ inl none ↦ inl none | inr has ↦ inr (still_ends file end has) ];
  }

  -- it is the end of the cell where that lies behind it
  end_moves : (file end : ℕ) → IsEnd placing cells file end → (spot_of placing cell).file ≡ file → end ≤ end_of placing cell
      → IsEnd placing (cells ++ cell ∷ []) file (end_of placing cell)
  end_moves file end is here above = record {
    enough = λ other has lies. elim (Contains-push_cases cells cell other has) [
      | inl before ↦ le_trans (is.enough other before lies) above
      | inr same ↦ subst (λ (c : Cell). end_of placing c ≤ end_of placing cell) same (le_refl (end_of placing cell))
    ];
    least = inr (record { cell = cell; named = Contains-push cells cell; here = here; ends = refl });
  }

  pub ends_stay : (ends : List ℕ) → AreEnds placing cells ends
      → ((spot_of placing cell).file < length ends → end_of placing cell ≤ get_or ends (spot_of placing cell).file 0)
      → AreEnds placing (cells ++ cell ∷ []) ends
  ends_stay ends are within = record {
    count = are.count;
    each = λ file inside. end_stays file (get_or ends file 0) (are.each file inside)
        (λ here. subst (λ f. f < length ends → end_of placing cell ≤ get_or ends f 0) here within inside);
  }

  pub end_noted : (ends : List ℕ) → AreEnds placing cells ends → (spot_of placing cell).file < length ends
      → get_or ends (spot_of placing cell).file 0 ≤ end_of placing cell
      → AreEnds placing (cells ++ cell ∷ []) (set ends (spot_of placing cell).file (end_of placing cell))
  end_noted ends are inside less =
      let at : ℕ = (spot_of placing cell).file in
      let end : ℕ = end_of placing cell in
      record {
        count = length-set ends at end ∙ are.count;
        each = λ file within.
            let before : file < length ends = omega (arith, length-set ends at end, within) in
            elim (cases_eq at file) [
              | inl here ↦
                  let is : get_or (set ends at end) file 0 ≡ end = ap (λ f. get_or (set ends at end) f 0) (sym here) ∙ get_or-set_same ends at end 0 inside in
                  subst (IsEnd placing (cells ++ cell ∷ []) file) (sym is)
                  (end_moves file (get_or ends file 0) (are.each file before) here (subst (λ f. get_or ends f 0 ≤ end) here less))
              | inr other ↦
                  let is : get_or (set ends at end) file 0 ≡ get_or ends file 0 = get_or-set_other ends at file end 0 (λ same. other (sym same)) in
                  subst (IsEnd placing (cells ++ cell ∷ []) file) (sym is)
                  (end_stays file (get_or ends file 0) (are.each file before) (λ here. absurd (other here)))
            ];
      }

-- the same, where spot and bytes are known by equations
module _ (placing : Placing) (cells : List Cell) (cell : Cell) (spot : Spot) (bytes : ℕ) (is_spot : spot ≡ spot_of placing cell) (is_bytes : bytes ≡ placing.bytes) (ends : List ℕ) (are : AreEnds placing cells ends) where
  file_is : spot.file ≡ (spot_of placing cell).file
  file_is = ap (λ (s : Spot). s.file) is_spot

  end_is : spot.at + bytes ≡ end_of placing cell
  end_is = ap₂ (λ (s : Spot) n. s.at + n) is_spot is_bytes

  pub end_noted_at : spot.file < length ends → get_or ends spot.file 0 < spot.at + bytes
      → AreEnds placing (cells ++ cell ∷ []) (set ends spot.file (spot.at + bytes))
  end_noted_at inside less =
      let there : (spot_of placing cell).file < length ends = omega (arith, file_is, inside) in
      let before : get_or ends (spot_of placing cell).file 0 ≤ end_of placing cell = omega (arith, less, end_is, ap (λ f. get_or ends f 0) file_is) in
      subst₂ (λ f e. AreEnds placing (cells ++ cell ∷ []) (set ends f e)) (sym file_is) (sym end_is) (end_noted placing cells cell ends are there before)

  pub ends_stay_at : (spot.file < length ends → spot.at + bytes ≤ get_or ends spot.file 0) → AreEnds placing (cells ++ cell ∷ []) ends
  ends_stay_at within =
      ends_stay placing cells cell ends are (λ inside.
      let there : spot.file < length ends = omega (arith, file_is, inside) in
      omega (arith, within there, end_is, ap (λ f. get_or ends f 0) file_is))

-- no cell ends anywhere
pub no_ends : (placing : Placing) → AreEnds placing [] (replicate placing.files 0)
no_ends placing = record {
  count = length-replicate {A = ℕ} placing.files 0;
  each = λ file inside. record {
    enough = λ cell has here. absurd (omega (arith, has.1));
    least = inl (get_or-replicate placing.files file 0 0 (omega (arith, length-replicate {A = ℕ} placing.files 0, inside)));
  };
}
