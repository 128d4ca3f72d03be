-- The names that have a colour, one message after the other.
use Rattle.std.proofs.Common.{◌≡◌, ℕ, ◌+◌, ◌<◌, ◌≤◌, inl, inr, cond, List, [], ◌∷◌, ◌++◌, length, get_or, take, arith, ◌∙◌, ap}
use Rattle.std.specs.List.{list_any}
use Rattle.std.specs.Str.{bytes_eq}
use Rattle.std.proofs.lemmas.Bool.{cases_Bool, cases_lt}
use Rattle.std.proofs.lemmas.List.{length-take-le, length_push, take-append-le, take_all}
use Rattle.std.proofs.lemmas.List.Sums.{fold_more}
use Rattle.waff_model.specs.DistinctNames.{distinct_names, with_name}
use Rattle.waff_draw.specs.Colours.{coloured}

-- where fewer than sixteen names have a colour, the next name is put to them
with_some_left : (keys : List (List ℕ)) (name : List ℕ) → length (take 16 keys) < 16 → take 16 (with_name keys name) ≡ with_name (take 16 keys) name
with_some_left keys name few = elim (cases_lt (length keys) 16) [
  | inr many ↦ absurd (omega (arith, few, length-take-le 16 keys many))
  | inl less ↦
      let all : take 16 keys ≡ keys = take_all 16 keys (omega (arith, less)) in
      let pushed : take 16 (keys ++ name ∷ []) ≡ keys ++ name ∷ [] = take_all 16 (keys ++ name ∷ []) (omega (arith, less, length_push keys name)) in
      elim (cases_Bool (list_any (bytes_eq name) keys)) [
        | inl there ↦ rw (all, there) all
        | inr new ↦ rw (all, new) pushed
      ]
]

-- and where sixteen have one, no more are put to them
with_none_left : (keys : List (List ℕ)) (name : List ℕ) → 16 ≤ length (take 16 keys) → take 16 (with_name keys name) ≡ take 16 keys
with_none_left keys name full = elim (cases_Bool (list_any (bytes_eq name) keys)) [
  | inl there ↦ ap (λ b. take 16 (cond b keys (keys ++ name ∷ []))) there
  | inr new ↦
      ap (λ b. take 16 (cond b keys (keys ++ name ∷ []))) new
      ∙ take-append-le 16 keys (name ∷ []) (elim (cases_lt (length keys) 16) [
        | inr many ↦ many
        | inl less ↦ absurd (omega (arith, full, less, ap length (take_all 16 keys (omega (arith, less)))))
      ])
]

module _ (names : List (List ℕ)) (i : ℕ) (low : i < length names) where
  next : coloured (take (i + 1) names) ≡ take 16 (with_name (distinct_names (take i names)) (get_or names i []))
  next = ap (take 16) (fold_more with_name [] names i [] low)

  pub coloured_more : length (coloured (take i names)) < 16 → coloured (take (i + 1) names) ≡ with_name (coloured (take i names)) (get_or names i [])
  coloured_more few = next ∙ with_some_left (distinct_names (take i names)) (get_or names i []) few

  pub coloured_stays : 16 ≤ length (coloured (take i names)) → coloured (take (i + 1) names) ≡ coloured (take i names)
  coloured_stays full = next ∙ with_none_left (distinct_names (take i names)) (get_or names i []) full
