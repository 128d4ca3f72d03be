-- Sets of owners, each of them marked.
use Rattle.std.proofs.Common.{◌≡◌, ◌≢◌, ◌⊎◌, inl, inr, ℕ, ◌+◌, ◌<◌, ◌≤◌, Bool, true, false, List, [], ◌∷◌, ◌++◌, length, get_or, set, Contains, arith, ap, sym, ◌∙◌, subst, ⊎_elim}
use Rattle.std.proofs.lemmas.Bool.{cases_eq, cases_lt, true≢false}
use Rattle.std.proofs.lemmas.List.{get_or-set_same, get_or-set_other, get_or_default, get_or_past, length_push}
use Rattle.std.proofs.lemmas.List.Elements.{Contains-get_or, Contains-push, Contains-push_cases, Contains-append_left}
use Rattle.std.proofs.lemmas.List.Quantifiers.{all_pairs_push}
use Rattle.waff_core.specs.Owners.{AreAdded, AreMarked}

-- each owner is an affinity that can be marked
pub owner_within : (marks : List Bool) (owners : List ℕ) (at : ℕ) → at < length owners → AreMarked marks owners → get_or owners at 0 < length marks
owner_within marks owners at within h = elim (cases_lt (get_or owners at 0) (length marks)) [
  | inl inside ↦ inside
  | inr past ↦ absurd (true≢false (sym ((h (get_or owners at 0)).1 (Contains-get_or owners at 0 within)) ∙ get_or_past marks (get_or owners at 0) false past))
]

-- what is marked is one of the owners from a place on
abbrev pub AreLeft : List Bool → List ℕ → ℕ → Type 0
AreLeft marks owners at = (a : ℕ) → get_or marks a false ≡ true → (i : ℕ) × (at ≤ i) × (i < length owners) × (get_or owners i 0 ≡ a)

pub left_all : (marks : List Bool) (owners : List ℕ) → AreMarked marks owners → AreLeft marks owners 0
left_all marks owners h a marked =
    let has = (h a).0 marked in
    (has.0, omega arith, has.1, get_or_default owners has.0 0 a has.1 ∙ has.2)

pub left_less : (marks : List Bool) (owners : List ℕ) (at : ℕ) → get_or owners at 0 < length marks → AreLeft marks owners at
    → AreLeft (set marks (get_or owners at 0) false) owners (at + 1)
left_less marks owners at known h a marked =
    let own = get_or owners at 0 in
    ⊎_elim {C = (i : ℕ) × (at + 1 ≤ i) × (i < length owners) × (get_or owners i 0 ≡ a)}
    (λ (same : a ≡ own). absurd (true≢false (sym marked ∙ (ap (λ n. get_or (set marks own false) n false) same ∙ get_or-set_same marks own false false known))))
    (λ (other : a ≢ own).
    let left = h a (sym (get_or-set_other marks own a false false other) ∙ marked) in
    let later : left.0 ≢ at = λ e. other (sym left.3 ∙ ap (λ n. get_or owners n 0) e) in
    (left.0, omega (arith, left.1, later), left.2, left.3))
    (cases_eq a own)

-- one more
pub added_one : (owners : List ℕ) (a : ℕ) → ¬ Contains owners a → AreAdded (a ∷ []) owners (owners ++ a ∷ [])
added_one owners a fresh = record {
  each = λ b. (
    λ has. ⊎_elim {C = Contains owners b ⊎ Contains (a ∷ []) b} inl (λ (is : a ≡ b). inr (subst (Contains (a ∷ [])) is (Contains-push [] a))) (Contains-push_cases owners a b has),
    λ h. ⊎_elim {C = Contains (owners ++ a ∷ []) b}
        (λ (there : Contains owners b). Contains-append_left owners (a ∷ []) b there)
        (λ (here : Contains (a ∷ []) b). ⊎_elim {C = Contains (owners ++ a ∷ []) b}
        (λ (none : Contains [] b). absurd (omega (arith, none.1)))
        (λ (is : a ≡ b). subst (Contains (owners ++ a ∷ [])) is (Contains-push owners a))
        (Contains-push_cases [] a b here)) h,
  );
  once = λ once. all_pairs_push (λ x y. x ≢ y) owners a once
      (λ k d within. λ e. fresh (subst (Contains owners) e (Contains-get_or owners k d within)));
  few = omega (arith, length_push owners a);
}
