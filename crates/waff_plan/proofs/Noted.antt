-- The messages of a sequence that are noted before a place: those of a kind, or all.
use Rattle.std.proofs.Common.{◌≡◌, ℕ, ◌+◌, ◌<◌, inl, inr, List, [], ◌∷◌, ◌++◌, Contains, arith, sym, ◌∙◌, ap, subst}
use Rattle.std.proofs.lemmas.Bool.{cases_eq}
use Rattle.std.proofs.lemmas.List.Elements.{Contains-append_left, Contains-push, Contains-push_cases}
use Rattle.waff_plan.specs.ByStart.{started_at}
use Rattle.waff_plan.specs.declared.sequence.Started.{Started}

pub record AreNoted (sequence : List Started) (Is : ℕ → Type 0) (place : ℕ) (noted : List ℕ) : Type 0 where
  pub each : (i : ℕ) → Contains noted i → (p : ℕ) × (p < place) × ((started_at sequence p).number ≡ i) × Is i
  pub all : (p : ℕ) → p < place → Is (started_at sequence p).number → Contains noted (started_at sequence p).number

module _ (sequence : List Started) (Is : ℕ → Type 0) where
  pub none_noted : AreNoted sequence Is 0 []
  none_noted = record { each = λ i there. absurd (omega (arith, there.1)); all = λ p less is. absurd (omega (arith, less)) }

  module _ (place m : ℕ) (noted : List ℕ) (here : (started_at sequence place).number ≡ m) (are : AreNoted sequence Is place noted) where
    earlier : (i : ℕ) → Contains noted i → (p : ℕ) × (p < place + 1) × ((started_at sequence p).number ≡ i) × Is i
    earlier i there = let at = are.each i there in (at.0, omega (arith, at.1), at.2, at.3)

    number_is : (p : ℕ) → p ≡ place → (started_at sequence p).number ≡ m
    number_is p same = ap (λ k. (started_at sequence k).number) same ∙ here

    -- one more place, the message at which is noted
    pub noted_more : Is m → AreNoted sequence Is (place + 1) (noted ++ m ∷ [])
    noted_more is = record {
      each = λ i there. elim (Contains-push_cases noted m i there) [
        | inl old ↦ earlier i old
        | inr new ↦ (place, omega arith, here ∙ new, subst Is new is)
      ];
      all = λ p less of. elim (cases_eq p place) [
        | inl same ↦ subst (Contains (noted ++ m ∷ [])) (sym (number_is p same)) (Contains-push noted m)
        | inr other ↦ Contains-append_left noted (m ∷ []) (started_at sequence p).number (are.all p (omega (arith, less, other)) of)
      ];
    }

    -- or not
    pub noted_passed : (Is m → ⊥) → AreNoted sequence Is (place + 1) noted
    noted_passed passed = record {
      each = earlier;
      all = λ p less of. elim (cases_eq p place) [
        | inl same ↦ absurd (passed (subst Is (number_is p same) of))
        | inr other ↦ are.all p (omega (arith, less, other)) of
      ];
    }
