-- The messages that are left of the first ones, message by message.
use Rattle.std.proofs.Common.{◌≡◌, ◌≢◌, ℕ, ◌+◌, ◌-◌, ◌<◌, ◌≤◌, inl, inr, List, [], ◌∷◌, ◌++◌, length, get_or, Contains, arith, sym, ◌∙◌, subst}
use Rattle.std.proofs.lemmas.Bool.{cases_eq, cases_lt}
use Rattle.std.proofs.lemmas.List.{get_or_append_left, get_or_push, length_push}
use Rattle.std.proofs.lemmas.List.Elements.{Contains-append_left, Contains-get_or, Contains-push, Contains-push_cases}
use Rattle.waff_model.specs.Numbers.{IsAmongFirst}
use Rattle.waff_line.specs.declared.turn.Turn.{Turn}
use Rattle.waff_record.specs.Left.{AreLeft, AreLeftOf, IsLeft}

module _ (turns : List Turn) (tick : ℕ) where
  pub left_none : AreLeftOf turns tick 0 []
  left_none = record {
    each = λ n. (λ has. absurd (omega (arith, has.1)), λ both. absurd (omega (arith, both.0.number.from, both.1)));
    rising = λ p q less within. absurd (omega (arith, within));
  }

  pub left_same : (at : ℕ) (kept : List ℕ) → (IsLeft turns tick (at + 1) → ⊥) → AreLeftOf turns tick at kept → AreLeftOf turns tick (at + 1) kept
  left_same at kept never old = record {
    each = λ m. (
      λ has. let known = (old.each m).0 has in (known.0, omega (arith, known.1)),
      λ both.
          let other : m ≢ at + 1 = λ same. never (subst (IsLeft turns tick) same both.0) in
          (old.each m).1 (both.0, omega (arith, both.1, other)),
    );
    rising = old.rising;
  }

  pub left_more : (at n : ℕ) (kept : List ℕ) → n ≡ at + 1 → IsLeft turns tick n → AreLeftOf turns tick at kept → AreLeftOf turns tick (at + 1) (kept ++ n ∷ [])
  left_more at n kept is here old = record {
    each = λ m. (
      λ has. elim (Contains-push_cases kept n m has) [
        | inl before ↦ let known = (old.each m).0 before in (known.0, omega (arith, known.1))
        | inr same ↦ (subst (IsLeft turns tick) same here, omega (arith, same, is))
      ],
      λ both. elim (cases_eq m n) [
        | inl same ↦ subst (λ x. Contains (kept ++ n ∷ []) x) (sym same) (Contains-push kept n)
        | inr other ↦ Contains-append_left kept (n ∷ []) m ((old.each m).1 (both.0, omega (arith, both.1, other, is)))
      ],
    );
    rising = λ p q less within.
        let long = length_push kept n in
        let first : p < length kept = omega (arith, less, within, long) in
        let one : get_or (kept ++ n ∷ []) p 0 ≡ get_or kept p 0 = get_or_append_left kept (n ∷ []) 0 p first in
        elim (cases_lt q (length kept)) [
          | inl inside ↦
              let two : get_or (kept ++ n ∷ []) q 0 ≡ get_or kept q 0 = get_or_append_left kept (n ∷ []) 0 q inside in
              omega (arith, one, two, old.rising p q less inside)
          | inr behind ↦
              let last : get_or (kept ++ n ∷ []) q 0 ≡ n = get_or_push kept n 0 q (omega (arith, behind, within, long)) in
              let known = ((old.each (get_or kept p 0)).0 (Contains-get_or kept p 0 first)).1 in
              omega (arith, one, last, known, is)
        ];
  }

  pub left_all : (at : ℕ) (kept : List ℕ) → length turns ≤ at → AreLeftOf turns tick at kept → AreLeft turns tick kept
  left_all at kept past old = record {
    each = λ n. (
      λ has. let known = (old.each n).0 has in (known.0, known.0.number.to),
      λ both. (old.each n).1 (both.0, omega (arith, both.1, past)),
    );
    rising = old.rising;
  }
