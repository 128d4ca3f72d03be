-- Comparisons of numbers, and of pairs by their first parts.
use Rattle.std.proofs.Common.{◌≡◌, ℕ, ◌<◌, ◌≤◌, ◌⊎◌, inl, inr, subst, false, cond, nat_lt, nat_eq, ap, sym, ◌∙◌}
use Rattle.std.specs.Ordering.{nat_cmp, is_lt, ordering_then}
use Rattle.std.specs.Cmp.{nat_cmp_is}
use Rattle.std.specs.declared.cmp.Ordering.TheVariants.{Less, Equal, Greater}
use Rattle.std.proofs.lemmas.Bool.{cases_lt, cases_order, lt-ltb, cond-true, false≢true}

less_is : (x y : ℕ) → x < y → nat_cmp x y ≡ Less
less_is x y less = cond-true (nat_lt x y) Less (cond (nat_eq x y) Equal Greater) (lt-ltb x y less)

-- what is not less is greater or equal
pub not_less : (x y : ℕ) → is_lt (nat_cmp x y) ≡ false → y ≤ x
not_less x y h = elim (cases_lt x y) [
  | inl less ↦ absurd (false≢true (sym h ∙ ap is_lt (less_is x y less)))
  | inr late ↦ late
]

-- what is no less, by the first parts and then the other way round by the second
pub not_less_then : (a b m x : ℕ) → is_lt (ordering_then (nat_cmp a b) (nat_cmp x m)) ≡ false → (b < a) ⊎ ((a ≡ b) × (m ≤ x))
not_less_then a b m x h = elim (cases_order a b) [
  | inl same ↦ inr (same, not_less x m (subst (λ o. is_lt (ordering_then o (nat_cmp x m)) ≡ false) (sym (nat_cmp_is a b Equal same)) h))
  | inr (inl less) ↦ absurd (false≢true (sym h ∙ ap (λ o. is_lt (ordering_then o (nat_cmp x m))) (less_is a b less)))
  | inr (inr more) ↦ inl more
]

-- what is no less by priority, and then the other way round by issue and by number
pub not_less_ranked : (r s : ℕ × (ℕ × ℕ)) → is_lt (ordering_then (nat_cmp r.0 s.0) (ordering_then (nat_cmp s.1.0 r.1.0) (nat_cmp s.1.1 r.1.1))) ≡ false
    → (s.0 < r.0) ⊎ ((r.0 ≡ s.0) × ((r.1.0 < s.1.0) ⊎ ((r.1.0 ≡ s.1.0) × (r.1.1 ≤ s.1.1))))
not_less_ranked r s h = elim (cases_order r.0 s.0) [
  | inl same ↦
      let rest : is_lt (ordering_then (nat_cmp s.1.0 r.1.0) (nat_cmp s.1.1 r.1.1)) ≡ false
      = subst (λ o. is_lt (ordering_then o (ordering_then (nat_cmp s.1.0 r.1.0) (nat_cmp s.1.1 r.1.1))) ≡ false) (sym (nat_cmp_is r.0 s.0 Equal same)) h in
      inr (
        same,
        elim (not_less_then s.1.0 r.1.0 r.1.1 s.1.1 rest) [
          | inl sooner ↦ inl sooner
          | inr level ↦ inr (sym level.0, level.1)
        ],
      )
  | inr (inl less) ↦
      absurd (false≢true (sym h ∙ ap (λ o. is_lt (ordering_then o (ordering_then (nat_cmp s.1.0 r.1.0) (nat_cmp s.1.1 r.1.1)))) (less_is r.0 s.0 less)))
  | inr (inr more) ↦ inl more
]
