-- The first number that something holds of.
use Rattle.std.proofs.Common.{◌≡◌, ℕ, false, true, ◌+◌, ◌<◌, ◌≤◌, arith, inl, inr, subst}
use Rattle.std.proofs.lemmas.Bool.{cases_lt}
use Rattle.waff_check.specs.Faults.{IsLeastOf, NoneOf}

-- P holds of no number below n
abbrev pub NoneBelow : (ℕ → Type 0) → ℕ → Type 0
NoneBelow P n = (m : ℕ) → m < n → P m → ⊥

-- the first is the least
pub least-first : (P : ℕ → Type 0) (n : ℕ) → NoneBelow P n → P n → IsLeastOf P n
least-first P n below h = record { holds = h; least = λ m k. elim (cases_lt m n) [ inl lt ↦ absurd (below m lt k) | inr le ↦ le ] }

-- one more number that it does not hold of
pub below-more : (P : ℕ → Type 0) (n : ℕ) → NoneBelow P n → (P n → ⊥) → NoneBelow P (n + 1)
below-more P n below here m lt h = elim (cases_lt m n) [
  | inl less ↦ below m less h
  | inr more ↦ (let e : m ≡ n = omega arith in here (subst P e h))
]

-- none below the end, and none from there on
pub none-of : (P : ℕ → Type 0) (n : ℕ) → NoneBelow P n → ((m : ℕ) → n ≤ m → P m → ⊥) → NoneOf P
none-of P n below above m h = elim (cases_lt m n) [ inl lt ↦ below m lt h | inr le ↦ above m le h ]

-- what would make a test true that is false does not hold
pub refuted : {A : Type 0} → (A → false ≡ true) → A → ⊥
refuted f h = cc (f h)
