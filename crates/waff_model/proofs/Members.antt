-- What is in a list, by its first element and the rest.
use Rattle.std.proofs.Common.{◌≡◌, ◌⊎◌, inl, inr, zero, suc, List, [], ◌∷◌, Contains, arith, refl}

module _ {X : Type 0} where
  pub in_none : (x : X) → Contains [] x → ⊥
  in_none x h = let within = h.1 in omega (arith, within)

  pub in_first : (x : X) (xs : List X) → Contains (x ∷ xs) x
  in_first x xs = (0, omega arith, refl)

  pub in_rest : (x : X) (xs : List X) (y : X) → Contains xs y → Contains (x ∷ xs) y
  in_rest x xs y (k, within, is) = (suc k, omega (arith, within), is)

  pub in_cases : (x : X) (xs : List X) (y : X) → Contains (x ∷ xs) y → (x ≡ y) ⊎ Contains xs y
  in_cases x xs y (zero, within, is) = inl is
  in_cases x xs y (suc k, within, is) = inr (k, omega (arith, within), is)
