-- The latest of some values.
use Rattle.std.proofs.Common.{◌≡◌, ℕ, zero, suc, ◌+◌, ◌<◌, List, [], ◌∷◌, ◌++◌, length, map, get_or, set, take, arith, refl, sym, ap, ap₂, ◌∙◌}
use Rattle.std.proofs.lemmas.List.{take_more}
use Rattle.waff_model.specs.Later.{Join, IsMonoid, latest_of, value_at}

module _ {T : Type 0} (join : Join T) (laws : IsMonoid join) where
  pub later_none : (x : T) → join.later x join.none ≡ x
  later_none x = laws.commutes x join.none ∙ laws.unit x

  -- what comes between may come last
  pub later_between : (x y z : T) → join.later (join.later x z) y ≡ join.later (join.later x y) z
  later_between x y z = sym (laws.associates x z y) ∙ ap (λ v. join.later x v) (laws.commutes z y) ∙ laws.associates x y z

  pub latest-append : (xs ys : List T) → latest_of join (xs ++ ys) ≡ join.later (latest_of join xs) (latest_of join ys)
  latest-append [] ys = sym (laws.unit (latest_of join ys))
  latest-append (x ∷ xs) ys = ap (join.later x) (latest-append xs ys) ∙ laws.associates x (latest_of join xs) (latest_of join ys)

  -- one value more
  pub latest-take_more : (xs : List T) (i : ℕ) (x : T) → i < length xs → x ≡ get_or xs i x
      → join.later (latest_of join (take i xs)) x ≡ latest_of join (take (i + 1) xs)
  latest-take_more xs i x within read =
      let more : take (i + 1) xs ≡ take i xs ++ (x ∷ []) = take_more xs i x within ∙ ap (λ y. take i xs ++ (y ∷ [])) (sym read) in
      sym (ap (latest_of join) more ∙ latest-append (take i xs) (x ∷ []) ∙ ap (join.later (latest_of join (take i xs))) (later_none x))

  -- a later value at one place
  pub latest-set : (values : List T) (i : ℕ) (x : T) → i < length values
      → latest_of join (set values i (join.later (value_at join values i) x)) ≡ join.later (latest_of join values) x
  latest-set [] i x within = absurd (omega arith)
  latest-set (v ∷ values) zero x within = later_between v (latest_of join values) x
  latest-set (v ∷ values) (suc i) x within =
      ap (join.later v) (latest-set values i x (omega arith)) ∙ laws.associates v (latest_of join values) x

  -- a value that counts at all places
  pub whole_none : (values : List T) → map (λ x. join.later x join.none) values ≡ values
  whole_none [] = refl
  whole_none (x ∷ xs) = ap₂ (λ y ys. y ∷ ys) (later_none x) (whole_none xs)

  pub whole_more : (whole x : T) (values : List T)
      → map (λ v. join.later v (join.later whole x)) values ≡ map (λ v. join.later v x) (map (λ v. join.later v whole) values)
  whole_more whole x [] = refl
  whole_more whole x (v ∷ vs) = ap₂ (λ y ys. y ∷ ys) (laws.associates v whole x) (whole_more whole x vs)
