-- Lists of any elements: what is counted in them, what a filter keeps, and when two are equal.
use Rattle.std.proofs.Common.{◌≡◌, ◌≢◌, ℕ, zero, suc, ◌<◌, ◌⊎◌, inl, inr, cond, Bool, true, false, List, [], ◌∷◌, ◌++◌, ◌||◌, length, get_or, set, map, filter, count_by, All, Contains, arith, refl, sym, ◌∙◌, ap, subst, length-set, get_or-set_other, get_or-set_same}
use Rattle.std.specs.Cmp.{IsEquivalence}
use Rattle.std.specs.List.{AllPairs, list_any}
use Rattle.std.specs.Str.{bytes_eq}
use Rattle.std.proofs.lemmas.Bool.{cases_Bool, cases_eq}
use Rattle.std.proofs.lemmas.List.{get_or_append_left, get_or-map, get_or_push, length-map, length_push, same_lists}
use Rattle.std.proofs.lemmas.List.Folds.{list_any_at}
use Rattle.std.proofs.lemmas.List.Sums.{sum_by-cons}
use Rattle.std.proofs.lemmas.Slice.Eq.{bytes_eq-Decides}

-- counts
abbrev pub one_if : Bool → ℕ
one_if b = cond b 1 0

pub none_counted : {X : Type 0} (p : X → Bool) (xs : List X) → All (λ x. p x ≡ false) xs → count_by p xs ≡ 0
none_counted p [] none = refl
none_counted p (x ∷ xs) none =
    let first : one_if (p x) ≡ 0 = ap one_if (none 0 x (omega arith)) in
    let rest : count_by p xs ≡ 0 = none_counted p xs (λ k d low. none (suc k) d (omega (arith, low))) in
    omega (arith, first, rest, sum_by-cons (λ y. one_if (p y)) x xs)

pub same_counts : {X : Type 0} (p q : X → Bool) (xs : List X) → ((k : ℕ) (d : X) → k < length xs → p (get_or xs k d) ≡ q (get_or xs k d)) → count_by p xs ≡ count_by q xs
same_counts p q [] same = refl
same_counts p q (x ∷ xs) same =
    let first : one_if (p x) ≡ one_if (q x) = ap one_if (same 0 x (omega arith)) in
    let rest : count_by p xs ≡ count_by q xs = same_counts p q xs (λ k d low. same (suc k) d (omega (arith, low))) in
    omega (arith, first, rest, sum_by-cons (λ y. one_if (p y)) x xs, sum_by-cons (λ y. one_if (q y)) x xs)

-- filters
pub none_filtered : {X : Type 0} (p : X → Bool) (xs : List X) → All (λ x. p x ≡ false) xs → filter p xs ≡ []
none_filtered p [] none = refl
none_filtered p (x ∷ xs) none =
    ap (λ b. cond b (x ∷ filter p xs) (filter p xs)) (none 0 x (omega arith))
    ∙ none_filtered p xs (λ k d low. none (suc k) d (omega (arith, low)))

pub filter_same : {X : Type 0} (p q : X → Bool) (xs : List X) → ((k : ℕ) (d : X) → k < length xs → p (get_or xs k d) ≡ q (get_or xs k d)) → filter p xs ≡ filter q xs
filter_same p q [] same = refl
filter_same p q (x ∷ xs) same =
    let rest = filter_same p q xs (λ k d low. same (suc k) d (omega (arith, low))) in
    ap (λ b. cond b (x ∷ filter p xs) (filter p xs)) (same 0 x (omega arith)) ∙ ap (λ l. cond (q x) (x ∷ l) l) rest

-- what passes no test among some elements
pub none_pass : {X : Type 0} (p : X → Bool) (xs : List X) → list_any p xs ≡ false → All (λ x. p x ≡ false) xs
none_pass p xs none k d low = elim (cases_Bool (p (get_or xs k d))) [
  | inr fails ↦ fails
  | inl passes ↦ absurd (let found = list_any_at p xs k d low passes in cc)
]

pub any_same : {X : Type 0} (p q : X → Bool) (xs : List X) → ((k : ℕ) (d : X) → k < length xs → p (get_or xs k d) ≡ q (get_or xs k d)) → list_any p xs ≡ list_any q xs
any_same p q [] same = refl
any_same p q (x ∷ xs) same =
    ap (λ b. b || list_any p xs) (same 0 x (omega arith)) ∙ ap (λ b. q x || b) (any_same p q xs (λ k d low. same (suc k) d (omega (arith, low))))

pub any_map : {X Y : Type 0} (p : Y → Bool) (f : X → Y) (xs : List X) → list_any p (map f xs) ≡ list_any (λ x. p (f x)) xs
any_map p f [] = refl
any_map p f (x ∷ xs) = ap (λ b. p (f x) || b) (any_map p f xs)

-- what holds of all of a list and of one more
pub front_all : {X : Type 0} (P : X → Type 0) (xs : List X) (x : X) → All P (xs ++ x ∷ []) → All P xs
front_all P xs x all k d low =
    subst P (get_or_append_left xs (x ∷ []) d k low) (all k d (let long = length_push xs x in omega (arith, low, long)))

pub last_all : {X : Type 0} (P : X → Type 0) (xs : List X) (x : X) → All P (xs ++ x ∷ []) → P x
last_all P xs x all =
    subst P (get_or_push xs x x (length xs) refl) (all (length xs) x (let long = length_push xs x in omega (arith, long)))

pub front_pairs : {X : Type 0} (R : X → X → Type 0) (xs : List X) (x : X) → AllPairs R (xs ++ x ∷ []) → AllPairs R xs
front_pairs R xs x pairs i j d less low =
    let long = length_push xs x in
    subst (λ v. R v (get_or xs j d)) (get_or_append_left xs (x ∷ []) d i (omega (arith, less, low)))
    (subst (R (get_or (xs ++ x ∷ []) i d)) (get_or_append_left xs (x ∷ []) d j low) (pairs i j d less (omega (arith, low, long))))

pub last_pairs : {X : Type 0} (R : X → X → Type 0) (xs : List X) (x : X) → AllPairs R (xs ++ x ∷ []) → All (λ v. R v x) xs
last_pairs R xs x pairs k d low =
    let long = length_push xs x in
    subst (λ v. R v x) (get_or_append_left xs (x ∷ []) d k low)
    (subst (R (get_or (xs ++ x ∷ []) k d)) (get_or_push xs x d (length xs) refl) (pairs k (length xs) d low (omega (arith, long))))

pub map_same : {X Y : Type 0} (f g : X → Y) (xs : List X) → ((k : ℕ) (d : X) → k < length xs → f (get_or xs k d) ≡ g (get_or xs k d)) → map f xs ≡ map g xs
map_same f g [] same = refl
map_same f g (x ∷ xs) same =
    ap (λ y. y ∷ map f xs) (same 0 x (omega arith)) ∙ ap (λ ys. g x ∷ ys) (map_same f g xs (λ k d low. same (suc k) d (omega (arith, low))))

-- all of the elements told in one way, and one of them in another
pub map_set_one : {X Y : Type 0} (f g : X → Y) (xs : List X) (at : ℕ) (y : Y) (d : X) → at < length xs → g (get_or xs at d) ≡ y
    → ((k : ℕ) → k < length xs → k ≢ at → f (get_or xs k d) ≡ g (get_or xs k d)) → map g xs ≡ set (map f xs) at y
map_set_one f g xs at y d inside here others =
    let old = length-map xs f in
    let new = length-map xs g in
    let long : length (map g xs) ≡ length (set (map f xs) at y) = new ∙ sym (length-set (map f xs) at y ∙ old) in
    same_lists (map g xs) (set (map f xs) at y) long (λ k e low.
    let within : k < length xs = omega (arith, low, new) in
    let there : at < length (map f xs) = omega (arith, inside, old) in
    elim (cases_eq k at) [
      | inl same ↦
          get_or-map g xs k d e within ∙ ap (λ i. g (get_or xs i d)) same ∙ here
          ∙ sym (ap (λ i. get_or (set (map f xs) at y) i e) same ∙ get_or-set_same (map f xs) at y e there)
      | inr other ↦
          get_or-map g xs k d e within ∙ sym (others k within other) ∙ sym (get_or-map f xs k d e within)
          ∙ sym (get_or-set_other (map f xs) at k y e other)
    ])

-- two lists in one order with the same elements are equal
module _ {X : Type 0} (R : X → X → Type 0) (one_way : (x y : X) → R x y → R y x → ⊥) where
  behind : (x : X) (xs : List X) → AllPairs R (x ∷ xs) → (y : X) → Contains xs y → R x y
  behind x xs order y (k, inside, is) = subst (R x) is (order 0 (suc k) y (omega arith) (omega (arith, inside)))

  tail_order : (x : X) (xs : List X) → AllPairs R (x ∷ xs) → AllPairs R xs
  tail_order x xs order = λ i j d less low. order (suc i) (suc j) d (omega (arith, less)) (omega (arith, low))

  -- what is in a list is its first element or behind it
  first_or_behind : (P : Type 0) (x y : X) (xs : List X) → Contains (x ∷ xs) y → (x ≡ y → P) → (Contains xs y → P) → P
  first_or_behind P x y xs (zero, inside, is) first rest = first is
  first_or_behind P x y xs (suc k, inside, is) first rest = rest (k, omega (arith, inside), is)

  pub same_order : (xs ys : List X) → AllPairs R xs → AllPairs R ys → ((x : X) → Contains xs x → Contains ys x) → ((y : X) → Contains ys y → Contains xs y) → xs ≡ ys
  same_order [] [] order other into back = refl
  same_order [] (y ∷ ys) order other into back = let (k, inside, is) = back y (0, omega arith, refl) in absurd (omega (arith, inside))
  same_order (x ∷ xs) [] order other into back = let (k, inside, is) = into x (0, omega arith, refl) in absurd (omega (arith, inside))
  same_order (x ∷ xs) (y ∷ ys) order other into back =
      let same : x ≡ y =
      first_or_behind (x ≡ y) y x ys (into x (0, omega arith, refl)) (λ e. sym e)
      (λ x_behind. first_or_behind (x ≡ y) x y xs (back y (0, omega arith, refl)) (λ e. e)
      (λ y_behind. absurd (one_way x y (behind x xs order y y_behind) (behind y ys other x x_behind)))) in
      let rest = same_order xs ys (tail_order x xs order) (tail_order y ys other)
      (λ z there. first_or_behind (Contains ys z) y z ys (into z (suc there.0, omega (arith, there.1), there.2))
      (λ e. let after : R x x = subst (R x) (sym (same ∙ e)) (behind x xs order z there) in absurd (one_way x x after after)) (λ in_ys. in_ys))
      (λ z there. first_or_behind (Contains xs z) x z xs (back z (suc there.0, omega (arith, there.1), there.2))
      (λ e. let after : R y y = subst (R y) (sym (sym same ∙ e)) (behind y ys other z there) in absurd (one_way y y after after)) (λ in_xs. in_xs)) in
      ap (λ v. v ∷ xs) same ∙ ap (λ vs. y ∷ vs) rest

  -- an element is the first of a list that has it or has it behind all, or the first comes before it
  first_or_after : (x y : X) (ys : List X) → AllPairs R (y ∷ ys) → Contains (y ∷ ys) x ⊎ All (λ v. R v x) (y ∷ ys) → (x ≡ y) ⊎ R y x
  first_or_after x y ys order (inl has) = first_or_behind ((x ≡ y) ⊎ R y x) y x ys has (λ e. inl (sym e)) (λ there. inr (behind y ys order x there))
  first_or_after x y ys order (inr all) = inr (all 0 y (omega arith))

  -- what is behind the first of such a list
  left_behind : (P : X → Type 0) (x z : X) (xs : List X) → x ≡ z → ((m : X) → P m → Contains (x ∷ xs) m ⊎ All (λ v. R v m) (x ∷ xs))
      → (m : X) → P m × (m ≢ z) → Contains xs m ⊎ All (λ v. R v m) xs
  left_behind P x z xs same left m is = elim (left m is.0) [
    | inl has ↦ first_or_behind (Contains xs m ⊎ All (λ v. R v m) xs) x m xs has (λ e. absurd (is.1 (sym (sym same ∙ e)))) (λ there. inl there)
    | inr all ↦ inr (λ k d low. all (suc k) d (omega (arith, low)))
  ]

  others_among : (P : X → Type 0) (x z : X) (xs : List X) → x ≡ z → AllPairs R (x ∷ xs) → All P (x ∷ xs) → All (λ m. P m × (m ≢ z)) xs
  others_among P x z xs same order all k d low = (
    all (suc k) d (omega (arith, low)),
    λ e.
        let after : R x x = subst (R x) (e ∙ sym same) (order 0 (suc k) d (omega arith) (omega (arith, low))) in
        one_way x x after after,
  )

  -- two lists in one order are equal where as many elements are in each, and what is in neither comes after them
  pub same_firsts : (P : X → Type 0) (xs ys : List X) → length xs ≡ length ys → AllPairs R xs → AllPairs R ys → All P xs → All P ys
      → ((m : X) → P m → Contains xs m ⊎ All (λ v. R v m) xs) → ((m : X) → P m → Contains ys m ⊎ All (λ v. R v m) ys) → xs ≡ ys
  same_firsts P [] [] long order other all also left right = refl
  same_firsts P [] (y ∷ ys) long order other all also left right = absurd (omega (arith, long))
  same_firsts P (x ∷ xs) [] long order other all also left right = absurd (omega (arith, long))
  same_firsts P (x ∷ xs) (y ∷ ys) long order other all also left right =
      let one = first_or_after x y ys other (right x (all 0 x (omega arith))) in
      let another = first_or_after y x xs order (left y (also 0 y (omega arith))) in
      let same : x ≡ y = elim one [
        | inl e ↦ e
        | inr before ↦ elim another [
          | inl e ↦ sym e
          | inr after ↦ absurd (one_way x y after before)
        ]
      ] in
      let rest = same_firsts (λ m. P m × (m ≢ x)) xs ys (omega (arith, long)) (tail_order x xs order) (tail_order y ys other)
      (others_among P x x xs refl order all) (others_among P y x ys (sym same) other also)
      (left_behind P x x xs refl left) (left_behind P y x ys (sym same) right) in
      ap (λ v. v ∷ xs) same ∙ ap (λ vs. y ∷ vs) rest

-- tests that pass alike are equal
both_pass : (a b : Bool) → (a ≡ true → b ≡ true) → (b ≡ true → a ≡ true) → a ≡ b
both_pass true b into back = sym (into refl)
both_pass false true into back = back refl
both_pass false false into back = refl

pub bytes_laws : IsEquivalence bytes_eq
bytes_laws = record {
  refl = λ x. (bytes_eq-Decides x x).1 refl;
  symm = λ x y. both_pass (bytes_eq x y) (bytes_eq y x) (λ pass. (bytes_eq-Decides y x).1 (sym ((bytes_eq-Decides x y).0 pass)))
      (λ pass. (bytes_eq-Decides x y).1 (sym ((bytes_eq-Decides y x).0 pass)));
  congr = λ x y z pass. ap (λ w. bytes_eq w z) ((bytes_eq-Decides x y).0 pass);
}
