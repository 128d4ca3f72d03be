-- Elements in groups: each is in one, the groups add up, and their firsts stand as they do in the list.
use Rattle.std.proofs.Common.{◌≡◌, ℕ, suc, ◌+◌, ◌<◌, inl, inr, cond, Bool, true, false, List, [], ◌∷◌, ◌++◌, ◌||◌, get_or, map, filter, fold, sum_by, count_by, All, append_assoc, arith, refl, sym, ◌∙◌, ap, subst}
use Rattle.std.specs.Cmp.{IsEquivalence}
use Rattle.std.specs.List.{AllPairs, list_any}
use Rattle.std.specs.List.Sorted.{IsStrictlyIncreasing}
use Rattle.std.proofs.lemmas.Bool.{cases_Bool, cond_both}
use Rattle.std.proofs.lemmas.List.{append-nil, map_push}
use Rattle.std.proofs.lemmas.List.Elements.{All-nil, All-push}
use Rattle.std.proofs.lemmas.List.Folds.{list_any-append, list_any_at}
use Rattle.std.proofs.lemmas.List.Kept.{AllPairs-from_increasing}
use Rattle.std.proofs.lemmas.List.Quantifiers.{all_pairs_push}
use Rattle.std.proofs.lemmas.List.Sums.{fold_push, sum_by-cons, sum_by_push}
use Rattle.std.proofs.lemmas.Map.Steps.{list_any_congr}
use Rattle.waff_figures.specs.Groups.{AreGrouped, firsts_by, with_first}
use Rattle.waff_figures.proofs.Lists.{any_map, any_same, front_all, front_pairs, last_all, last_pairs, none_pass, one_if, same_counts}
use Rattle.waff_figures.proofs.SumLemmas.{once_picked, sum_all_same, sum_both, sum_nothing}

kept : (b c : Bool) → (c ≡ true → b ≡ true) → (b || (c || false)) ≡ b
kept true c h = refl
kept false true h = sym (h refl)
kept false false h = refl

-- what holds of the firsts of no elements, and stays with an element that is like one of them, or like none, holds of those of each list
module _ {X : Type 0} (alike : X → X → Bool) (P : List X → List X → Type 0) (none : P [] [])
    (there : (xs firsts : List X) (x : X) → list_any (alike x) firsts ≡ true → P xs firsts → P (xs ++ x ∷ []) firsts)
    (new : (xs firsts : List X) (x : X) → list_any (alike x) firsts ≡ false → P xs firsts → P (xs ++ x ∷ []) (firsts ++ x ∷ [])) where
  from : (before firsts xs : List X) → P before firsts → P (before ++ xs) (fold (with_first alike) firsts xs)
  from before firsts [] holds = subst (λ l. P l firsts) (sym (append-nil before)) holds
  from before firsts (x ∷ xs) holds =
      let next : P (before ++ x ∷ []) (with_first alike firsts x)
      = cond_both (list_any (alike x) firsts) firsts (firsts ++ x ∷ []) (P (before ++ x ∷ []))
      (λ is. there before firsts x is holds) (λ is. new before firsts x is holds) in
      subst (λ l. P l (fold (with_first alike) (with_first alike firsts x) xs)) (append_assoc before (x ∷ []) xs)
      (from (before ++ x ∷ []) (with_first alike firsts x) xs next)

  pub of_firsts : (xs : List X) → P xs (firsts_by alike xs)
  of_firsts xs = from [] [] xs none

module _ {X : Type 0} (alike : X → X → Bool) where
  pub firsts_push : (xs : List X) (x : X) → firsts_by alike (xs ++ x ∷ []) ≡ with_first alike (firsts_by alike xs) x
  firsts_push xs x = fold_push (with_first alike) [] xs x

  -- firsts are elements
  pub firsts_all : (Q : X → Type 0) (xs : List X) → All Q xs → All Q (firsts_by alike xs)
  firsts_all Q = of_firsts alike (λ xs firsts. All Q xs → All Q firsts) (λ all. all)
      (λ xs firsts x is holds all. holds (front_all Q xs x all))
      (λ xs firsts x is holds all. All-push Q firsts x (holds (front_all Q xs x all)) (last_all Q xs x all))

  -- in the order of the elements
  module _ (R : X → X → Type 0) where
    record AreInOrder (xs firsts : List X) : Type 0 where
      pairs : AllPairs R xs → AllPairs R firsts
      before : (x : X) → All (λ v. R v x) xs → All (λ v. R v x) firsts

    in_order : (xs : List X) → AreInOrder xs (firsts_by alike xs)
    in_order = of_firsts alike AreInOrder (record { pairs = λ pairs. pairs; before = λ x all. all })
        (λ xs firsts x is holds. record {
          pairs = λ pairs. holds.pairs (front_pairs R xs x pairs);
          before = λ y all. holds.before y (front_all (λ v. R v y) xs x all);
        })
        (λ xs firsts x is holds. record {
          pairs = λ pairs. all_pairs_push R firsts x (holds.pairs (front_pairs R xs x pairs)) (holds.before x (last_pairs R xs x pairs));
          before = λ y all. All-push (λ v. R v y) firsts x (holds.before y (front_all (λ v. R v y) xs x all)) (last_all (λ v. R v y) xs x all);
        })

    pub firsts_in_order : (xs : List X) → AllPairs R xs → AllPairs R (firsts_by alike xs)
    firsts_in_order xs = (in_order xs).pairs

  -- of what is told of elements
  pub firsts_map : {Y : Type 0} (f : Y → X) (ys : List Y) → firsts_by alike (map f ys) ≡ map f (firsts_by (λ a b. alike (f a) (f b)) ys)
  firsts_map f = of_firsts (λ a b. alike (f a) (f b)) (λ ys firsts. firsts_by alike (map f ys) ≡ map f firsts) refl
      (λ ys firsts y is holds.
      ap (firsts_by alike) (map_push f ys y) ∙ firsts_push (map f ys) (f y) ∙ ap (λ ks. with_first alike ks (f y)) holds
      ∙ ap (λ b. cond b (map f firsts) (map f firsts ++ f y ∷ [])) (any_map (alike (f y)) f firsts ∙ is))
      (λ ys firsts y is holds.
      ap (firsts_by alike) (map_push f ys y) ∙ firsts_push (map f ys) (f y) ∙ ap (λ ks. with_first alike ks (f y)) holds
      ∙ ap (λ b. cond b (map f firsts) (map f firsts ++ f y ∷ [])) (any_map (alike (f y)) f firsts ∙ is) ∙ sym (map_push f firsts y))

  -- by tests that agree on the elements
  pub firsts_same : (other : X → X → Bool) (Q : X → Type 0) → ((x y : X) → Q x → Q y → alike x y ≡ other x y) → (xs : List X) → All Q xs
      → firsts_by alike xs ≡ firsts_by other xs
  firsts_same other Q agree xs all = sym (of_firsts alike (λ xs firsts. All Q xs → (firsts_by other xs ≡ firsts) × All Q firsts) (λ none. (refl, none))
      (λ xs firsts x is holds all.
      let (same, known) = holds (front_all Q xs x all) in
      let test = any_same (alike x) (other x) firsts (λ k d low. agree x (get_or firsts k d) (last_all Q xs x all) (known k d low)) in
      (fold_push (with_first other) [] xs x ∙ ap (λ ks. with_first other ks x) same ∙ ap (λ b. cond b firsts (firsts ++ x ∷ [])) (sym test ∙ is), known))
      (λ xs firsts x is holds all.
      let (same, known) = holds (front_all Q xs x all) in
      let test = any_same (alike x) (other x) firsts (λ k d low. agree x (get_or firsts k d) (last_all Q xs x all) (known k d low)) in (
        fold_push (with_first other) [] xs x ∙ ap (λ ks. with_first other ks x) same ∙ ap (λ b. cond b firsts (firsts ++ x ∷ [])) (sym test ∙ is),
        All-push Q firsts x known (last_all Q xs x all),
      ))
      xs all).0

  module _ (laws : IsEquivalence alike) where
    -- no two firsts are alike
    pub firsts_apart : (xs : List X) → AllPairs (λ a b. alike a b ≡ false) (firsts_by alike xs)
    firsts_apart = of_firsts alike (λ xs firsts. AllPairs (λ a b. alike a b ≡ false) firsts) (λ i j d less low. absurd (omega (arith, low)))
        (λ xs firsts x is apart. apart)
        (λ xs firsts x is apart. all_pairs_push (λ a b. alike a b ≡ false) firsts x apart
        (λ k d low. laws.symm (get_or firsts k d) x ∙ none_pass (alike x) firsts is k d low))

    -- an element is like one of the firsts where it is like any element
    pub any_first : (xs : List X) (y : X) → list_any (alike y) (firsts_by alike xs) ≡ list_any (alike y) xs
    any_first = of_firsts alike (λ xs firsts. (y : X) → list_any (alike y) firsts ≡ list_any (alike y) xs) (λ y. refl)
        (λ xs firsts x is holds y.
        holds y
        ∙ sym (kept (list_any (alike y) xs) (alike y x) (λ same. sym (holds y) ∙ list_any_congr laws y x firsts same ∙ is))
        ∙ sym (list_any-append (alike y) xs (x ∷ [])))
        (λ xs firsts x is holds y.
        list_any-append (alike y) firsts (x ∷ []) ∙ ap (λ b. b || (alike y x || false)) (holds y) ∙ sym (list_any-append (alike y) xs (x ∷ [])))

    -- it is like one of them alone
    first_once : (xs : List X) (y : X) → count_by (alike y) (firsts_by alike xs) ≡ one_if (list_any (alike y) (firsts_by alike xs))
    first_once = of_firsts alike (λ xs firsts. (y : X) → count_by (alike y) firsts ≡ one_if (list_any (alike y) firsts)) (λ y. refl)
        (λ xs firsts x is holds y. holds y)
        (λ xs firsts x is holds y.
        let more = sum_by_push (λ k. one_if (alike y k)) firsts x in
        let any = list_any-append (alike y) firsts (x ∷ []) in
        elim (cases_Bool (alike y x)) [
          | inl same ↦
              let none : list_any (alike y) firsts ≡ false = list_any_congr laws y x firsts same ∙ is in
              let old : count_by (alike y) firsts ≡ 0 = holds y ∙ ap one_if none in
              let one : one_if (alike y x) ≡ 1 = ap one_if same in
              let now : list_any (alike y) (firsts ++ x ∷ []) ≡ true = any ∙ ap (λ b. b || (alike y x || false)) none ∙ ap (λ b. b || false) same in
              omega (arith, more, old, one, ap one_if now)
          | inr differ ↦
              let none : one_if (alike y x) ≡ 0 = ap one_if differ in
              let now : list_any (alike y) (firsts ++ x ∷ []) ≡ list_any (alike y) firsts
              = any ∙ kept (list_any (alike y) firsts) (alike y x) (λ same. absurd (let same = same in cc)) in
              omega (arith, more, none, holds y, ap one_if now)
        ])

    pub once_if_there : (xs : List X) (y : X) → count_by (alike y) (firsts_by alike xs) ≡ one_if (list_any (alike y) xs)
    once_if_there xs y = first_once xs y ∙ ap one_if (any_first xs y)

    pub each_once : (xs : List X) → All (λ x. count_by (λ first. alike first x) (firsts_by alike xs) ≡ 1) xs
    each_once xs k d low =
        let x = get_or xs k d in
        same_counts (λ first. alike first x) (alike x) (firsts_by alike xs) (λ i e inside. laws.symm (get_or (firsts_by alike xs) i e) x)
        ∙ once_if_there xs x ∙ ap one_if (list_any_at (alike x) xs k d low (laws.refl x))

    -- no element before a first one is like it
    module _ (R : X → X → Type 0) (one_way : (x y : X) → R x y → R y x → ⊥) where
      abbrev IsLikeNone : List X → X → Type 0
      IsLikeNone xs first = All (λ x. R x first → alike first x ≡ false) xs

      abbrev AreLikeNone : List X → List X → Type 0
      AreLikeNone xs firsts = (firsts ≡ firsts_by alike xs) × (AllPairs R xs → All (IsLikeNone xs) firsts)

      -- with an element behind the others
      none_more : (xs firsts : List X) (x : X) → firsts ≡ firsts_by alike xs → AllPairs R (xs ++ x ∷ []) → All (IsLikeNone xs) firsts
          → All (IsLikeNone (xs ++ x ∷ [])) firsts
      none_more xs firsts x are pairs all k d low =
          let first = get_or firsts k d in
          let before : R first x = subst (All (λ v. R v x)) (sym are) ((in_order R xs).before x (last_pairs R xs x pairs)) k d low in
          All-push (λ y. R y first → alike first y ≡ false) xs x (all k d low) (λ after. absurd (one_way first x before after))

      like_none : (xs : List X) → AreLikeNone xs (firsts_by alike xs)
      like_none = of_firsts alike AreLikeNone (refl, λ pairs. All-nil (IsLikeNone []))
          (λ xs firsts x is (are, holds). (
            sym (firsts_push xs x ∙ ap (λ ks. with_first alike ks x) (sym are) ∙ ap (λ b. cond b firsts (firsts ++ x ∷ [])) is),
            λ pairs. none_more xs firsts x are pairs (holds (front_pairs R xs x pairs)),
          ))
          (λ xs firsts x is (are, holds). (
            sym (firsts_push xs x ∙ ap (λ ks. with_first alike ks x) (sym are) ∙ ap (λ b. cond b firsts (firsts ++ x ∷ [])) is),
            λ pairs.
                let none = none_pass (alike x) xs (sym (any_first xs x) ∙ ap (list_any (alike x)) (sym are) ∙ is) in
                All-push (IsLikeNone (xs ++ x ∷ [])) firsts x (none_more xs firsts x are pairs (holds (front_pairs R xs x pairs)))
                (All-push (λ y. R y x → alike x y ≡ false) xs x (λ k d low after. none k d low) (λ after. absurd (one_way x x after after))),
          ))

      none_before : (xs : List X) → AllPairs R xs → All (IsLikeNone xs) (firsts_by alike xs)
      none_before xs = (like_none xs).1

-- a sum over what a filter keeps
pub filtered_sum : {X : Type 0} (p : X → Bool) (f : X → ℕ) (xs : List X) → sum_by f (filter p xs) ≡ sum_by (λ x. cond (p x) (f x) 0) xs
filtered_sum p f [] = refl
filtered_sum p f (x ∷ xs) =
    let rest = filtered_sum p f xs in
    let cons = sum_by-cons (λ y. cond (p y) (f y) 0) x xs in
    cond_both (p x) (x ∷ filter p xs) (filter p xs) (λ l. sum_by f l ≡ sum_by (λ y. cond (p y) (f y) 0) (x ∷ xs))
    (λ pass. let this : cond (p x) (f x) 0 ≡ f x = ap (λ b. cond b (f x) 0) pass in omega (arith, this, rest, cons, sum_by-cons f x (filter p xs)))
    (λ fails. let this : cond (p x) (f x) 0 ≡ 0 = ap (λ b. cond b (f x) 0) fails in omega (arith, this, rest, cons))

-- where each element is in one part, the parts add up to all
pub parts_add_up : {X Y : Type 0} (p : Y → X → Bool) (f : X → ℕ) (parts : List Y) (xs : List X) → All (λ x. count_by (λ y. p y x) parts ≡ 1) xs
    → sum_by (λ y. sum_by (λ x. cond (p y x) (f x) 0) xs) parts ≡ sum_by f xs
parts_add_up p f parts [] once = sum_nothing (λ y. sum_by (λ x. cond (p y x) (f x) 0) []) (λ y. refl) parts
parts_add_up p f parts (x ∷ xs) once =
    let split = sum_all_same (λ y. sum_by (λ z. cond (p y z) (f z) 0) (x ∷ xs)) (λ y. cond (p y x) (f x) 0 + sum_by (λ z. cond (p y z) (f z) 0) xs) parts
    (λ k d low. sum_by-cons (λ z. cond (p (get_or parts k d) z) (f z) 0) x xs) in
    let both = sum_both (λ y. cond (p y x) (f x) 0) (λ y. sum_by (λ z. cond (p y z) (f z) 0) xs) parts in
    let this = once_picked (λ y. p y x) (f x) parts (once 0 x (omega arith)) in
    let rest = parts_add_up p f parts xs (λ k d low. once (suc k) d (omega (arith, low))) in
    omega (arith, split, both, this, rest, sum_by-cons f x xs)

-- a sum of what is told of elements
pub sum_map : {X Y : Type 0} (g : Y → ℕ) (f : X → Y) (xs : List X) → sum_by g (map f xs) ≡ sum_by (λ x. g (f x)) xs
sum_map g f [] = refl
sum_map g f (x ∷ xs) = omega (arith, sum_map g f xs, sum_by-cons g (f x) (map f xs), sum_by-cons (λ y. g (f y)) x xs)

pub firsts_add_up : {X : Type 0} (alike : X → X → Bool) → IsEquivalence alike → (f : X → ℕ) (xs : List X)
    → sum_by (λ first. sum_by f (filter (alike first) xs)) (firsts_by alike xs) ≡ sum_by f xs
firsts_add_up alike laws f xs =
    sum_all_same (λ first. sum_by f (filter (alike first) xs)) (λ first. sum_by (λ x. cond (alike first x) (f x) 0) xs) (firsts_by alike xs)
    (λ k d low. filtered_sum (alike (get_or (firsts_by alike xs) k d)) f xs)
    ∙ parts_add_up alike f (firsts_by alike xs) xs (each_once alike laws xs)

rising : (xs : List ℕ) → AllPairs (λ x y. x < y) xs → IsStrictlyIncreasing xs
rising xs pairs = λ i inside. pairs i (i + 1) 0 (omega arith) inside

pub are_grouped : (alike : ℕ → ℕ → Bool) (numbers : List ℕ) → IsEquivalence alike → AreGrouped alike numbers
are_grouped alike numbers laws = record {
  once = each_once alike laws numbers;
  add_up = λ term.
      sum_map (sum_by term) (λ first. filter (alike first) numbers) (firsts_by alike numbers) ∙ firsts_add_up alike laws term numbers;
  rising = λ increasing. rising (firsts_by alike numbers) (firsts_in_order alike (λ x y. x < y) numbers (AllPairs-from_increasing numbers increasing));
  first = λ increasing.
      none_before alike laws (λ x y. x < y) (λ x y less more. omega (arith, less, more)) numbers (AllPairs-from_increasing numbers increasing);
}
