-- What a heap and a sorted list of messages say of those that are due.
use Rattle.std.proofs.Common.{◌≡◌, ℕ, zero, suc, ◌+◌, ◌-◌, ◌<◌, ◌≤◌, ◌⊎◌, min, inl, inr, false, true, cond, nat_lt, nat_eq, List, [], ◌∷◌, ◌++◌, length, map, get_or, Bool, All, Contains, Bor, Option, Some, None, option_copied, option_map, IfNone, IfSome, MatchBool, MatchOption, arith, refl, sym, ◌∙◌, ap, subst}
use Rattle.std.specs.Cmp.{nat_cmp_is}
use Rattle.std.specs.List.{AllByRecursion, AllPairs, slice_get}
use Rattle.std.specs.List.Sorted.{IsPermutation}
use Rattle.std.specs.Ordering.{nat_cmp, is_lt, ordering_then}
use Rattle.std.specs.declared.cmp.Ordering.TheVariants.{Less, Equal, Greater}
use Rattle.std.proofs.lemmas.Bool.{cases_eq, cases_lt, cases_order, lt-ltb, cond-true, false≢true}
use Rattle.std.proofs.lemmas.List.{get_or-map, length-append, length-map, map-append, get_or_append_left, nil_from_length}
use Rattle.std.proofs.lemmas.Option.{none-some, slice_get_cases, slice_get_within, get_or_from_slice_get}
use Rattle.std.specs.Option.{option_to_list}
use Rattle.std.specs.Slice.{IsItemAt}
use Rattle.std.proofs.Math.Seq.{get_or-append_seam}
use Rattle.std.proofs.lemmas.List.Elements.{All-append, All-map, All-tail, All-weaker, All-contains, All-from_recursion, Contains-append_left, Contains-append_right}
use Rattle.std.proofs.lemmas.List.Sorted.{IsPermutation-map, IsPermutation-sym, IsPermutation-trans, IsPermutation-middle, IsPermutation-append_left, IsPermutation-append_right, IsPermutation-to_front, All-permutation, Contains-permutation}
use Rattle.waff_model.proofs.Members.{in_cases, in_none}
use Rattle.waff_plan.specs.Due.{IsDueFirst, LeavesDue}
use Rattle.waff_plan.specs.declared.due.TheConstants.{NEVER}

less_is : (x y : ℕ) → x < y → nat_cmp x y ≡ Less
less_is x y less = cond-true (nat_lt x y) Less (cond (nat_eq x y) Equal Greater) (lt-ltb x y less)

-- what is not less is greater or equal
not_less : (x y : ℕ) → is_lt (nat_cmp x y) ≡ false → y ≤ x
not_less x y h = elim (cases_lt x y) [
  | inl less ↦ absurd (false≢true (sym h ∙ ap is_lt (less_is x y less)))
  | inr late ↦ late
]

-- a message of which another is not due later is due first
pub not_later : (r s : ℕ × ℕ) → is_lt (ordering_then (nat_cmp s.0 r.0) (nat_cmp s.1 r.1)) ≡ false → IsDueFirst r s
not_later r s h = elim (cases_order s.0 r.0) [
  | inl same ↦ inr (sym same, not_less s.1 r.1 (subst (λ o. is_lt (ordering_then o (nat_cmp s.1 r.1)) ≡ false) (sym (nat_cmp_is s.0 r.0 Equal same)) h))
  | inr (inl less) ↦ absurd (false≢true (sym h ∙ ap (λ o. is_lt (ordering_then o (nat_cmp s.1 r.1))) (less_is s.0 r.0 less)))
  | inr (inr more) ↦ inl more
]

pub due_tick : (r s : ℕ × ℕ) → IsDueFirst r s → r.0 ≤ s.0
due_tick r s (inl sooner) = omega (arith, sooner)
due_tick r s (inr same) = omega (arith, same.0)

pub due_onward : (r s t : ℕ × ℕ) → IsDueFirst r s → IsDueFirst s t → IsDueFirst r t
due_onward r s t (inl sooner) next = let tick = due_tick s t next in inl (omega (arith, sooner, tick))
due_onward r s t (inr same) (inl later) = inl (omega (arith, same.0, later))
due_onward r s t (inr same) (inr level) = inr (same.0 ∙ level.0, omega (arith, same.1, level.1))

-- the one that leaves is due no later than another that was there
pub due_by : (old new : List (ℕ × ℕ)) (popped : Option (ℕ × ℕ)) (tick m now : ℕ) → tick ≤ now → Contains old (tick, m)
    → MatchOption popped ((old ≡ []) × (new ≡ old)) (λ r. LeavesDue old r new) → MatchOption popped ((new ≡ old) × All (λ r. now < r.0) old) (λ r. (r.0 ≤ now) × LeavesDue old r new)
due_by old new None tick m now early there none = absurd (in_none (tick, m) (subst (λ (xs : List (ℕ × ℕ)). Contains xs (tick, m)) none.0 there))
due_by old new (Some r) tick m now early there leaves =
    let due : r.0 ≤ tick = elim (in_cases r new (tick, m) (Contains-permutation old (r ∷ new) (tick, m) leaves.rest there)) [
      | inl same ↦ omega (arith, ap (λ (s : ℕ × ℕ). s.0) same)
      | inr left ↦ due_tick r (tick, m) (leaves.least (tick, m) left)
    ] in
    (omega (arith, due, early), leaves)

contains_map : {X : Type 0} {Y : Type 0} (f : X → Y) (xs : List X) (x : X) → Contains xs x → Contains (map f xs) (f x)
contains_map {X = X} {Y = Y} f xs x there = (there.0, omega (arith, there.1, length-map {A = X} {B = Y}), get_or-map f xs there.0 x (f x) there.1 ∙ ap f there.2)

module _ {X : Type 0} (f : X → ℕ × ℕ) where
  -- one more in the heap
  pub due_pushed : (x : X) (sorted heap new : List X) → IsPermutation (x ∷ heap) new → IsPermutation (f x ∷ map f (sorted ++ heap)) (map f (sorted ++ new))
  due_pushed x sorted heap new put =
      IsPermutation-map f (x ∷ (sorted ++ heap)) (sorted ++ new)
      (IsPermutation-trans (x ∷ (sorted ++ heap)) (sorted ++ x ∷ heap) (sorted ++ new)
      (IsPermutation-sym (sorted ++ x ∷ heap) (x ∷ (sorted ++ heap)) (IsPermutation-middle sorted x heap)) (IsPermutation-append_right sorted (x ∷ heap) new put))

  -- of the top of a heap none is due first
  pub due_below : (x : X) (ys : List X) → AllByRecursion (λ y. is_lt (ordering_then (nat_cmp (f y).0 (f x).0) (nat_cmp (f y).1 (f x).1)) ≡ false) ys
      → All (λ y. IsDueFirst (f x) (f y)) ys
  due_below x ys above = All-weaker _ (λ y. IsDueFirst (f x) (f y)) (λ y h. not_later (f x) (f y) h) ys (All-from_recursion _ ys above)

  pub due_later : (r : ℕ × ℕ) (x : X) (ys : List X) → IsDueFirst r (f x) → All (λ y. IsDueFirst (f x) (f y)) ys → All (λ y. IsDueFirst r (f y)) ys
  due_later r x ys first later = λ k d within. due_onward r (f x) (f (get_or ys k d)) first (later k d within)

  -- the one that leaves, and those that are left
  pub due_leaves : (x : X) (old new : List X) → IsPermutation old (x ∷ new) → All (λ y. IsDueFirst (f x) (f y)) new → LeavesDue (map f old) (f x) (map f new)
  due_leaves x old new taken later = record {
    rest = IsPermutation-map f old (x ∷ new) taken;
    least = λ s there. All-contains (IsDueFirst (f x)) (map f new) s (All-map (IsDueFirst (f x)) f new later) there;
  }

  -- the messages of a sorted list, the first to be due last
  due_apart : (xs : List X) → ((k : ℕ) (d : X) → k + 1 < length xs → IsDueFirst (f (get_or xs (k + 1) d)) (f (get_or xs k d)))
      → (i n : ℕ) (d : X) → i + suc n < length xs → IsDueFirst (f (get_or xs (i + suc n) d)) (f (get_or xs i d))
  due_apart xs each i zero d within = each i d (omega (arith, within))
  due_apart xs each i (suc n) d within =
      due_onward (f (get_or xs (i + suc (suc n)) d)) (f (get_or xs (i + suc n) d)) (f (get_or xs i d))
      (subst (λ (k : ℕ). IsDueFirst (f (get_or xs k d)) (f (get_or xs (i + suc n) d))) (omega arith) (each (i + suc n) d (omega (arith, within)))) (due_apart xs each i n d (omega (arith, within)))

  pub due_sorted : (xs : List X) → ((k : ℕ) (d : X) → k + 1 < length xs → IsDueFirst (f (get_or xs (k + 1) d)) (f (get_or xs k d)))
      → AllPairs (λ x y. IsDueFirst (f y) (f x)) xs
  due_sorted xs each i j d before within =
      let gap : i + suc (j - suc i) ≡ j = omega (arith, before) in
      subst (λ (k : ℕ). IsDueFirst (f (get_or xs k d)) (f (get_or xs i d))) gap (due_apart xs each i (j - suc i) d (omega (arith, before, within)))

  module _ (front : List X) (x : X) (sorted : AllPairs (λ x y. IsDueFirst (f y) (f x)) (front ++ x ∷ [])) where
    pub due_last : All (λ y. IsDueFirst (f x) (f y)) front
    due_last = λ k d within.
        subst (λ y. IsDueFirst (f y) (f (get_or front k d))) (get_or-append_seam front x [] d)
        (subst (λ y. IsDueFirst (f (get_or (front ++ x ∷ []) (length front) d)) (f y)) (get_or_append_left front (x ∷ []) d k within)
        (sorted k (length front) d within (omega (arith, length-append front (x ∷ [])))))

  -- the first of these messages, where there is one
  abbrev pub IsFirstOf : List X → Option (Bor X) → Type 0
  IsFirstOf xs None = xs ≡ []
  IsFirstOf xs (Some r) = Contains xs r.now × All (λ y. IsDueFirst (f r.now) (f y)) xs

  first_in : (xs : List X) (r : X) → AllPairs (λ x y. IsDueFirst (f y) (f x)) xs → slice_get xs (length xs - 1) ≡ Some r → All (λ y. IsDueFirst (f r) (f y)) xs
  first_in xs r sorted is =
      let within = slice_get_within xs (length xs - 1) r is in
      λ k d inside. elim (cases_eq k (length xs - 1)) [
        | inl same ↦ rw (same, get_or_from_slice_get xs (length xs - 1) r d is) (inr (refl, omega arith))
        | inr other ↦
            subst (λ y. IsDueFirst (f y) (f (get_or xs k d))) (get_or_from_slice_get xs (length xs - 1) r d is)
            (sorted k (length xs - 1) d (omega (arith, other, inside)) within)
      ]

  pub last_is_first : (xs : List X) (last : Option (Bor X)) → AllPairs (λ x y. IsDueFirst (f y) (f x)) xs → option_copied last ≡ slice_get xs (length xs - 1) → IsFirstOf xs last
  last_is_first xs None sorted is = elim (slice_get_cases xs (length xs - 1)).1 [
    | inl one ↦ absurd (none-some one.0 (is ∙ one.2))
    | inr past ↦ nil_from_length xs (omega (arith, past.0))
  ]
  last_is_first xs (Some r) sorted is =
      ((length xs - 1, slice_get_within xs (length xs - 1) r.now (sym is), get_or_from_slice_get xs (length xs - 1) r.now r.now (sym is)), first_in xs r.now sorted (sym is))

  pub top_is_first : {H : Type 0} → H → (xs : List X) (top : Option (Bor X)) → IsItemAt xs 0 top
      → IfSome top (λ x. H → AllByRecursion (λ y. is_lt (ordering_then (nat_cmp (f y).0 (f x.now).0) (nat_cmp (f y).1 (f x.now).1)) ≡ false) xs) → IsFirstOf xs top
  top_is_first heap xs None item above = nil_from_length xs (omega (arith, item.3))
  top_is_first heap xs (Some r) item above = ((0, item.3.0, sym (item.3.1 r.now)), due_below r.now xs (above heap))

  -- the tick of the first of them, where there is one
  abbrev IsTickOf : Option (Bor X) → ℕ → Type 0
  IsTickOf first tick = MatchOption first (tick ≡ NEVER) (λ r. tick ≡ (f r.now).0)

  pub tick_least : (xs : List X) (first : Option (Bor X)) (tick : ℕ) → IsFirstOf xs first → IsTickOf first tick → All (λ y. tick ≤ (f y).0) xs
  tick_least xs None tick none is = rw none (λ k d within. absurd (omega (arith, within)))
  tick_least xs (Some r) tick one is = λ k d within. let tick = due_tick (f r.now) (f (get_or xs k d)) (one.1 k d within) in omega (arith, is, tick)

  pub tick_one : (xs : List X) (first : Option (Bor X)) (tick : ℕ) → IsFirstOf xs first → IsTickOf first tick → (tick ≡ NEVER) ⊎ ((m : ℕ) × Contains (map f xs) (tick, m))
  tick_one xs None tick none is = inl is
  tick_one xs (Some r) tick one is =
      inr ((f r.now).1, subst (λ t. Contains (map f xs) (t, (f r.now).1)) (sym is) (contains_map f xs r.now one.0))

  -- of two lists
  module _ (xs ys : List X) where
    pub least_of : (s t : ℕ) → All (λ y. s ≤ (f y).0) xs → All (λ y. t ≤ (f y).0) ys → All (λ r. min s t ≤ r.0) (map f (xs ++ ys))
    least_of s t here there =
        All-map (λ r. min s t ≤ r.0) f (xs ++ ys)
        (All-append (λ y. min s t ≤ (f y).0) xs ys (λ k d within. let h = here k d within in omega (arith, h)) (λ k d within. let h = there k d within in omega (arith, h)))

    pub one_of : (s t : ℕ) → (s ≡ NEVER) ⊎ ((m : ℕ) × Contains (map f xs) (s, m)) → (t ≡ NEVER) ⊎ ((m : ℕ) × Contains (map f ys) (t, m))
        → (min s t ≡ NEVER) ⊎ ((m : ℕ) × Contains (map f (xs ++ ys)) (min s t, m))
    one_of s t here there = elim (cases_lt t s) [
      | inl less ↦ let is : min s t ≡ t = omega (arith, less) in rw is (elim there [
        | inl never ↦ inl never
        | inr one ↦ inr (one.0, rw (map-append f xs ys) (Contains-append_right (map f xs) (map f ys) (t, one.0) one.1))
      ])
      | inr late ↦ let is : min s t ≡ s = omega (arith, late) in rw is (elim here [
        | inl never ↦ inl never
        | inr one ↦ inr (one.0, rw (map-append f xs ys) (Contains-append_left (map f xs) (map f ys) (s, one.0) one.1))
      ])
    ]

  -- whether the first of some is due before the first of others
  abbrev TellsFirst : Option (Bor X) → Option (Bor X) → Bool → Type 0
  TellsFirst first other is = MatchOption first (is ≡ false) (λ r. MatchOption other (is ≡ true)
      (λ s. MatchBool is (IsDueFirst (f r.now) (f s.now)) (IsDueFirst (f s.now) (f r.now))))

  later_than : (r : ℕ × ℕ) (s : Bor X) (xs : List X) → IsDueFirst r (f s.now) → IsFirstOf xs (Some s) → All (λ y. IsDueFirst r (f y)) xs
  later_than r s xs first one = due_later r s.now xs first one.1

  pub first_here : (xs ys : List X) (first other : Option (Bor X)) (is : Bool) → IsFirstOf xs first → IsFirstOf ys other → TellsFirst first other is → is ≡ true
      → (r : X) × (option_copied first ≡ Some r) × All (λ y. IsDueFirst (f r) (f y)) ys
  first_here xs ys None other is one two tells here = absurd (false≢true (sym tells ∙ here))
  first_here xs ys (Some r) None is one two tells here = (r.now, refl, rw two (λ k d within. absurd (omega (arith, within))))
  first_here xs ys (Some r) (Some s) true one two tells here = (r.now, refl, later_than (f r.now) s ys tells two)
  first_here xs ys (Some r) (Some s) false one two tells here = absurd (false≢true here)

  pub first_there : (xs ys : List X) (first other : Option (Bor X)) (is : Bool) → IsFirstOf xs first → IsFirstOf ys other → TellsFirst first other is → is ≡ false
      → (xs ≡ []) ⊎ ((s : X) × Contains ys s × All (λ y. IsDueFirst (f s) (f y)) xs)
  first_there xs ys None other is one two tells there = inl one
  first_there xs ys (Some r) None is one two tells there = absurd (false≢true (sym there ∙ tells))
  first_there xs ys (Some r) (Some s) true one two tells there = absurd (false≢true (sym there))
  first_there xs ys (Some r) (Some s) false one two tells there = inr (s.now, two.0, later_than (f s.now) r xs tells one)

  -- the first of the sorted ones leaves
  pub leaves_sorted : (old new heap : List X) (r : X) (popped : Option X) → AllPairs (λ x y. IsDueFirst (f y) (f x)) old
      → slice_get old (length old - 1) ≡ Some r → ((d : X) → 0 < length old → popped ≡ Some (get_or old (length old - 1) d)) → old ≡ new ++ option_to_list popped
      → All (λ y. IsDueFirst (f r) (f y)) heap
      → MatchOption (option_map (λ x. f x) popped) ((map f (old ++ heap) ≡ []) × (map f (new ++ heap) ≡ map f (old ++ heap))) (λ r. LeavesDue (map f (old ++ heap)) r (map f (new ++ heap)))
  leaves_sorted old new heap r popped sorted last value items later =
      let within = slice_get_within old (length old - 1) r last in
      let is : popped ≡ Some r = value r (omega (arith, within)) ∙ ap (λ x. Some x) (get_or_from_slice_get old (length old - 1) r r last) in
      let split : old ≡ new ++ r ∷ [] = items ∙ ap (λ o. new ++ option_to_list o) is in
      rw (is, split) (due_leaves r ((new ++ r ∷ []) ++ heap) (new ++ heap) (IsPermutation-append_left heap (new ++ r ∷ []) (r ∷ new) (IsPermutation-to_front new r))
      (All-append (λ y. IsDueFirst (f r) (f y)) new heap (due_last new r (subst (AllPairs (λ x y. IsDueFirst (f y) (f x))) split sorted)) later))

  -- the top of the heap leaves
  pub leaves_heap : (sorted old new : List X) (r : X) → IsPermutation old (r ∷ new) → All (λ y. IsDueFirst (f r) (f y)) old
      → (sorted ≡ []) ⊎ ((s : X) × Contains old s × All (λ y. IsDueFirst (f s) (f y)) sorted)
      → LeavesDue (map f (sorted ++ old)) (f r) (map f (sorted ++ new))
  leaves_heap sorted old new r taken above there =
      due_leaves r (sorted ++ old) (sorted ++ new)
      (IsPermutation-trans (sorted ++ old) (sorted ++ r ∷ new) (r ∷ (sorted ++ new)) (IsPermutation-append_right sorted old (r ∷ new) taken) (IsPermutation-middle sorted r new))
      (All-append (λ y. IsDueFirst (f r) (f y)) sorted new
      (elim there [
        | inl none ↦ rw none (λ k d within. absurd (omega (arith, within)))
        | inr one ↦ due_later (f r) one.0 sorted (All-contains (λ y. IsDueFirst (f r) (f y)) old one.0 above one.1) one.2
      ])
      (All-tail (λ y. IsDueFirst (f r) (f y)) r new (All-permutation (λ y. IsDueFirst (f r) (f y)) old (r ∷ new) taken above)))

  pub leaves_top : {H : Type 0} (I : Type 0) (m n : ℕ) → H → (sorted old new : List X) (popped : Option X) → (sorted ≡ []) ⊎ ((s : X) × Contains old s × All (λ y. IsDueFirst (f s) (f y)) sorted)
      → IfSome popped (λ x. IsPermutation old (x ∷ new))
      → IfSome popped (λ x. H → I × AllByRecursion (λ y. is_lt (ordering_then (nat_cmp (f y).0 (f x).0) (nat_cmp (f y).1 (f x).1)) ≡ false) old)
      → IfNone popped (length old ≡ 0) → IfNone popped ((new ≡ old) × (m ≡ n))
      → MatchOption (option_map (λ x. f x) popped) ((map f (sorted ++ old) ≡ []) × (map f (sorted ++ new) ≡ map f (sorted ++ old))) (λ r. LeavesDue (map f (sorted ++ old)) r (map f (sorted ++ new)))
  leaves_top I m n heap sorted old new None there taken above none same =
      let empty = nil_from_length old none in
      let start : sorted ≡ [] = elim there [
        | inl is ↦ is
        | inr one ↦ absurd (in_none one.0 (subst (λ xs. Contains xs one.0) empty one.1))
      ] in
      (rw (start, empty) refl, ap (λ xs. map f (sorted ++ xs)) same.0)
  leaves_top I m n heap sorted old new (Some r) there taken above none same = leaves_heap sorted old new r taken (due_below r old (above heap).1) there
