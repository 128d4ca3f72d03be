-- Elements told in rows by their kinds, one element after another.
use Rattle.std.proofs.Common.{◌≡◌, ◌≢◌, ℕ, ◌<◌, inl, inr, cond, not, Bool, true, false, List, [], ◌∷◌, ◌++◌, length, get_or, set, map, filter, slice_get, Some, arith, sym, ◌∙◌, ap}
use Rattle.std.specs.Cmp.{IsEquivalence}
use Rattle.std.specs.List.{list_any}
use Rattle.std.proofs.lemmas.Bool.{cases_Bool, cases_lt, false≢true}
use Rattle.std.proofs.lemmas.List.{append-nil, get_or-map, length-map, map_push}
use Rattle.std.proofs.lemmas.List.Elements.{filter-append}
use Rattle.std.proofs.lemmas.Option.{get_or_from_slice_get, slice_get_within}
use Rattle.waff_figures.specs.Groups.{firsts_by}
use Rattle.waff_figures.proofs.GroupLemmas.{any_first, firsts_apart, firsts_push}
use Rattle.waff_figures.proofs.Lists.{any_map, any_same, map_same, map_set_one, none_filtered, none_pass}

-- rows over elements that are alike, where a row takes one element more
module _ {X R : Type 0} (is : X → X → Bool) (laws : IsEquivalence is) (over : List X → X → R) (plus : R → X → R)
    (more : (xs : List X) (first x : X) → over (xs ++ x ∷ []) first ≡ plus (over xs first) x) where
  abbrev row : List X → X → R
  row xs first = over (filter (is first) xs) first

  abbrev rows : List X → List R
  rows xs = map (row xs) (firsts_by is xs)

  row_stays : (xs : List X) (first x : X) → is first x ≡ false → row xs first ≡ row (xs ++ x ∷ []) first
  row_stays xs first x other =
      ap (λ l. over l first)
      (sym (filter-append (is first) xs (x ∷ []) ∙ ap (λ b. filter (is first) xs ++ cond b (x ∷ []) []) other ∙ append-nil (filter (is first) xs)))

  row_grows : (xs : List X) (first x : X) → is first x ≡ true → plus (row xs first) x ≡ row (xs ++ x ∷ []) first
  row_grows xs first x same =
      sym (more (filter (is first) xs) first x)
      ∙ ap (λ l. over l first) (sym (filter-append (is first) xs (x ∷ []) ∙ ap (λ b. filter (is first) xs ++ cond b (x ∷ []) []) same))

  module _ (xs : List X) (x : X) where
    abbrev firsts : List X
    firsts = firsts_by is xs

    -- an element of a new kind has a row of its own, behind the others
    rows_new : list_any (is x) firsts ≡ false → rows (xs ++ x ∷ []) ≡ rows xs ++ over (x ∷ []) x ∷ []
    rows_new none =
        let others = none_pass (is x) xs (sym (any_first is laws xs x) ∙ none) in
        let alone : filter (is x) (xs ++ x ∷ []) ≡ x ∷ []
        = filter-append (is x) xs (x ∷ []) ∙ ap (λ l. l ++ filter (is x) (x ∷ [])) (none_filtered (is x) xs others)
        ∙ ap (λ b. cond b (x ∷ []) []) (laws.refl x) in
        let apart = none_pass (is x) firsts none in
        let now = row (xs ++ x ∷ []) in
        ap (map now) (firsts_push is xs x ∙ ap (λ b. cond b firsts (firsts ++ x ∷ [])) none) ∙ map_push now firsts x
        ∙ ap (λ rs. rs ++ now x ∷ [])
        (sym (map_same (row xs) now firsts (λ k d low.
        let first = get_or firsts k d in
        row_stays xs first x (laws.symm first x ∙ apart k d low))))
        ∙ ap (λ l. map (row xs) firsts ++ over l x ∷ []) alone

    -- of one kind there is one row
    other_kind : (d : X) (g k : ℕ) → g < length firsts → k < length firsts → is (get_or firsts g d) x ≡ true → k ≢ g → is (get_or firsts k d) x ≡ false
    other_kind d g k inside low same other = elim (cases_Bool (is (get_or firsts k d) x)) [
      | inr differs ↦ differs
      | inl passes ↦
          let apart = firsts_apart is laws xs in
          let here = laws.symm x (get_or firsts g d) ∙ same in
          let there = laws.symm x (get_or firsts k d) ∙ passes in
          absurd (elim (cases_lt k g) [
            | inl less ↦ false≢true (sym (apart k g d less inside) ∙ laws.congr (get_or firsts k d) x (get_or firsts g d) passes ∙ here)
            | inr above ↦ false≢true (sym (apart g k d (omega (arith, above, other)) low) ∙ laws.congr (get_or firsts g d) x (get_or firsts k d) same ∙ there)
          ])
    ]

    -- one more of a kind that there is
    rows_grow : (g : ℕ) (none : R) → g < length firsts → list_any (is x) firsts ≡ true → is (get_or firsts g x) x ≡ true
        → rows (xs ++ x ∷ []) ≡ set (rows xs) g (plus (get_or (rows xs) g none) x)
    rows_grow g none inside among same =
        let now = row (xs ++ x ∷ []) in
        let first = get_or firsts g x in
        let old : get_or (rows xs) g none ≡ row xs first = get_or-map (row xs) firsts g x none inside in
        ap (map now) (firsts_push is xs x ∙ ap (λ b. cond b firsts (firsts ++ x ∷ [])) among)
        ∙ map_set_one (row xs) now firsts g (plus (get_or (rows xs) g none) x) x inside
        (sym (row_grows xs first x same) ∙ ap (λ r. plus r x) (sym old))
        (λ k low other. row_stays xs (get_or firsts k x) x (other_kind x g k inside low same other))

  -- kinds that are equal exactly where elements are alike
  module _ {K : Type 0} (kind : X → K) (kind_eq : K → K → Bool) (agree : (x y : X) → is x y ≡ kind_eq (kind x) (kind y)) where
    -- a row for each kind that has come, in the order of the first elements, and their kinds
    pub record AreSoFar (xs : List X) (told : List R) (keys : List K) : Type 0 where
      pub rows_are : told ≡ map (λ first. over (filter (is first) xs) first) (firsts_by is xs)
      pub kinds : keys ≡ map kind (firsts_by is xs)

    module _ (xs : List X) (x : X) (told : List R) (keys new_keys : List K) (place : ℕ) (are : AreSoFar xs told keys) where
      abbrev known : List X
      known = firsts_by is xs

      abbrev Places : Type 0
      Places = (k : K) × (slice_get new_keys place ≡ Some k) × (kind_eq (kind x) k ≡ true)

      -- the place of a kind that is there is that of a first element of the kind
      place_there : new_keys ≡ keys → Places → place < length known
      place_there same placed =
          let within = slice_get_within new_keys place placed.0 placed.1 in
          omega (arith, within, ap length same, ap length are.kinds, length-map known kind)

      first_there : new_keys ≡ keys → Places → is (get_or known place x) x ≡ true
      first_there same placed =
          let first = get_or known place x in
          let at : get_or new_keys place (kind x) ≡ kind first
          = ap (λ ks. get_or ks place (kind x)) (same ∙ are.kinds) ∙ get_or-map kind known place x (kind x) (place_there same placed) in
          let found : placed.0 ≡ kind first = sym (get_or_from_slice_get new_keys place placed.0 (kind x) placed.1) ∙ at in
          laws.symm first x ∙ agree x first ∙ ap (kind_eq (kind x)) (sym found) ∙ placed.2

      pub inside_if_old : (is_new among : Bool) → is_new ≡ not among → new_keys ≡ cond among keys (keys ++ kind x ∷ []) → Places
          → is_new ≡ false → place < length told
      inside_if_old is_new true added keys_are placed old =
          omega (arith, place_there keys_are placed, ap length are.rows_are, length-map known (row xs))
      inside_if_old is_new false added keys_are placed old = absurd (false≢true (sym old ∙ added))

      -- the kind is among them where the element is like a first one
      is_among : list_any (kind_eq (kind x)) keys ≡ list_any (is x) known
      is_among =
          ap (list_any (kind_eq (kind x))) are.kinds ∙ any_map (kind_eq (kind x)) kind known
          ∙ any_same (λ y. kind_eq (kind x) (kind y)) (is x) known (λ k d low. sym (agree x (get_or known k d)))

      -- a row behind the others, or one of them grows
      pub with_new : (among : Bool) → among ≡ list_any (kind_eq (kind x)) keys → among ≡ false → new_keys ≡ cond among keys (keys ++ kind x ∷ [])
          → AreSoFar (xs ++ x ∷ []) (told ++ over (x ∷ []) x ∷ []) new_keys
      with_new among is_there fails keys_are =
          let none : list_any (is x) known ≡ false = sym (is_there ∙ is_among) ∙ fails in
          record {
            rows_are = ap (λ rs. rs ++ over (x ∷ []) x ∷ []) are.rows_are ∙ sym (rows_new xs x none);
            kinds = keys_are ∙ ap (λ b. cond b keys (keys ++ kind x ∷ [])) fails ∙ ap (λ ks. ks ++ kind x ∷ []) are.kinds ∙ sym (map_push kind known x)
                ∙ ap (map kind) (sym (firsts_push is xs x ∙ ap (λ b. cond b known (known ++ x ∷ [])) none));
          }

      pub with_more : (among : Bool) (none : R) → among ≡ list_any (kind_eq (kind x)) keys → among ≡ true → new_keys ≡ cond among keys (keys ++ kind x ∷ [])
          → Places → AreSoFar (xs ++ x ∷ []) (set told place (plus (get_or told place none) x)) new_keys
      with_more among none is_there passes keys_are placed =
          let there : list_any (is x) known ≡ true = sym (is_there ∙ is_among) ∙ passes in
          let same : new_keys ≡ keys = keys_are ∙ ap (λ b. cond b keys (keys ++ kind x ∷ [])) passes in
          record {
            rows_are = ap (λ rs. set rs place (plus (get_or rs place none) x)) are.rows_are
                ∙ sym (rows_grow xs x place none (place_there same placed) there (first_there same placed));
            kinds = same ∙ are.kinds ∙ ap (map kind) (sym (firsts_push is xs x ∙ ap (λ b. cond b known (known ++ x ∷ [])) there));
          }
