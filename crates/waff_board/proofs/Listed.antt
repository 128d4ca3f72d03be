-- The lists of the views, in which each number that is such stands once, after a step.
use Rattle.std.proofs.Common.{◌≡◌, ◌≢◌, ◌⊎◌, inl, inr, ⊎_elim, ℕ, zero, suc, ◌<◌, List, [], ◌∷◌, ◌++◌, AllPairs, Contains, length, set, get_or, refl, sym, ◌∙◌, ap, subst, arith}
use Rattle.std.proofs.lemmas.List.Elements.{Contains-get_or, Contains-append_left, Contains-push, Contains-push_cases}
use Rattle.std.proofs.lemmas.List.Quantifiers.{all_pairs_push}
use mathlib.Core.Option.{some, some-injective, some-ne-none}
use mathlib.Core.Logic.{dite}
use native.Mathlib.Decide.{ℕ_discrete}
use lib.ListN.{get_elem?}
use Rattle.atomic_table.proofs.Lists.{at_set, set_here, set_else, at_longer}
use Rattle.waff_board.specs.Seats.{StandsInOne, AreListedOnce}
use Rattle.waff_board.specs.declared.view.View.{View}

-- a seat that has a view is one of them
pub at_within : {A : Type 0} (xs : List A) (i : ℕ) (a : A) → get_elem? xs i ≡ some a → i < length xs
at_within [] i a there = absurd (some-ne-none a (sym there))
at_within (x ∷ xs) zero a there = omega arith
at_within (x ∷ xs) (suc i) a there = let rest : i < length xs = at_within xs i a there in omega arith

-- a step makes other numbers such, and changes the list of its seat
pub record Adds (such next : ℕ → Type 0) (old new : List ℕ) : Type 0 where
  pub stays : (n : ℕ) → such n → next n
  pub kept : (n : ℕ) → Contains old n → Contains new n
  pub fresh : (n : ℕ) → Contains new n → Contains old n ⊎ (¬ such n)
  pub each : (n : ℕ) → next n → such n ⊎ Contains new n
  pub only : (n : ℕ) → Contains new n → next n
  pub once : AllPairs (λ m n. m ≢ n) new

-- nothing changes
pub adds_none : (such : ℕ → Type 0) (xs : List ℕ) → ((n : ℕ) → Contains xs n → such n) → AllPairs (λ m n. m ≢ n) xs → Adds such such xs xs
adds_none such xs only once = record {
  stays = λ n is. is;
  kept = λ n has. has;
  fresh = λ n has. inl has;
  each = λ n is. inl is;
  only = only;
  once = once;
}

-- one more number is such, which comes to the end of the list
pub adds_one : (such next : ℕ → Type 0) (xs : List ℕ) (n : ℕ) → ((m : ℕ) → Contains xs m → such m) → AllPairs (λ m n. m ≢ n) xs
    → ¬ such n → next n → ((m : ℕ) → such m → next m) → ((m : ℕ) → next m → such m ⊎ (n ≡ m)) → Adds such next xs (xs ++ n ∷ [])
adds_one such next xs n only once new here stays each = record {
  stays = stays;
  kept = λ m has. Contains-append_left xs (n ∷ []) m has;
  fresh = λ m has. ⊎_elim {C = Contains xs m ⊎ (¬ such m)}
      (λ (old : Contains xs m). inl old)
      (λ (same : n ≡ m). inr (λ is. new (subst such (sym same) is)))
      (Contains-push_cases xs n m has);
  each = λ m is. ⊎_elim {C = such m ⊎ Contains (xs ++ n ∷ []) m}
      (λ (old : such m). inl old)
      (λ (same : n ≡ m). inr (subst (λ k. Contains (xs ++ n ∷ []) k) same (Contains-push xs n)))
      (each m is);
  only = λ m has. ⊎_elim {C = next m}
      (λ (old : Contains xs m). stays m (only m old)) (λ (same : n ≡ m). subst next same here) (Contains-push_cases xs n m has);
  once = all_pairs_push (λ m n. m ≢ n) xs n once
      (λ k d within same. new (subst such same (only (get_or xs k d) (Contains-get_or xs k d within))));
}

module _ (list : View → List ℕ) (such next : ℕ → Type 0) (views : List View) (id : ℕ) (v w : View)
    (at : get_elem? views id ≡ some v) (h : AreListedOnce list such views) (adds : Adds such next (list v) (list w)) where
  -- no other seat has a number of the new list
  others : (j : ℕ) (u : View) → j ≢ id → get_elem? views j ≡ some u → (n : ℕ) → Contains (list w) n → ¬ Contains (list u) n
  others j u other there n mine theirs = ⊎_elim {C = ⊥}
      (λ (old : Contains (list v) n). other (h.apart j id u v there at n theirs old))
      (λ (new : ¬ such n). new (h.only j u there n theirs))
      (adds.fresh n mine)

  here : (n : ℕ) → Contains (list w) n → StandsInOne list (set views id w) n
  here n has = record { seat = id; view = w; at = set_here views id w (at_within views id v at); has = has }

  still : (n : ℕ) → StandsInOne list views n → StandsInOne list (set views id w) n
  still n is = dite (ℕ_discrete is.seat id)
      (λ same. here n (adds.kept n (subst (λ (u : View). Contains (list u) n) (mine same) is.has)))
      (λ other. record { seat = is.seat; view = is.view; at = set_else views id is.seat w other ∙ is.at; has = is.has })
    where
      mine : is.seat ≡ id → is.view ≡ v
      mine same = some-injective is.view v (sym is.at ∙ ap (λ k. get_elem? views k) same ∙ at)

  pub listed_moved : AreListedOnce list next (set views id w)
  listed_moved = record {
    each = λ n is. ⊎_elim {C = StandsInOne list (set views id w) n}
        (λ (old : such n). still n (h.each n old)) (λ (new : Contains (list w) n). here n new) (adds.each n is);
    only = λ j u there n has. ⊎_elim {C = next n}
        (λ (mine : (j ≡ id) × (w ≡ u)). adds.only n (subst (λ (u : View). Contains (list u) n) (sym mine.1) has))
        (λ (other : (j ≢ id) × (get_elem? views j ≡ some u)). adds.stays n (h.only j u other.1 n has))
        (at_set views id j w u there);
    apart = λ j k a b at_j at_k n in_a in_b. ⊎_elim {C = j ≡ k}
        (λ (mine : (j ≡ id) × (w ≡ a)). ⊎_elim {C = j ≡ k}
        (λ (too : (k ≡ id) × (w ≡ b)). mine.0 ∙ sym too.0)
        (λ (other : (k ≢ id) × (get_elem? views k ≡ some b)).
        absurd (others k b other.0 other.1 n (subst (λ (u : View). Contains (list u) n) (sym mine.1) in_a) in_b))
        (at_set views id k w b at_k))
        (λ (other : (j ≢ id) × (get_elem? views j ≡ some a)). ⊎_elim {C = j ≡ k}
        (λ (mine : (k ≡ id) × (w ≡ b)).
        absurd (others j a other.0 other.1 n (subst (λ (u : View). Contains (list u) n) (sym mine.1) in_b) in_a))
        (λ (too : (k ≢ id) × (get_elem? views k ≡ some b)). h.apart j k a b other.1 too.1 n in_a in_b)
        (at_set views id k w b at_k))
        (at_set views id j w a at_j);
    once = λ j u there. ⊎_elim {C = AllPairs (λ m n. m ≢ n) (list u)}
        (λ (mine : (j ≡ id) × (w ≡ u)). subst (λ (u : View). AllPairs (λ m n. m ≢ n) (list u)) mine.1 adds.once)
        (λ (other : (j ≢ id) × (get_elem? views j ≡ some u)). h.once j u other.1)
        (at_set views id j w u there);
  }

-- what stands in a list with one more at its end
pub at_end : {A : Type 0} (xs : List A) (x y : A) (i : ℕ) → get_elem? (xs ++ x ∷ []) i ≡ some y
    → (get_elem? xs i ≡ some y) ⊎ ((i ≡ length xs) × (x ≡ y))
at_end [] x y zero there = inr (refl, some-injective x y there)
at_end [] x y (suc i) there = absurd (some-ne-none y (sym there))
at_end (first ∷ xs) x y zero there = inl there
at_end (first ∷ xs) x y (suc i) there = ⊎_elim {C = (get_elem? xs i ≡ some y) ⊎ ((suc i ≡ length (first ∷ xs)) × (x ≡ y))}
    (λ (before : get_elem? xs i ≡ some y). inl before)
    (λ (last : (i ≡ length xs) × (x ≡ y)). inr (ap suc last.0, last.1))
    (at_end xs x y i there)

-- an empty list has nothing
empty_has : (xs : List ℕ) (n : ℕ) → xs ≡ [] → ¬ Contains xs n
empty_has xs n empty has = let few : length xs ≡ 0 = ap length empty in let within = has.1 in omega (arith, few, within)

empty_once : (xs : List ℕ) → xs ≡ [] → AllPairs (λ m n. m ≢ n) xs
empty_once xs empty i j d before within = let few : length xs ≡ 0 = ap length empty in absurd (omega (arith, few, within))

-- one more seat, with an empty list
module _ (list : View → List ℕ) (such : ℕ → Type 0) (views : List View) (w : View)
    (h : AreListedOnce list such views) (empty : list w ≡ []) where
  none : (u : View) (n : ℕ) → w ≡ u → ¬ Contains (list u) n
  none u n same has = empty_has (list w) n empty (subst (λ (u : View). Contains (list u) n) (sym same) has)

  pub listed_longer : AreListedOnce list such (views ++ w ∷ [])
  listed_longer = record {
    each = λ n is. let old = h.each n is in
        record { seat = old.seat; view = old.view; at = at_longer views (w ∷ []) old.seat old.view old.at; has = old.has };
    only = λ j u there n has. ⊎_elim {C = such n}
        (λ (old : get_elem? views j ≡ some u). h.only j u old n has)
        (λ (new : (j ≡ length views) × (w ≡ u)). absurd (none u n new.1 has))
        (at_end views w u j there);
    apart = λ j k a b at_j at_k n in_a in_b. ⊎_elim {C = j ≡ k}
        (λ (old : get_elem? views j ≡ some a). ⊎_elim {C = j ≡ k}
        (λ (too : get_elem? views k ≡ some b). h.apart j k a b old too n in_a in_b)
        (λ (new : (k ≡ length views) × (w ≡ b)). absurd (none b n new.1 in_b))
        (at_end views w b k at_k))
        (λ (new : (j ≡ length views) × (w ≡ a)). absurd (none a n new.1 in_a))
        (at_end views w a j at_j);
    once = λ j u there. ⊎_elim {C = AllPairs (λ m n. m ≢ n) (list u)}
        (λ (old : get_elem? views j ≡ some u). h.once j u old)
        (λ (new : (j ≡ length views) × (w ≡ u)). empty_once (list u) (sym (ap list new.1) ∙ empty))
        (at_end views w u j there);
  }

-- the first seat alone, with an empty list
pub listed_first : (list : View → List ℕ) (such : ℕ → Type 0) (w : View) → list w ≡ [] → ((n : ℕ) → ¬ such n)
    → AreListedOnce list such (w ∷ [])
listed_first list such w empty none = listed_longer list such [] w
    (record {
      each = λ n is. absurd (none n is);
      only = λ j u there. absurd (some-ne-none u (sym there));
      apart = λ j k a b at_j. absurd (some-ne-none a (sym at_j));
      once = λ j u there. absurd (some-ne-none u (sym there));
    })
    empty
