-- A message joins those that have joined, with its needs by number.
use Rattle.std.proofs.Common.{◌≡◌, ◌≢◌, ℕ, ◌+◌, ◌-◌, ◌≤◌, inl, inr, List, [], ◌∷◌, ◌++◌, length, map, set, Contains, arith, ap, sym, ◌∙◌, subst, get_or-set_same, get_or-set_other, length-set}
use Rattle.std.proofs.lemmas.Bool.{cases_lt}
use Rattle.std.proofs.lemmas.List.{get_or_append_left, get_or_push, length_push}
use Rattle.std.proofs.lemmas.List.Elements.{All-contains_itself, All-weaker, Contains-append_left, Contains-get_or, Contains-push}
use Rattle.waff_model.specs.Numbers.{IsAmongFirst}
use Rattle.waff_order.specs.Joined.{Joined}
use Rattle.waff_order.specs.Needs.{AreLists, IsNeed, needs_of}
use Rattle.waff_list.specs.Issuing.{AreNeedsByNumber, served_at}
use Rattle.waff_waits.proofs.Each.{map_same}

module _ (messages : ℕ) (served : List ℕ) (m : ℕ) (joined after : Joined) (list : List ℕ) (needs : List (List ℕ)) (number : IsAmongFirst messages m) (new : Contains served m → ⊥)
    (known : (x : ℕ) → Contains served x → 1 ≤ x) (count : length joined.needs ≡ length served) (listed : after.needs ≡ joined.needs ++ list ∷ []) (lists : AreLists joined.needs)
    (told : AreNeedsByNumber messages served joined needs) where
  abbrev all : List ℕ
  all = served ++ m ∷ []

  abbrev xs : List ℕ
  xs = map (served_at all) list

  abbrev more : List (List ℕ)
  more = set needs (m - 1) xs

  at_before : (p : ℕ) → 1 ≤ p → p ≤ length served → served_at all p ≡ served_at served p
  at_before p from to = get_or_append_left served (m ∷ []) 0 (p - 1) (omega arith)

  at_last : served_at all (length served + 1) ≡ m
  at_last = get_or_push served m 0 (length served + 1 - 1) (omega arith)

  pub list_of_last : needs_of after.needs (length served + 1) ≡ list
  list_of_last = ap (λ ys. needs_of ys (length served + 1)) listed ∙ get_or_push joined.needs list [] (length served + 1 - 1) (omega (arith, count))

  list_before : (p : ℕ) → 1 ≤ p → p ≤ length served → needs_of after.needs p ≡ needs_of joined.needs p
  list_before p from to = ap (λ ys. needs_of ys p) listed ∙ get_or_append_left joined.needs (list ∷ []) [] (p - 1) (omega (arith, count))

  needs_other : (x : ℕ) → x ≢ m → 1 ≤ x → needs_of more x ≡ needs_of needs x
  needs_other x other from =
      let apart : x - 1 ≢ m - 1 = omega (arith, other, from, number.from) in
      get_or-set_other needs (m - 1) (x - 1) xs [] apart

  needs_here : needs_of more m ≡ xs
  needs_here = get_or-set_same needs (m - 1) xs [] (omega (arith, number.from, number.to, told.count))

  same_names : (p : ℕ) → IsAmongFirst (length served) p → map (served_at all) (needs_of joined.needs p) ≡ map (served_at served) (needs_of joined.needs p)
  same_names p within =
      let ys = needs_of joined.needs p in
      map_same (served_at all) (served_at served) ys (All-weaker (Contains ys) (λ i. served_at all i ≡ served_at served i)
      (λ i there.
      let need : IsNeed joined.needs i p = record { from = within.from; listed = there } in
      at_before i (lists.from i p need) (omega (arith, lists.earlier i p need, within.to))) ys (All-contains_itself ys))

  stands : (p : ℕ) → IsAmongFirst (length served) p → Contains served (served_at served p)
  stands p within = Contains-get_or served (p - 1) 0 (omega (arith, within.from, within.to))

  pub told_more : AreNeedsByNumber messages (served ++ m ∷ []) after (set needs (m - 1) (map (served_at (served ++ m ∷ [])) list))
  told_more = record {
    count = length-set needs (m - 1) xs ∙ told.count;
    of_served = λ p within. elim (cases_lt p (length served + 1)) [
      | inl before ↦
          let is : IsAmongFirst (length served) p = record { from = within.from; to = omega (arith, before) } in
          ap (needs_of more) (at_before p is.from is.to)
          ∙ needs_other (served_at served p) (λ same. new (subst (λ y. Contains served y) same (stands p is))) (known (served_at served p) (stands p is))
          ∙ told.of_served p is ∙ sym (same_names p is) ∙ ap (map (served_at all)) (sym (list_before p is.from is.to))
      | inr last ↦
          let is : p ≡ length served + 1 = omega (arith, last, within.to, length_push served m) in
          subst (λ q. needs_of more (served_at all q) ≡ map (served_at all) (needs_of after.needs q)) (sym is)
          (ap (needs_of more) at_last ∙ needs_here ∙ ap (map (served_at all)) (sym list_of_last))
    ];
    of_others = λ x x_number none.
        needs_other x (λ same. none (subst (λ y. Contains all y) (sym same) (Contains-push served m))) x_number.from
        ∙ told.of_others x x_number (λ there. none (Contains-append_left served (m ∷ []) x there));
  }
