-- A message joins those that have been issued: its needs by number are known from now on.
use Rattle.std.proofs.Common.{◌≡◌, ℕ, ◌+◌, ◌-◌, ◌≤◌, inl, inr, List, [], ◌∷◌, ◌++◌, length, map, set, All, Contains, arith, sym, ◌∙◌, ap, subst, get_or-set_same}
use Rattle.std.proofs.lemmas.List.{length-map, length_push, map_push}
use Rattle.std.proofs.lemmas.List.Elements.{All-contains_itself, All-map, All-weaker, Contains-get_or}
use Rattle.waff_assign.specs.Held.{Held}
use Rattle.waff_assign.specs.Order.{held_of}
use Rattle.waff_model.specs.Numbers.{IsAmongFirst}
use Rattle.waff_model.specs.Tree.{Node}
use Rattle.waff_order.specs.Joined.{HaveJoined}
use Rattle.waff_order.specs.Needs.{IsNeed, needs_of}
use Rattle.waff_plan.specs.Work.{Work}
use Rattle.waff_list.specs.Issuing.{AreNeedsByNumber, served_at}
use Rattle.waff_list.specs.Planning.{AreJoined, IsNew}
use Rattle.waff_list.specs.declared.issued.Issued.{Issued}
use Rattle.waff_waits.proofs.Each.{one_of}
use Rattle.waff_list.proofs.ServedLemmas.{list_of_last, told_more}

module _ (work : Work) (x y : Issued) (messages : List ℕ) (needs : List (List ℕ)) (m : ℕ) (h : AreJoined x work.count messages needs) (is : IsNew work messages m)
    (case : y.case ≡ x.case) (spans : y.spans ≡ x.spans) (moved : y.messages.items ≡ x.messages.items ++ m ∷ [])
    (list : List ℕ) (listed : y.joining.needs ≡ x.joining.needs ++ list ∷ [])
    (joins : (tree : List Node) (assigned : List Held) → HaveJoined tree x.spans.now assigned x.joining → HaveJoined tree x.spans.now (assigned ++ held_of x.case.assigned.now m ∷ []) y.joining)
    (xs : List ℕ) (named : xs ≡ map (served_at y.messages.items) (needs_of y.joining.needs (length y.messages.items))) where
  abbrev all : List ℕ
  all = messages ++ m ∷ []

  m_number : IsAmongFirst work.count m
  m_number = record { from = is.number.from; to = is.number.to }

  from_one : (d : ℕ) → Contains messages d → 1 ≤ d
  from_one d there = (is.numbers d there).from

  count : length x.joining.needs ≡ length messages
  count = h.joined.needs.count ∙ length-map messages (held_of x.case.assigned.now)

  all_are : y.messages.items ≡ all
  all_are = moved ∙ ap (λ ys. ys ++ m ∷ []) h.messages

  last : length y.messages.items ≡ length messages + 1
  last = omega (arith, ap length all_are, length_push messages m)

  pub have : HaveJoined y.case.tree.now y.spans.now (map (held_of y.case.assigned.now) all) y.joining
  have =
      let held = held_of x.case.assigned.now in
      rw (case, spans) (subst (λ ys. HaveJoined x.case.tree.now x.spans.now ys y.joining) (sym (map_push held messages m)) (joins x.case.tree.now (map held messages) h.joined))

  list_is : needs_of y.joining.needs (length messages + 1) ≡ list
  list_is = list_of_last work.count messages m x.joining y.joining list needs m_number is.new from_one count listed h.joined.lists h.told

  -- its needs, by number
  pub names : xs ≡ map (served_at all) list
  names = named ∙ ap (λ ys. map (served_at ys) (needs_of y.joining.needs (length y.messages.items))) all_are
      ∙ ap (λ n. map (served_at all) (needs_of y.joining.needs n)) last ∙ ap (map (served_at all)) list_is

  places : All (IsAmongFirst (length all)) list
  places = All-weaker (Contains list) (IsAmongFirst (length all))
      (λ q there.
      let need : IsNeed y.joining.needs q (length messages + 1) = record { from = omega arith; listed = subst (λ ys. Contains ys q) (sym list_is) there } in
      record { from = have.lists.from q (length messages + 1) need; to = omega (arith, have.lists.earlier q (length messages + 1) need, length_push messages m) }) list (All-contains_itself list)

  pub numbers : All (IsAmongFirst work.count) xs
  numbers = subst (λ ys. All (IsAmongFirst work.count) ys) (sym names)
      (All-map (IsAmongFirst work.count) (served_at all) list (All-weaker (IsAmongFirst (length all)) (λ q. IsAmongFirst work.count (served_at all q))
      (λ q within.
      let there = Contains-get_or all (q - 1) 0 (omega (arith, within.from, within.to)) in
      elim (one_of messages m (served_at all q) there) [
        | inl before ↦ let number = is.numbers (served_at all q) before in record { from = number.from; to = number.to }
        | inr same ↦ subst (IsAmongFirst work.count) (sym same) m_number
      ]) list places))

  pub here : needs_of (set needs (m - 1) xs) m ≡ xs
  here = get_or-set_same needs (m - 1) xs [] (omega (arith, m_number.from, m_number.to, h.told.count))

  pub joined_after : AreJoined y work.count all (set needs (m - 1) xs)
  joined_after = record {
    messages = all_are;
    joined = have;
    told = subst (λ ys. AreNeedsByNumber work.count all y.joining (set needs (m - 1) ys)) (sym names)
        (told_more work.count messages m x.joining y.joining list needs m_number is.new from_one count listed h.joined.lists h.told);
  }
