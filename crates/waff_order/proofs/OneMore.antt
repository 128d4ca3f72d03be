-- What has joined, and what one message more makes of it.
use Rattle.std.proofs.Common.{◌≡◌, ◌≢◌, ℕ, zero, suc, ◌+◌, ◌-◌, ◌*◌, ◌^◌, ◌<◌, ◌≤◌, ◌⊎◌, ◌↔◌, inl, inr, List, [], ◌∷◌, ◌++◌, length, replicate, sum_by, Option, Some, None, Bool, true, false, IsTrue, is_some, arith, refl, sym, ◌∙◌, ap, subst}
use Rattle.std.specs.Prelude.{if◌then◌else◌}
use Rattle.std.specs.List.Sorted.{IsStrictlyIncreasing}
use Rattle.std.proofs.lemmas.Bool.{cases_eq, false≢true}
use Rattle.std.proofs.lemmas.List.{get_or_append_left, get_or_push, length-replicate, length-set, length_push}
use Rattle.std.proofs.lemmas.List.Elements.{All-nil, All-push}
use Rattle.std.proofs.lemmas.List.Sums.{sum_by-cons, sum_by_push}
use Rattle.waff_model.specs.Tree.{Node, AtOrAbove, IsTree}
use Rattle.waff_model.specs.Preorder.{AreNested, span_at}
use Rattle.waff_model.specs.Spans.{map_in, messages_of}
use Rattle.waff_model.specs.declared.limits.TheConstants.{MAX_MESSAGES}
use Rattle.waff_model.specs.declared.preorder.Span.{Span}
use Rattle.waff_model.proofs.SpanLemmas.{held-none, length-map_in}
use Rattle.waff_model.proofs.Members.{in_none}
use Rattle.waff_assign.proofs.Climbs.{root_above}
use Rattle.waff_assign.specs.Held.{AreKnown, AreUnlocked, ExcludeEachOther, Held, IsHeldWithin, count_held, nothing, places_held}
use Rattle.waff_assign.specs.Order.{IsOrdered, Path, held_of}
use Rattle.waff_assign.proofs.Holding.{affinity_without_uses, held_known}
use Rattle.waff_order.specs.Needs.{AreLists, AreNeeds, IsNeed, IsWithinDepth}
use Rattle.waff_order.specs.Open.{Holds, IsChosen, IsNeededAt, IsOver, Place, affinity}
use Rattle.waff_order.specs.Runs.{AreGathered}
use Rattle.waff_order.specs.Gathering.{latest_after, needs_in, opened_after}
use Rattle.waff_order.specs.Joined.{AreHeld, AreLatest, HaveJoined, IsNoted, IsTaken, Joined, root_of}
use Rattle.waff_order.specs.Takers.{AreStates, AreTouched, LockState, needs_by, note_uses, opened_by, opened_count, state_at}
use Rattle.waff_order.proofs.Agreeing.{Agree, noted_as, open_as, taken_as, agree_back}
use Rattle.waff_order.proofs.ChosenLemmas.{chosen_more, chosen_nothing}
use Rattle.waff_order.proofs.Closure.{IsFound, leads_to_next}
use Rattle.waff_order.proofs.Gathered.{chosen_root, chosen_used, closed_locks, count_root, count_used, found_place, found_root, noted_is_one}
use Rattle.waff_order.proofs.Holding.{held_more, held_none, held_same, latest_next, latest_none, latest_same}
use Rattle.waff_order.proofs.LockHolding.{noted_place, taken_more, taken_none}
use Rattle.waff_order.proofs.NeedLemmas.{need_cases, need_kept, need_new, need_within, path_weaker}
use Rattle.waff_order.proofs.Places.{comparable_excludes, excludes_at, over_root, root_over, some_held}
use Rattle.waff_order.proofs.Steps.{noted_last, noted_more, over_affinity}

-- the number of needs, by the depth
pub needs_by_depth : (count total depth : ℕ) → total ≤ 2 * count → (depth ≡ 0 → total ≤ count) → total ≤ count * (depth + 1)
needs_by_depth count total zero twice flat = let few : total ≤ count = flat refl in omega arith
needs_by_depth count total (suc depth) twice flat = grind arith

-- in a tree of no depth there is the root alone
root_alone : (tree : List Node) → IsTree tree → IsWithinDepth tree 0 → (a : ℕ) → a < length tree → a ≡ 0
root_alone tree is_tree flat a within = root_alone_by (root_above tree is_tree a within)
  where
    root_alone_by : AtOrAbove tree 0 a → a ≡ 0
    root_alone_by (zero, same) = sym same
    root_alone_by (suc n, leads) = absurd (omega (arith, flat a (suc n) within leads))

-- a message that uses no lock runs in the root there
pub in_root_alone : (tree : List Node) → IsTree tree → IsWithinDepth tree 0 → (held : Held) → IsHeldWithin (length tree) held → held.uses ≡ []
    → held.affinity ≡ Some 0
in_root_alone tree is_tree flat held within none =
    let there = affinity_without_uses (length tree) held within none in
    there.1 ∙ ap Some (root_alone tree is_tree flat there.0 there.2)

-- where each message has an affinity they hold as many places as they are
pub unlocked_places : (assigned : List Held) → AreUnlocked assigned → places_held assigned ≤ length assigned
unlocked_places [] unlocked = omega arith
unlocked_places (held ∷ rest) unlocked =
    let below = unlocked_places rest (λ k d within. unlocked (suc k) d (omega arith)) in
    let none = ap length (unlocked 0 held (omega arith)) in
    let one : count_held held ≤ 1 = by (is_some held.affinity) none in
    omega (arith, below, one, sum_by-cons count_held held rest)
  where
    by : (b : Bool) → length held.uses ≡ 0 → length held.uses + (if b then 1 else 0) ≤ 1
    by true none = omega arith
    by false none = omega arith

needed_excludes : (tree : List Node) → IsTree tree → (assigned : List Held) (n i : ℕ) (at : Place) → Holds assigned (n + 1) at
    → IsNeededAt tree assigned n i at → (1 ≤ i) × (i ≤ n) × ExcludeEachOther tree (held_of assigned i) (held_of assigned (n + 1))
needed_excludes tree is_tree assigned n i at holds needed = elim needed [
  | inl (r, over, h) ↦
      let to : i ≤ n = h.to in
      (h.from, to, comparable_excludes tree is_tree assigned i (n + 1) (λ same. omega arith) r at h.held holds (inr over))
  | inr (none, is) ↦
      let to : i ≤ n = is.to in
      (is.from, to, comparable_excludes tree is_tree assigned i (n + 1) (λ same. omega arith) is.over.0 at is.over.1 holds (inl is.over.2))
]

-- one message more, of those of a list
module _ (tree : List Node) (spans : List Span) (assigned more : List Held) (joined : Joined) (h : HaveJoined tree spans assigned joined)
    (long : length more ≡ length assigned + 1) (agree : Agree assigned more (length assigned)) (known : AreKnown tree more) where
  abbrev n : ℕ
  n = length assigned

  abbrev mine : Held
  mine = held_of more (n + 1)

  abbrev root : ℕ
  root = root_of spans joined.latest

  room : n + 1 ≤ length more
  room = omega arith

  within : IsHeldWithin (length tree) mine
  within = held_known tree more (n + 1) known (omega arith) room

  few : n ≤ n
  few = omega arith

  held_here : AreHeld tree spans more n joined.opened
  held_here = record {
    held = λ p some. let there = h.opened.held p some in (there.0, open_as tree assigned more n agree n few _ (affinity there.0) there.1, there.2);
    each = λ i a is. h.opened.each i a (open_as tree more assigned n (agree_back assigned more n agree) n few i (affinity a) is);
  }

  latest_here : AreLatest tree spans more n joined.latest
  latest_here a known_a = noted_as tree assigned more n agree n few (affinity a) _ (h.latest a known_a)

  taken_here : (l : ℕ) → IsTaken more n l (state_at h.states l)
  taken_here l = taken_as tree assigned more n agree n few l (state_at h.states l) (h.taken l)

  rooted : IsNoted tree more n (affinity 0) root
  rooted = latest_here 0 h.is_tree.filled

  paths_here : (i j : ℕ) → 1 ≤ i → i < j → j ≤ n → ExcludeEachOther tree (held_of more i) (held_of more j) → Path (IsNeed joined.needs) i j
  paths_here i j from less to excludes =
      h.needs.paths i j (record {
        from = from;
        earlier = less;
        to = to;
        excludes = subst (λ x. ExcludeEachOther tree (held_of assigned i) x) (sym (agree j (omega arith) to))
            (subst (λ x. ExcludeEachOther tree x (held_of more j)) (sym (agree i from (omega arith))) excludes);
      })

  -- each message before that excludes it leads to it
  module _ (list : List ℕ) (is_chosen : IsChosen tree more n list)
      (found : (i : ℕ) → 1 ≤ i → i ≤ n → ExcludeEachOther tree (held_of more i) mine
      → (q at : Place) × Holds more i q × Holds more (n + 1) at × (IsOver tree at q ⊎ IsOver tree q at)
      × ((opens : List ℕ) × (above : ℕ) × IsFound tree more n at opens above)) where
    abbrev lists : List (List ℕ)
    lists = joined.needs ++ list ∷ []

    leads_here : (i : ℕ) → 1 ≤ i → i ≤ n → ExcludeEachOther tree (held_of more i) mine → Path (IsNeed lists) i (n + 1)
    leads_here i from to excludes =
        let there = found i from to excludes in
        leads_to_next tree h.is_tree more (IsNeed joined.needs) (IsNeed lists) n (need_kept joined.needs list)
        (λ x y x_from less y_to p q one two over.
        paths_here x y x_from less y_to (comparable_excludes tree h.is_tree more x y (λ same. omega arith) p q one two over))
        (noted_place tree h.is_tree more known n room root rooted h.states taken_here (λ a known_a. (_, latest_here a known_a)))
        there.1 there.5.0 there.5.1 there.5.2
        (λ x needed. need_new joined.needs list n x h.needs.count ((is_chosen.each x).1 (there.1, there.3, needed)))
        i there.0 from to there.2 there.4

    pub needs_more : AreNeeds tree more lists
    needs_more = record {
      count = length_push joined.needs list ∙ omega (arith, h.needs.count);
      ordered = λ i j need. elim (need_cases joined.needs list n i j h.needs.count need) [
        | inl before ↦
            let pair = h.needs.ordered i j before in
            let from : 1 ≤ i = pair.from in
            let earlier : i < j = pair.earlier in
            let to : j ≤ n = pair.to in
            record {
              from = from;
              earlier = earlier;
              to = omega arith;
              excludes = subst (λ x. ExcludeEachOther tree (held_of more i) x) (agree j (omega arith) to)
                  (subst (λ x. ExcludeEachOther tree x (held_of assigned j)) (agree i from (omega arith)) pair.excludes);
            }
        | inr last ↦
            let there = (is_chosen.each i).0 last.1 in
            let apart = needed_excludes tree h.is_tree more n i there.0 there.1 there.2 in
            subst (λ x. IsOrdered tree more i x) (sym last.0)
            (record { from = apart.0; earlier = omega (arith, apart.1); to = room; excludes = apart.2 })
      ];
      paths = λ i j pair. by i j pair (cases_eq j (n + 1));
    }
      where
        by : (i j : ℕ) → IsOrdered tree more i j → (j ≡ n + 1) ⊎ (j ≢ n + 1) → Path (IsNeed lists) i j
        by i j pair (inl last) =
            let from : 1 ≤ i = pair.from in
            let earlier : i < j = pair.earlier in
            subst (λ x. Path (IsNeed lists) i x) (sym last)
            (leads_here i from (omega arith) (subst (λ x. ExcludeEachOther tree (held_of more i) (held_of more x)) last pair.excludes))
        by i j pair (inr other) =
            let from : 1 ≤ i = pair.from in
            let earlier : i < j = pair.earlier in
            let to : j ≤ length more = pair.to in
            path_weaker (IsNeed joined.needs) (IsNeed lists) (need_kept joined.needs list) i j (paths_here i j from earlier (omega arith) pair.excludes)

    lists_more : n < MAX_MESSAGES → sum_by length joined.needs + length list < 2 ^ 32 → AreLists lists
    lists_more fewer short = record {
      from = λ i j need. (needs_more.ordered i j need).from;
      earlier = λ i j need. (needs_more.ordered i j need).earlier;
      rising = All-push IsStrictlyIncreasing joined.needs list h.lists.rising is_chosen.rising;
      few = let count = needs_more.count in omega (arith, count, long, fewer);
      short = omega (arith, short, sum_by_push length joined.needs list);
    }

  -- the tables of the tree after it
  opened_more : (o : Option ℕ) → mine.affinity ≡ o → AreHeld tree spans more (n + 1) (opened_after spans joined.opened (n + 1) o)
  opened_more None is = held_same tree spans h.nested more known n room joined.opened is held_here
  opened_more (Some a) is = held_more tree spans h.nested more known n room a is joined.opened h.opened_length held_here

  latest_more : (o : Option ℕ) → mine.affinity ≡ o → AreLatest tree spans more (n + 1) (latest_after spans joined.latest (n + 1) o)
  latest_more None is = latest_same tree spans h.nested more known n room joined.latest is latest_here
  latest_more (Some a) is = latest_next tree spans h.nested more known n room a is joined.latest h.latest_length latest_here

  opened_long : (o : Option ℕ) → length (opened_after spans joined.opened (n + 1) o) ≡ length tree
  opened_long None = h.opened_length
  opened_long (Some a) =
      let first = (span_at spans a).first in
      let end = (span_at spans a).end in
      length-set (map_in (λ x. 0) joined.opened first end) first (n + 1) ∙ length-map_in (λ x. 0) joined.opened first end ∙ h.opened_length

  latest_long : (o : Option ℕ) → length (latest_after spans joined.latest (n + 1) o) ≡ length tree
  latest_long None = h.latest_length
  latest_long (Some a) = length-map_in _ joined.latest (span_at spans a).first (span_at spans a).end ∙ h.latest_length

  abbrev next_latest : List ℕ
  next_latest = latest_after spans joined.latest (n + 1) mine.affinity

  abbrev next_root : ℕ
  next_root = root_of spans next_latest

  next_rooted : IsNoted tree more (n + 1) (affinity 0) next_root
  next_rooted = latest_more mine.affinity refl 0 h.is_tree.filled

  root_same : ¬ (mine.affinity ≡ Some 0) → next_root ≡ root
  root_same apart =
      noted_is_one tree more (n + 1) (affinity 0) next_root root next_rooted
      (noted_more tree more n (affinity 0) root rooted (λ over.
      let there = over_affinity tree more (n + 1) 0 over in
      apart (there.1 ∙ ap Some (root_alone_over there.0 there.2))))
    where
      root_alone_over : (b : ℕ) → AtOrAbove tree b 0 → b ≡ 0
      root_alone_over b above = over_root tree h.is_tree b above

  root_next : mine.affinity ≡ Some 0 → next_root ≡ n + 1
  root_next is = noted_is_one tree more (n + 1) (affinity 0) next_root (n + 1) next_rooted (noted_last tree more n (affinity 0) (affinity 0, is, (0, refl)))

  -- what it gathers
  abbrev gathers_by : Bool → List ℕ
  gathers_by is_root = (if is_root then opened_by root h.states joined.touched else needs_by root h.states mine.uses)
      ++ needs_in spans joined.opened joined.latest mine.affinity

  module _ (is_root : Bool) (tells : IsTrue is_root ↔ (mine.affinity ≡ Some 0)) (list : List ℕ) (gathers : AreGathered (gathers_by is_root) list)
      (fewer : n < MAX_MESSAGES) (short : sum_by length joined.needs + length list < 2 ^ 32) where
    abbrev new_states : List LockState
    new_states = note_uses (n + 1) h.states mine.uses

    -- all that a message more brings
    record IsStep : Type 0 where
      chosen : IsChosen tree more n list
      found : (i : ℕ) → 1 ≤ i → i ≤ n → ExcludeEachOther tree (held_of more i) mine
          → (q at : Place) × Holds more i q × Holds more (n + 1) at × (IsOver tree at q ⊎ IsOver tree q at)
          × ((opens : List ℕ) × (above : ℕ) × IsFound tree more n at opens above)
      next_is : next_root ≡ (if is_root then n + 1 else root)
      closed : AreTouched (if is_root then n + 1 else root) h.states (if is_root then [] else joined.touched)
      twice : length list + length (messages_of (opened_after spans joined.opened (n + 1) mine.affinity)) + opened_count next_root new_states
          ≤ length (messages_of joined.opened) + opened_count root h.states + 2 * count_held mine
      flat : mine.affinity ≡ Some 0 → mine.uses ≡ []
          → length list + length (messages_of (opened_after spans joined.opened (n + 1) mine.affinity)) + opened_count next_root new_states
          ≤ length (messages_of joined.opened) + opened_count root h.states + 1

    step_by : (b : Bool) → is_root ≡ b → IsStep
    step_by false is =
        let apart : ¬ (mine.affinity ≡ Some 0) = λ in_root. false≢true (sym is ∙ tells.1 in_root) in
        let mine_list : AreGathered (needs_by root h.states mine.uses ++ needs_in spans joined.opened joined.latest mine.affinity) list
        = subst (λ b. AreGathered (gathers_by b) list) is gathers in
        let same = root_same apart in
        let counted = count_used tree spans h.is_tree h.nested more known n room joined.opened joined.latest held_here latest_here h.states taken_here
        joined.touched h.touched apart list mine_list in
        let bound = subst (λ r. length list + length (messages_of (opened_after spans joined.opened (n + 1) mine.affinity)) + opened_count r new_states
        ≤ length (messages_of joined.opened) + opened_count root h.states + 2 * count_held mine) (sym same) counted in
        record {
          chosen = chosen_used tree spans h.is_tree h.nested more known n room joined.opened joined.latest held_here latest_here h.states taken_here
              joined.touched h.touched apart list mine_list;
          found = λ i from to excludes.
              let there = excludes_at tree h.is_tree more i (n + 1) (held_known tree more i known from (omega arith)) within excludes in (
                there.0,
                there.1,
                there.2,
                there.3,
                elim there.4 [ inl up ↦ inr up | inr down ↦ inl down ],
                found_place tree spans h.is_tree h.nested more known n room joined.opened joined.latest held_here latest_here h.states taken_here
                    joined.touched h.touched apart there.1 there.3,
              );
          next_is = subst (λ b. next_root ≡ (if b then n + 1 else root)) (sym is) same;
          closed = subst (λ b. AreTouched (if b then n + 1 else root) h.states (if b then [] else joined.touched)) (sym is) h.touched;
          twice = bound;
          flat = λ in_root. absurd (apart in_root);
        }
    step_by true is =
        let in_root : mine.affinity ≡ Some 0 = tells.0 is in
        let mine_list : AreGathered (opened_by root h.states joined.touched ++ needs_in spans joined.opened joined.latest (Some 0)) list
        = subst (λ o. AreGathered (opened_by root h.states joined.touched ++ needs_in spans joined.opened joined.latest o) list) in_root
        (subst (λ b. AreGathered (gathers_by b) list) is gathers) in
        let same = root_next in_root in
        let counted = count_root tree spans h.is_tree h.nested more known n room joined.opened joined.latest held_here latest_here h.states taken_here
        joined.touched h.touched in_root list mine_list in
        let bound : length list + length (messages_of (opened_after spans joined.opened (n + 1) mine.affinity)) + opened_count next_root new_states
        ≤ length (messages_of joined.opened) + opened_count root h.states + 1 + length mine.uses
        = subst (λ r. length list + length (messages_of (opened_after spans joined.opened (n + 1) mine.affinity)) + opened_count r new_states
        ≤ length (messages_of joined.opened) + opened_count root h.states + 1 + length mine.uses) (sym same)
        (subst (λ o. length list + length (messages_of (opened_after spans joined.opened (n + 1) o)) + opened_count (n + 1) new_states
        ≤ length (messages_of joined.opened) + opened_count root h.states + 1 + length mine.uses) (sym in_root) counted) in
        let places : count_held mine ≡ length mine.uses + 1 = ap (λ (o : Option ℕ). length mine.uses + (if is_some o then 1 else 0)) in_root in
        record {
          chosen = chosen_root tree spans h.is_tree h.nested more known n room joined.opened joined.latest held_here latest_here h.states taken_here
              joined.touched h.touched in_root list mine_list;
          found = λ i from to excludes.
              let known_i = held_known tree more i known from (omega arith) in
              let there = some_held tree h.is_tree more i known_i in (
                there.0,
                affinity 0,
                there.1,
                in_root,
                inl (root_over tree h.is_tree more i known_i there.0 there.1),
                (
                  _,
                  root,
                  found_root tree spans h.is_tree h.nested more known n room joined.opened joined.latest held_here latest_here h.states taken_here
                      joined.touched h.touched in_root,
                ),
              );
          next_is = subst (λ b. next_root ≡ (if b then n + 1 else root)) (sym is) same;
          closed = subst (λ b. AreTouched (if b then n + 1 else root) h.states (if b then [] else joined.touched)) (sym is)
              (λ l i has. absurd (closed_locks tree spans h.is_tree h.nested more known n room joined.opened joined.latest held_here latest_here h.states
              taken_here joined.touched h.touched in_root l i has));
          twice = omega (arith, bound, places);
          flat = λ in_root none. let short = ap length none in omega (arith, bound, short);
        }

    step : IsStep
    step = step_by is_root refl

    pub joined_next : (next : Joined) → places_held more ≡ places_held assigned + count_held mine
        → (AreUnlocked more → AreUnlocked assigned × (mine.uses ≡ []))
        → next.needs ≡ joined.needs ++ list ∷ [] → next.opened ≡ opened_after spans joined.opened (n + 1) mine.affinity
        → next.latest ≡ latest_after spans joined.latest (n + 1) mine.affinity
        → AreStates next.locks next.chain new_states
        → (AreTouched (if is_root then n + 1 else root) h.states (if is_root then [] else joined.touched)
        → AreTouched (if is_root then n + 1 else root) new_states next.touched)
        → HaveJoined tree spans more next
    joined_next next places unlocked needs opened latest are_states touched =
        let sum = sum_by_push length joined.needs list in
        let known_needs = needs_more list step.chosen step.found in
        let twice : sum_by length (joined.needs ++ list ∷ []) + length (messages_of (opened_after spans joined.opened (n + 1) mine.affinity))
        + opened_count next_root new_states ≤ 2 * places_held more = omega (arith, sum, h.twice, step.twice, places) in
        let flat : IsWithinDepth tree 0 → AreUnlocked more
        → sum_by length (joined.needs ++ list ∷ []) + length (messages_of (opened_after spans joined.opened (n + 1) mine.affinity))
        + opened_count next_root new_states ≤ length more
        = λ depth free.
        let none = unlocked free in
        let in_root = in_root_alone tree h.is_tree depth mine within none.1 in
        let before = h.flat depth none.0 in
        let this = step.flat in_root none.1 in
        omega (arith, sum, before, this, long) in
        let touches : AreTouched next_root new_states next.touched = subst (λ r. AreTouched r new_states next.touched) (sym step.next_is) (touched step.closed) in
        record {
          is_tree = h.is_tree;
          nested = h.nested;
          known = known;
          needs = rw needs known_needs;
          chosen = rw needs (chosen_more tree assigned more joined.needs list long agree h.chosen step.chosen);
          lists = rw needs (lists_more list step.chosen step.found fewer short);
          opened_length = ap length opened ∙ opened_long mine.affinity;
          opened = rw (opened, long) (opened_more mine.affinity refl);
          latest_length = ap length latest ∙ latest_long mine.affinity;
          latest = rw (latest, long) (latest_more mine.affinity refl);
          states = new_states;
          are_states = are_states;
          taken = rw long (taken_more tree h.is_tree more known n room root rooted h.states taken_here);
          touched = rw latest touches;
          twice = rw (needs, opened, latest) twice;
          flat = rw (needs, opened, latest) flat;
        }

-- no message has joined
pub joined_none : (tree : List Node) (spans : List Span) (joined : Joined) → joined.needs ≡ [] → joined.opened ≡ replicate (length tree) 0
    → joined.latest ≡ replicate (length tree) 0 → joined.locks ≡ [] → IsTree tree → AreNested tree spans → HaveJoined tree spans [] joined
joined_none tree spans joined none opened latest locks is_tree nested =
    let empty = held-none (length tree) in
    let total : sum_by length joined.needs + length (messages_of joined.opened) + 0 ≤ 0
    = rw (none, opened) (omega (arith, empty)) in
    record {
      is_tree = is_tree;
      nested = nested;
      known = All-nil _;
      needs = record {
        count = ap length none;
        ordered = λ i j need. absurd (no_need i j need);
        paths = λ i j pair. absurd (let earlier = pair.earlier in let to = pair.to in omega arith);
      };
      chosen = chosen_nothing tree joined.needs none;
      lists = record {
        from = λ i j need. absurd (no_need i j need);
        earlier = λ i j need. absurd (no_need i j need);
        rising = rw none (All-nil _);
        few = rw none (omega arith);
        short = rw none (omega arith);
      };
      opened_length = ap length opened ∙ length-replicate (length tree) 0;
      opened = rw opened (held_none tree spans (length tree));
      latest_length = ap length latest ∙ length-replicate (length tree) 0;
      latest = rw latest (latest_none tree spans (length tree));
      states = [];
      are_states = record { alone = λ l. rw locks refl; sharers = λ l. rw locks refl };
      taken = taken_none;
      touched = λ l i has. absurd (in_none i has);
      twice = omega (arith, total);
      flat = λ depth unlocked. omega (arith, total);
    }
  where
    no_need : (i j : ℕ) → IsNeed joined.needs i j → ⊥
    no_need i j need = let within = need_within joined.needs i j need in let short = ap length none in let from = need.from in omega arith

-- one message more
pub joined_more : (tree : List Node) (spans : List Span) (assigned : List Held) (joined : Joined) (h : HaveJoined tree spans assigned joined) (held : Held)
    → IsHeldWithin (length tree) held → (is_root : Bool) → IsTrue is_root ↔ (held.affinity ≡ Some 0) → (list : List ℕ)
    → AreGathered ((if is_root then opened_by (root_of spans joined.latest) h.states joined.touched
    else needs_by (root_of spans joined.latest) h.states held.uses) ++ needs_in spans joined.opened joined.latest held.affinity) list
    → length assigned < MAX_MESSAGES → sum_by length joined.needs + length list < 2 ^ 32 → (next : Joined)
    → next.needs ≡ joined.needs ++ list ∷ [] → next.opened ≡ opened_after spans joined.opened (length assigned + 1) held.affinity
    → next.latest ≡ latest_after spans joined.latest (length assigned + 1) held.affinity
    → AreStates next.locks next.chain (note_uses (length assigned + 1) h.states held.uses)
    → (AreTouched (if is_root then length assigned + 1 else root_of spans joined.latest) h.states (if is_root then [] else joined.touched)
    → AreTouched (if is_root then length assigned + 1 else root_of spans joined.latest) (note_uses (length assigned + 1) h.states held.uses) next.touched)
    → HaveJoined tree spans (assigned ++ held ∷ []) next
joined_more tree spans assigned joined h held within is_root tells list gathers fewer short next needs opened latest are_states touched =
    let n = length assigned in
    let more = assigned ++ held ∷ [] in
    let last : held_of more (n + 1) ≡ held = get_or_push assigned held nothing (n + 1 - 1) (omega arith) in
    let agree : Agree assigned more n = λ i from to. sym (get_or_append_left assigned (held ∷ []) nothing (i - 1) (omega arith)) in
    let known : AreKnown tree more = All-push (IsHeldWithin (length tree)) assigned held h.known within in
    let long : length more ≡ n + 1 = length_push assigned held in
    let places : places_held more ≡ places_held assigned + count_held (held_of more (n + 1))
    = sum_by_push count_held assigned held ∙ ap (λ x. places_held assigned + count_held x) (sym last) in
    let unlocked : AreUnlocked more → AreUnlocked assigned × ((held_of more (n + 1)).uses ≡ [])
    = λ free. (
      λ k d inside. subst (λ (x : Held). x.uses ≡ []) (get_or_append_left assigned (held ∷ []) d k inside) (free k d (omega arith)),
      free (n + 1 - 1) nothing (omega arith),
    ) in
    joined_next tree spans assigned more joined h long agree known is_root
    (subst (λ (x : Held). IsTrue is_root ↔ (x.affinity ≡ Some 0)) (sym last) tells) list
    (subst (λ (x : Held). AreGathered ((if is_root then opened_by (root_of spans joined.latest) h.states joined.touched
    else needs_by (root_of spans joined.latest) h.states x.uses) ++ needs_in spans joined.opened joined.latest x.affinity) list) (sym last) gathers)
    fewer short next places unlocked needs
    (subst (λ (x : Held). next.opened ≡ opened_after spans joined.opened (n + 1) x.affinity) (sym last) opened)
    (subst (λ (x : Held). next.latest ≡ latest_after spans joined.latest (n + 1) x.affinity) (sym last) latest)
    (subst (λ (x : Held). AreStates next.locks next.chain (note_uses (n + 1) h.states x.uses)) (sym last) are_states)
    (subst (λ (x : Held). AreTouched (if is_root then n + 1 else root_of spans joined.latest) h.states (if is_root then [] else joined.touched)
    → AreTouched (if is_root then n + 1 else root_of spans joined.latest) (note_uses (n + 1) h.states x.uses) next.touched) (sym last) touched)
