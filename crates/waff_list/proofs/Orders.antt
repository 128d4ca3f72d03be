-- Orders of service: by number and by issue, and what messages wait for in them.
use Rattle.std.proofs.Common.{◌≡◌, ℕ, zero, suc, ◌+◌, ◌-◌, ◌<◌, ◌≤◌, ◌⊎◌, ◌↔◌, inl, inr, List, [], length, map, get_or, Contains, arith, refl, sym, ◌∙◌, ap, subst}
use Rattle.std.proofs.lemmas.Bool.{cases_lt}
use Rattle.waff_model.specs.Tree.{Node}
use Rattle.waff_model.specs.declared.preorder.Span.{Span}
use Rattle.waff_assign.specs.Order.{Path, PathBy, Relation}
use Rattle.std.proofs.lemmas.List.{get_or_default}
use Rattle.std.proofs.lemmas.List.Elements.{Contains-get_or}
use Rattle.waff_order.specs.Needs.{AreLists, IsNeed, needs_of}
use Rattle.waff_order.proofs.NeedLemmas.{need_within, path_one}
use Rattle.waff_plan.specs.Obeys.{AwaitsNone}
use Rattle.waff_plan.specs.Work.{Work, IsAmongFirst, IsNumber, finish_of, issue_of}
use Rattle.waff_plan.proofs.NoClients.{issue_is_floor}
use Rattle.waff_plan.proofs.Places.{earlier_place, place_of, place_to}
use Rattle.waff_list.specs.Issuing.{served_at}
use Rattle.waff_list.specs.Orders.{AgreeBy, AreNeedsIn, IsServiceOrder, Order, TakesFirst, by_issue, by_number}
use Rattle.waff_list.specs.Planning.{AreKnown, Fits}
use Rattle.waff_list.specs.Progress.{IsSmall}
use Rattle.waff_list.specs.Telling.{basis_of, order_by}
use Rattle.waff_waits.specs.Times.{times}
use Rattle.waff_list.specs.declared.service.Service.{Service}
use Rattle.waff_list.specs.declared.service.Service.TheVariants.{ByIssue, ByNumber}
use Rattle.waff_waits.proofs.TimesLemmas.{times_some}
use Rattle.waff_waits.proofs.Each.{contains_mapped, times_listed}
use Rattle.waff_list.proofs.IssuePlans.{served_to}
use Rattle.waff_list.proofs.ServiceLemmas.{need_is_served, path_of_pair}
use Rattle.waff_list.proofs.Uniqueness.{AreAlike}
use Rattle.waff_assign.specs.Held.{Held}

-- along a path through needs numbers rise
path_numbers : (given : List (List ℕ)) (lists : AreLists given) (n i m : ℕ) → PathBy (IsNeed given) n i m → (1 ≤ i) × (i < m) × (m ≤ length given)
path_numbers given lists zero i m need = (lists.from i m need, lists.earlier i m need, need_within given i m need)
path_numbers given lists (suc n) i m (j, first, rest) =
    let more = path_numbers given lists n j m rest in
    (lists.from i j first, omega (arith, lists.earlier i j first, more.1), more.2)

pub numbers_serve : (given : List (List ℕ)) (work : Work) → AreLists given → length given ≡ work.count → AwaitsNone work → IsSmall work → IsServiceOrder work (by_number given)
numbers_serve given work lists same none small = record {
  numbers = λ start i m path.
      let is = path_numbers given lists path.0 i m path.1 in
      (record { from = is.0; to = omega (arith, is.1, is.2, same) }, record { from = omega (arith, is.0, is.1); to = omega (arith, is.2, same) });
  place = λ start m. m;
  to = λ start m number. number.to;
  earlier = λ start i m path. (path_numbers given lists path.0 i m path.1).1;
  known = λ start i m path short.
      let is = path_numbers given lists path.0 i m path.1 in
      omega (arith, issue_is_floor work none start i, small.floor i (record { from = is.0; to = omega (arith, is.1, is.2, same) }));
  kept = λ start later now agree i m issued pair. pair;
  keyed = λ start later m agree. refl;
  serves = λ start now issued needs served knows. record {
    sound = λ i m need. path_one (IsNeed given) i m (subst (λ ys. IsNeed ys i m) knows need);
    covers = λ i m path there. subst (λ ys. Path (IsNeed ys) i m) (sym knows) path;
  };
  due = λ start now issued needs short served knows i m need.
      let path = path_one (IsNeed given) i m (subst (λ ys. IsNeed ys i m) knows need) in
      let is = path_numbers given lists path.0 i m path.1 in
      omega (arith, issue_is_floor work none start m, small.floor m (record { from = omega (arith, is.0, is.1); to = omega (arith, is.2, same) }));
}

pub issues_serve : (tree : List Node) (spans : List Span) (assigned : List Held) (work : Work) → IsServiceOrder work (by_issue tree spans assigned work)
issues_serve tree spans assigned work =
    record {
      numbers = λ start i m pair. (pair.first, pair.second);
      place = λ start. place_of work (issue_of work start);
      to = λ start m number. place_to work (issue_of work start) m;
      earlier = λ start i m pair. earlier_place work (issue_of work start) i m pair.second pair.precedes;
      known = λ start i m pair short. elim pair.precedes [ inl sooner ↦ omega (arith, sooner, short) | inr same ↦ omega (arith, same.0, short) ];
      kept = λ start later now agree i m issued pair. served_to work start later now agree tree assigned i m issued pair;
      keyed = λ start later m agree. agree;
      serves = λ start now issued needs are knows. record {
        sound = λ i m need. (need_is_served tree spans assigned work start now issued knows.joined needs are knows.have knows.told i m need).0;
        covers = λ i m pair there. path_of_pair tree spans assigned work start now issued knows.joined needs are knows.have knows.told i m pair (are.each.only m there).1;
      };
      due = λ start now issued needs short are knows i m need.
          let is = need_is_served tree spans assigned work start now issued knows.joined needs are knows.have knows.told i m need in
          omega (arith, is.1, short);
    }

-- two plans that issue the same by now serve alike, in any order of service
pub order_alike : (work : Work) (order : Order) → IsServiceOrder work order → (priority start later : ℕ → ℕ) (now : ℕ) → AgreeBy work start later now → AgreeBy work later start now
    → AreAlike work (order.before start) (order.before later) (TakesFirst priority (order.key start)) (TakesFirst priority (order.key later)) start later now
order_alike work order is priority start later now there back = record {
  before_to = λ i m issued pair. is.kept start later now there i m issued pair;
  before_back = λ i m issued pair. is.kept later start now back i m issued pair;
  first_to = λ i j i_number j_number i_issued j_issued takes. taken start later i j (is.keyed start later i (there i i_issued)) (is.keyed start later j (there j j_issued)) takes;
  first_back = λ i j i_number j_number i_issued j_issued takes. taken later start i j (is.keyed later start i (back i i_issued)) (is.keyed later start j (back j j_issued)) takes;
}
  where
    taken : (one other : ℕ → ℕ) (i j : ℕ) → order.key one i ≡ order.key other i → order.key one j ≡ order.key other j
        → TakesFirst priority (order.key one) i j → TakesFirst priority (order.key other) i j
    taken one other i j same_i same_j (inl higher) = inl higher
    taken one other i j same_i same_j (inr (level, inl lower)) = inr (level, inl (omega (arith, lower, same_i, same_j)))
    taken one other i j same_i same_j (inr (level, inr both)) = inr (level, inr (omega (arith, both.0, same_i, same_j), both.1))

-- a plan that serves in an order may start a message that is issued as soon as its needs have finished
pub needs_tell : (before : Relation) (work : Work) (issued : List ℕ) (needs : List (List ℕ)) → AreNeedsIn before issued needs → (start : ℕ → ℕ) (now : ℕ)
    → ((i j : ℕ) → before i j → start j ≤ now → finish_of work start i ≤ start j) → (m : ℕ) → Contains issued m
    → ((i : ℕ) → IsNeed needs i m → finish_of work start i ≤ now) ↔ ((i : ℕ) → before i m → finish_of work start i ≤ now)
needs_tell before work issued needs are start now ordered m there = (free, λ done i need. done i (are.sound i m need))
  where
    -- along a path whose last message has finished, all have
    along : (n i x : ℕ) → PathBy (IsNeed needs) n i x → ((j : ℕ) → IsNeed needs j x → finish_of work start j ≤ now) → finish_of work start i ≤ now
    along zero i x need done = done i need
    along (suc n) i x (j, first, rest) done =
        let then : start j + work.cost j ≤ now = along n j x rest done in
        let soon : finish_of work start i ≤ start j = ordered i j (are.sound i j first) (omega arith) in
        omega arith

    free : ((i : ℕ) → IsNeed needs i m → finish_of work start i ≤ now) → (i : ℕ) → before i m → finish_of work start i ≤ now
    free done i pair = let path = are.covers i m pair there in along path.0 i m path.1 done

pub contains_or : (m : ℕ) (xs : List ℕ) → Contains xs m ⊎ (Contains xs m → ⊥)
contains_or m xs = elim (cases_lt 0 (times m xs)) [
  | inl some ↦ inl (times_listed m xs (omega (arith, some)))
  | inr none ↦ inr (λ there. omega (arith, none, times_some m xs there))
]

-- each need of a message is one of the messages
pub needs_inside : (needs : List (List ℕ)) (m : ℕ) → AreLists needs → 1 ≤ m → (i : ℕ) → Contains (needs_of needs m) i → (1 ≤ i) × (i ≤ length needs)
needs_inside needs m lists from i there =
    let need : IsNeed needs i m = record { from = from; listed = there } in
    (lists.from i m need, omega (arith, lists.earlier i m need, need_within needs i m need))

-- each order of service is one that a planner can follow
pub service_order : (service : Service) (work : Work) (issued : List ℕ) (needs : List (List ℕ)) → Fits service work → AreKnown service work.count issued needs → IsSmall work
    → IsServiceOrder work (order_by (basis_of service) work)
service_order (ByNumber given) work issued needs fits known small = numbers_serve given.now work fits.2 fits.0 fits.1 small
service_order (ByIssue issues) work issued needs fits known small = issues_serve issues.case.tree.now issues.spans.now issues.case.assigned.now work

-- what is known of needs is what the order of service tells
pub knows_of : (service : Service) (work : Work) (issued : List ℕ) (needs : List (List ℕ)) → AreKnown service work.count issued needs
    → (order_by (basis_of service) work).knows issued needs
knows_of (ByNumber given) work issued needs known = known
knows_of (ByIssue issues) work issued needs known = record { joined = issues.joining; have = known.joined; told = known.told }

-- there is a list for each message
pub known_count : (service : Service) (work : Work) (issued : List ℕ) (needs : List (List ℕ)) → Fits service work → AreKnown service work.count issued needs
    → length needs ≡ work.count
known_count (ByNumber given) work issued needs fits known = subst (λ ys. length ys ≡ work.count) (sym known) fits.0
known_count (ByIssue issues) work issued needs fits known = known.told.count

-- a need is a message
pub known_numbers : (service : Service) (work : Work) (issued : List ℕ) (needs : List (List ℕ)) → Fits service work → AreKnown service work.count issued needs
    → ((x : ℕ) → Contains issued x → IsNumber work x) → (i m : ℕ) → IsNeed needs i m → IsNumber work i
known_numbers (ByNumber given) work issued needs fits known numbers i m need =
    let is = subst (λ ys. IsNeed ys i m) known need in
    record { from = fits.2.from i m is; to = omega (arith, fits.2.earlier i m is, need_within given.now i m is, fits.0) }
known_numbers (ByIssue issues) work issued needs fits known numbers i m need = elim (contains_or m issued) [
  | inl there ↦
      let p = there.0 + 1 in
      let within : IsAmongFirst (length issued) p = record { from = omega arith; to = omega (arith, there.1) } in
      let at : there.0 + 1 - 1 ≡ there.0 = omega arith in
      let is : served_at issued p ≡ m = ap (λ j. get_or issued j 0) at ∙ get_or_default issued there.0 0 m there.1 ∙ there.2 in
      let listed : Contains (map (served_at issued) (needs_of issues.joining.needs p)) i
      = subst (λ xs. Contains xs i) (known.told.of_served p within) (subst (λ x. Contains (needs_of needs x) i) (sym is) need.listed) in
      let one = contains_mapped (served_at issued) (needs_of issues.joining.needs p) i listed in
      let place : IsNeed issues.joining.needs one.0 p = record { from = within.from; listed = one.1 } in
      subst (IsNumber work) one.2
      (numbers (served_at issued one.0) (Contains-get_or issued (one.0 - 1) 0
      (omega (arith, known.joined.lists.from one.0 p place, known.joined.lists.earlier one.0 p place, within.to))))
  | inr other ↦
      let number : IsAmongFirst work.count m = record { from = need.from; to = omega (arith, need_within needs i m need, known.told.count) } in
      let none : Contains [] i = subst (λ xs. Contains xs i) (known.told.of_others m number other) need.listed in
      absurd (omega (arith, none.1))
]
