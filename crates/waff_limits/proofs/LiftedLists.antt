-- The lifts of a trace, message by message.
use Rattle.std.proofs.Common.{◌≡◌, ℕ, ◌+◌, ◌-◌, ◌<◌, ◌≤◌, ◌⊎◌, inl, inr, List, [], ◌∷◌, ◌++◌, length, All, Contains, Some, slice_get, arith, refl, sym, ◌∙◌, ap, subst}
use Rattle.std.specs.List.{AllPairs}
use Rattle.std.proofs.lemmas.Bool.{cases_eq}
use Rattle.std.proofs.lemmas.List.{length_push}
use Rattle.std.proofs.lemmas.List.Elements.{All-contains, All-push, Contains-append_left, Contains-append_right}
use Rattle.std.proofs.lemmas.List.Quantifiers.{all_pairs_push}
use Rattle.std.proofs.lemmas.Option.{get_or_from_slice_get, same_Some}
use Rattle.waff_model.specs.Cells.{cells_of}
use Rattle.waff_model.specs.Layout.{Hierarchy}
use Rattle.waff_model.specs.Numbers.{IsAmongFirst}
use Rattle.waff_model.specs.Unique.{AtMostOne}
use Rattle.waff_model.specs.declared.cell.Cell.{Cell}
use Rattle.waff_model.specs.declared.message.Message.{Message}
use Rattle.waff_assign.specs.Lowest.{IsUnlockedAmong}
use Rattle.waff_assign.specs.Order.{affinity_of}
use Rattle.waff_plan.specs.Timetable.{message_of, no_message}
use Rattle.waff_figures.proofs.Lists.{same_order}
use Rattle.waff_limits.specs.Lifted.{AreLifting, AreLifts, IsHighIn, IsLift, IsTold, IsUsedBy, RunsHigh}
use Rattle.waff_limits.specs.declared.lifted.Lift.{Lift}
use Rattle.waff_limits.proofs.LiftLemmas.{lifting_is_one}
use Rattle.waff_assign.specs.Held.{Held}

abbrev Comes : Lift → Lift → Type 0
Comes one other = one.message < other.message

module _ (layout : Hierarchy) (messages : List Message) (assigned : List Held) where
  -- the lifts of the messages before message n
  pub record AreBefore (n : ℕ) (lifts : List Lift) : Type 0 where
    pub each : All (IsLift layout messages assigned) lifts
    pub all : (m : ℕ) → m < n → RunsHigh layout.tree messages assigned m → (lift : Lift) × Contains lifts lift × (lift.message ≡ m)
    pub order : AllPairs (λ (one : Lift) (other : Lift). one.message < other.message) lifts
    pub few : All (λ (lift : Lift). lift.message < n) lifts
    pub count : length lifts ≤ n - 1
    pub told : All (IsTold layout.spaces (length messages)) lifts

  module _ (n : ℕ) (from : 1 ≤ n) (lifts : List Lift) (are : AreBefore n lifts) where
    earlier_or : (m : ℕ) → m < n + 1 → (m < n) ⊎ (m ≡ n)
    earlier_or m low = elim (cases_eq m n) [
      | inl same ↦ inr same
      | inr other ↦ inl (omega (arith, low, other))
    ]

    wider : All (λ (lift : Lift). lift.message < n + 1) lifts
    wider k d low = let few = are.few k d low in omega (arith, few)

    -- with message n, which runs high
    pub lift_more : (lift : Lift) → lift.message ≡ n → IsTold layout.spaces (length messages) lift → IsLift layout messages assigned lift
        → AreBefore (n + 1) (lifts ++ lift ∷ [])
    lift_more lift is known told = record {
      each = All-push (IsLift layout messages assigned) lifts lift are.each told;
      all = λ m low high. elim (earlier_or m low) [
        | inl earlier ↦ let (found, there, same) = are.all m earlier high in (found, Contains-append_left lifts (lift ∷ []) found there, same)
        | inr same ↦ (lift, Contains-append_right lifts (lift ∷ []) lift (0, omega arith, refl), is ∙ sym same)
      ];
      order = all_pairs_push Comes lifts lift are.order (λ k d low. let few = are.few k d low in omega (arith, few, is));
      few = All-push (λ (l : Lift). l.message < n + 1) lifts lift wider (omega (arith, is));
      count = let long = length_push lifts lift in omega (arith, long, are.count, from);
      told = All-push (IsTold layout.spaces (length messages)) lifts lift are.told known;
    }

    -- with message n, which is not
    pub no_lift_more : ¬ RunsHigh layout.tree messages assigned n → AreBefore (n + 1) lifts
    no_lift_more not = record {
      each = are.each;
      all = λ m low high. elim (earlier_or m low) [
        | inl earlier ↦ are.all m earlier high
        | inr same ↦ absurd (not (subst (RunsHigh layout.tree messages assigned) same high))
      ];
      order = are.order;
      few = wider;
      count = omega (arith, are.count);
      told = are.told;
    }

  -- of one message one thing is told
  same_lift : (one other : Lift) → one.message ≡ other.message → one.cost ≡ other.cost → one.cell ≡ other.cell → one.other ≡ other.other → one ≡ other
  same_lift one other message cost cell another =
      let made : ℕ → ℕ → Cell → Cell → Lift = λ m c x y. record { message = m; cost = c; cell = x; other = y } in
      ap (λ m. made m one.cost one.cell one.other) message ∙ ap (λ c. made other.message c one.cell one.other) cost
      ∙ ap (λ x. made other.message other.cost x one.other) cell ∙ ap (made other.message other.cost other.cell) another

  lift_is_one : (one other : Lift) → one.message ≡ other.message → IsLift layout messages assigned one → IsLift layout messages assigned other → one ≡ other
  lift_is_one one other same p q =
      let n = other.message in
      let affinities : p.affinity ≡ q.affinity = same_Some p.affinity q.affinity (sym p.high.affinity ∙ ap (affinity_of assigned) same ∙ q.high.affinity) in
      let cells = lifting_is_one layout (IsUsedBy layout messages n) q.affinity one.cell one.other other.cell other.other
      (subst (λ m. AreLifting layout (IsUsedBy layout messages m) q.affinity one.cell one.other) same
      (subst (λ a. AreLifting layout (IsUsedBy layout messages one.message) a one.cell one.other) affinities p.cells)) q.cells in
      same_lift one other same (p.cost ∙ ap (λ m. (message_of messages m).cost) same ∙ sym q.cost) cells.0 cells.1

  is_high : (lift : Lift) → IsLift layout messages assigned lift → RunsHigh layout.tree messages assigned lift.message
  is_high lift is = record { number = is.number; high = (is.affinity, is.high) }

  one_way : (one other : Lift) → Comes one other → Comes other one → ⊥
  one_way one other less more = omega (arith, less, more)

  pub lifts_are_one : AtMostOne (AreLifts layout messages assigned)
  lifts_are_one lifts other are other_are =
      let into : (xs ys : List Lift) → AreLifts layout messages assigned xs → AreLifts layout messages assigned ys → (l : Lift) → Contains xs l → Contains ys l
      = λ xs ys p q l there.
      let is = All-contains (IsLift layout messages assigned) xs l p.each there in
      let (found, has, same) = q.all l.message (is_high l is) in
      let told = All-contains (IsLift layout messages assigned) ys found q.each has in
      subst (Contains ys) (lift_is_one found l same told is) has in
      same_order Comes one_way lifts other are.order other_are.order (into lifts other are other_are) (into other lifts other_are are)

-- what is told of message n, which is this one
module _ (layout : Hierarchy) (messages : List Message) (assigned : List Held) (n : ℕ) (message : Message) (is : slice_get messages (n - 1) ≡ Some message) where
  same_message : message_of messages n ≡ message
  same_message = get_or_from_slice_get messages (n - 1) message no_message is

  pub is_lift : (cell other : Cell) (a : ℕ) → IsAmongFirst (length messages) n → IsHighIn layout.tree assigned n a
      → AreLifting layout (IsUnlockedAmong layout (cells_of message.ops)) a cell other
      → IsLift layout messages assigned (record { message = n; cost = message.cost; cell = cell; other = other })
  is_lift cell other a number high lifting = record {
    number = number;
    cost = ap (λ (m : Message). m.cost) (sym same_message);
    affinity = a;
    high = high;
    cells = subst (λ (m : Message). AreLifting layout (IsUnlockedAmong layout (cells_of m.ops)) a cell other) (sym same_message) lifting;
  }
