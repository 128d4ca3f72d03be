-- The workers of the messages of a plan are one, and so is their order.
use Rattle.std.proofs.Common.{◌≡◌, ◌≢◌, ℕ, zero, suc, ◌<◌, inl, inr, List, [], ◌∷◌, get_or, All, AllPairs, Contains, refl, arith, sym, ◌∙◌, subst}
use Rattle.std.proofs.lemmas.Bool.{cases_lt, cases_eq, cases_order}
use Rattle.waff_plan.specs.Work.{Work, IsNumber}
use Rattle.waff_plan.specs.Unique.{AreSame}
use Rattle.waff_waits.proofs.Each.{none_there, contains_more}
use Rattle.waff_list.specs.Seats.{ComesBefore, HoldsWorker, IsSeated, IsInOrder}
use Rattle.waff_list.specs.Unique.{AreSeated, SeatsAreOne, OrderIsOne}

-- what holds its worker in one plan does so in another with the same starts
holds_in : (work : Work) (start other : ℕ → ℕ) → AreSame work start other → (i m : ℕ) → IsNumber work m → HoldsWorker work start i m
    → HoldsWorker work other i m
holds_in work start other same i m number holds =
    let at_i = same i holds.number in
    let at_m = same m number in
    record { number = holds.number; sooner = rw (at_i, at_m) at holds.sooner; runs = rw (at_i, at_m) at holds.runs }

seated_in : (work : Work) (start other : ℕ → ℕ) → AreSame work start other → (worker : ℕ → ℕ) (m : ℕ) → IsNumber work m
    → IsSeated work start worker m → IsSeated work other worker m
seated_in work start other same worker m number seated =
    let back : AreSame work other start = λ i i_number. sym (same i i_number) in
    record {
      from = seated.from;
      free = λ i holds. seated.free i (holds_in work other start back i m number holds);
      least = λ w w_from less.
          let one = seated.least w w_from less in
          (one.0, holds_in work start other same one.0 m number one.1, one.2);
    }

module _ (work : Work) (start worker other : ℕ → ℕ) (seated : AreSeated work start worker) (other_seated : AreSeated work start other) where
  -- a message has the same worker where those that hold their workers when it starts have
  not_below : (one two : ℕ → ℕ) (m : ℕ) → IsSeated work start one m → IsSeated work start two m
      → ((i : ℕ) → HoldsWorker work start i m → one i ≡ two i) → one m < two m → ⊥
  not_below one two m first second held less =
      let holder = second.least (one m) first.from less in
      first.free holder.0 holder.1 (held holder.0 holder.1 ∙ holder.2)

  seat_from_held : (m : ℕ) → IsNumber work m → ((i : ℕ) → HoldsWorker work start i m → worker i ≡ other i) → worker m ≡ other m
  seat_from_held m number held = elim (cases_order (worker m) (other m)) [
    | inl same ↦ same
    | inr (inl below) ↦ absurd (not_below worker other m (seated m number) (other_seated m number) held below)
    | inr (inr above) ↦ absurd (not_below other worker m (other_seated m number) (seated m number) (λ i holds. sym (held i holds)) above)
  ]

  -- messages that start at t, in the order of their numbers
  seats_at : (t : ℕ) → ((m : ℕ) → IsNumber work m → start m < t → worker m ≡ other m)
      → (n m : ℕ) → IsNumber work m → start m ≡ t → m < n → worker m ≡ other m
  seats_at t sooner zero m number here below = absurd (omega arith)
  seats_at t sooner (suc n) m number here below =
      seat_from_held m number
      (λ i holds. elim holds.sooner [
        | inl earlier ↦ sooner i holds.number (omega arith)
        | inr (same, first) ↦ seats_at t sooner n i holds.number (omega arith) (omega arith)
      ])

  seats_below : (t m : ℕ) → IsNumber work m → start m < t → worker m ≡ other m
  seats_below zero m number below = absurd (omega arith)
  seats_below (suc t) m number below = elim (cases_lt (start m) t) [
    | inl sooner ↦ seats_below t m number sooner
    | inr here ↦ seats_at t (seats_below t) (suc m) m number (omega arith) (omega arith)
  ]

pub seats_are_one : (work : Work) → SeatsAreOne work
seats_are_one work start other worker other_worker same seated other_seated m number =
    let back : AreSame work other start = λ i i_number. sym (same i i_number) in
    seats_below work start worker other_worker seated
    (λ i i_number. seated_in work other start back other_worker i i_number (other_seated i i_number))
    (suc (start m)) m number (omega arith)

-- what is listed in the rest
in_rest : (x : ℕ) (xs : List ℕ) (y : ℕ) → x ≢ y → Contains (x ∷ xs) y → Contains xs y
in_rest x xs y other (zero, within, same) = absurd (other same)
in_rest x xs y other (suc i, within, same) = (i, omega arith, same)

module _ (start : ℕ → ℕ) where
  not_both : (x y : ℕ) → ComesBefore start x y → ComesBefore start y x → ⊥
  not_both x y (inl sooner) (inl later) = omega arith
  not_both x y (inl sooner) (inr (same, first)) = omega arith
  not_both x y (inr (same, first)) (inl later) = omega arith
  not_both x y (inr (same, first)) (inr (equal, last)) = omega arith

  not_itself : (x : ℕ) → ComesBefore start x x → ⊥
  not_itself x before = not_both x x before before

  -- the first of a sorted list comes before what is listed in the rest
  first_before : (x : ℕ) (xs : List ℕ) → AllPairs (ComesBefore start) (x ∷ xs) → (y : ℕ) → Contains xs y → ComesBefore start x y
  first_before x xs sorted y (i, within, same) =
      subst (λ z. ComesBefore start x z) same (sorted zero (suc i) y (omega arith) (omega arith))

  rest_sorted : (x : ℕ) (xs : List ℕ) → AllPairs (ComesBefore start) (x ∷ xs) → AllPairs (ComesBefore start) xs
  rest_sorted x xs sorted i j d less within = sorted (suc i) (suc j) d (omega arith) (omega arith)

  -- sorted lists of the same messages are equal
  same_sorted : (xs ys : List ℕ) → AllPairs (ComesBefore start) xs → AllPairs (ComesBefore start) ys
      → ((x : ℕ) → Contains xs x → Contains ys x) → ((x : ℕ) → Contains ys x → Contains xs x) → xs ≡ ys
  same_sorted [] [] sorted other_sorted to from = refl
  same_sorted [] (y ∷ ys) sorted other_sorted to from = absurd (none_there y (from y (zero, omega arith, refl)))
  same_sorted (x ∷ xs) [] sorted other_sorted to from = absurd (none_there x (to x (zero, omega arith, refl)))
  same_sorted (x ∷ xs) (y ∷ ys) sorted other_sorted to from = elim (cases_eq x y) [
    | inl same ↦
        let rest : xs ≡ ys = same_sorted xs ys (rest_sorted x xs sorted) (rest_sorted y ys other_sorted)
        (λ z has. in_rest y ys z (λ equal. not_itself x (subst (λ w. ComesBefore start x w) (sym (same ∙ equal)) (first_before x xs sorted z has))) (to z (contains_more x z xs has)))
        (λ z has. in_rest x xs z (λ equal. not_itself y (subst (λ w. ComesBefore start y w) (sym (sym same ∙ equal)) (first_before y ys other_sorted z has))) (from z (contains_more y z ys has))) in
        cc
    | inr different ↦
        let x_later = first_before y ys other_sorted x (in_rest y ys x (λ same. different (sym same)) (to x (zero, omega arith, refl))) in
        let y_later = first_before x xs sorted y (in_rest x xs y different (from y (zero, omega arith, refl))) in
        absurd (not_both x y y_later x_later)
  ]

sorted_in : (work : Work) (start other : ℕ → ℕ) → AreSame work start other → (order : List ℕ) → All (IsNumber work) order
    → AllPairs (ComesBefore start) order → AllPairs (ComesBefore other) order
sorted_in work start other same order numbers sorted i j d less within =
    rw (same (get_or order i d) (numbers i d (omega arith)), same (get_or order j d) (numbers j d within)) at (sorted i j d less within)

listed_too : (work : Work) (start other : ℕ → ℕ) (order others : List ℕ) → IsInOrder work start order → IsInOrder work other others
    → (x : ℕ) → Contains order x → Contains others x
listed_too work start other order others first second x (i, within, same) =
    second.each x (subst (IsNumber work) same (first.messages i x within))

pub order_is_one : (work : Work) → OrderIsOne work
order_is_one work start other order others same first second =
    same_sorted other order others (sorted_in work start other same order first.messages first.sorted) second.sorted
    (listed_too work start other order others first second) (listed_too work other start others order second first)
