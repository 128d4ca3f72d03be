-- A list plan in any order of service while it is made: which messages are ready, and when it is made.
use Rattle.std.proofs.Common.{◌≡◌, ℕ, zero, suc, ◌+◌, ◌-◌, ◌<◌, ◌≤◌, ◌⊎◌, inl, inr, List, ◌++◌, length, get_or, arith, ◌∙◌, ap}
use Rattle.std.proofs.lemmas.Bool.{cases_lt}
use Rattle.std.proofs.lemmas.List.{get_or_default}
use Rattle.std.proofs.lemmas.List.Elements.{All-contains}
use Rattle.waff_model.specs.declared.limits.TheConstants.{MAX_RELEASE, MAX_THINK, MAX_TICK}
use Rattle.waff_assign.specs.Order.{Relation}
use Rattle.waff_order.specs.Needs.{IsNeed}
use Rattle.waff_plan.specs.Obeys.{AwaitsEarlier}
use Rattle.waff_plan.specs.Timing.{start_of}
use Rattle.waff_plan.specs.Work.{IsNumber, finish_of, issue_of}
use Rattle.waff_plan.proofs.Holding.{issued_by}
use Rattle.waff_list.specs.Issuing.{AreServed, IsLastEvent}
use Rattle.waff_list.specs.ListRule.{IsReady}
use Rattle.waff_list.specs.Orders.{AreNeedsIn, IsServiceOrder, TakesFirst}
use Rattle.waff_list.specs.Placed.{Pending, Placed}
use Rattle.waff_list.specs.Plannable.{IsKept, IsMade, IsPlannedTo, Plannable}
use Rattle.waff_list.specs.Progress.{IsSettled, IsSmall}
use Rattle.waff_waits.specs.Waits.{IsFree}
use Rattle.waff_list.specs.Seating.{worker_of}
use Rattle.waff_list.specs.Waiting.{AreFinishes}
use Rattle.waff_plan.specs.declared.due.TheConstants.{NEVER}
use Rattle.waff_waits.proofs.Waiting.{free_over, over_free}
use Rattle.waff_waits.proofs.Each.{each_same, each_there}
use Rattle.waff_list.proofs.IssuePlans.{awaits_messages}
use Rattle.waff_list.proofs.Making.{settled_all, settled_plan}
use Rattle.waff_list.proofs.Orders.{needs_tell}
use Rattle.waff_list.proofs.Starting.{IsStartingOf}

module _ (p : Plannable) (order : IsServiceOrder p.work p.order) where
  module _ (placed : Placed) (pending : Pending) (issued : List ℕ) (needs : List (List ℕ)) (now turn end : ℕ)
      (served : AreServed p.work (start_of placed.starts) now issued) (progress : IsPlannedTo p placed now turn end)
      (h : IsKept p placed pending issued needs now) where
    abbrev start : ℕ → ℕ
    start = start_of placed.starts

    abbrev before : Relation
    before = p.order.before start

    are : AreNeedsIn before issued needs
    are = order.serves start now issued needs served h.knows

    need_number : (i j : ℕ) → IsNeed needs i j → IsNumber p.work i
    need_number i j need = (order.numbers start i j (are.sound i j need)).0

    ready_if_up : (m : ℕ) → IsFree issued pending.waits m → IsReady before p.work start now m
    ready_if_up m (there, none) =
        let is = served.each.only m there in
        let number = is.0 in
        record {
          number = number;
          issued = is.1;
          free = (needs_tell before p.work issued needs are start now progress.settled.ordered m there).0
              (λ i need. h.over.only i (need_number i m need)
              (free_over issued needs pending.waits h.waits m number.from there (λ k its. (need_number k m its).from) none i need));
        }

    up_if_ready : (m : ℕ) → IsReady before p.work start now m → IsFree issued pending.waits m
    up_if_ready m ready =
        let number = ready.number in
        let there = each_there (λ x. IsNumber p.work x × (issue_of p.work start x ≤ now)) issued served.each m (number, ready.issued) in
        let over = (needs_tell before p.work issued needs are start now progress.settled.ordered m there).1 ready.free in
        (there, over_free issued needs pending.waits h.waits m number.from there (λ i need. h.over.each i (need_number i m need) (over i need)))

  -- those that are issued and wait for none are ready
  pub starting_in_order : (placed : Placed) (pending : Pending) (issued : List ℕ) (needs : List (List ℕ)) (now turn : ℕ)
      → turn ≤ p.work.count + 1 → AreServed p.work (start_of placed.starts) now issued → IsPlannedTo p placed now turn now
      → IsKept p placed pending issued needs now
      → IsStartingOf (p.order.before (start_of placed.starts)) (TakesFirst p.priority (p.order.key (start_of placed.starts))) p.work p.workers placed pending.finishes pending.idle pending.ready now turn
  starting_in_order placed pending issued needs now turn to served progress h = record {
    to = to;
    progress = progress;
    finishes = h.finishes;
    manned = h.manned;
    ready = each_same (IsFree issued pending.waits) (placed.order ++ pending.ready) h.ready
        (IsReady (p.order.before (start_of placed.starts)) p.work (start_of placed.starts) now)
        (ready_if_up placed pending issued needs now turn now served progress h)
        (up_if_ready placed pending issued needs now turn now served progress h);
  }

  -- where no message finishes after now, and the issue of none that is not issued is known, all are issued and placed
  module _ (follows : AwaitsEarlier p.work) (start worker : ℕ → ℕ) (now : ℕ) (some : 1 ≤ p.workers) (early : now + MAX_RELEASE + MAX_THINK < NEVER) (small : IsSmall p.work)
      (finishes : (m : ℕ) → IsNumber p.work m → start m ≤ now → finish_of p.work start m ≤ now)
      (issues : (m : ℕ) → IsNumber p.work m → (issue_of p.work start m ≤ now) ⊎ (NEVER ≤ issue_of p.work start m))
      (h : IsSettled (p.order.before start) (TakesFirst p.priority (p.order.key start)) p.work p.workers start worker now (p.work.count + 1) (now + 1)) where
    placed_if_issued : (m : ℕ) → IsNumber p.work m → issue_of p.work start m ≤ now → start m ≤ now
    placed_if_issued =
        settled_all (p.order.before start) (TakesFirst p.priority (p.order.key start)) p.work p.workers (order.numbers start) (awaits_messages p.work follows)
        start worker now some (omega (arith, early)) finishes
        (record { place = order.place start; to = order.to start; second = λ i j pair. (order.numbers start i j pair).1; earlier = order.earlier start })
        (λ i m pair issued. elim (issues i (order.numbers start i m pair).0) [
          | inl is ↦ is
          | inr never ↦ let known = order.known start i m pair (omega (arith, issued, early)) in absurd (omega (arith, never, known))
        ]) h

    all_issued : (bound m : ℕ) → m < bound → IsNumber p.work m → issue_of p.work start m ≤ now
    all_issued zero m less number = absurd (omega arith)
    all_issued (suc bound) m less number = elim (issues m number) [
      | inl issued ↦ issued
      | inr never ↦
          let soon = issued_by (finish_of p.work start) (p.work.floor m) (now + MAX_RELEASE + MAX_THINK) (p.work.awaits m) (omega (arith, small.floor m number))
          (λ i is.
          let earlier = follows i m is in
          let i_number : IsNumber p.work i = record { from = earlier.from; to = omega (arith, earlier.earlier, earlier.to) } in
          let issued = all_issued bound i (omega (arith, less, earlier.earlier)) i_number in
          omega (arith, finishes i i_number (placed_if_issued i i_number issued), small.gap i m number)) in
          absurd (omega (arith, never, soon, early))
    ]

    pub all_placed : (m : ℕ) → IsNumber p.work m → start m ≤ now
    all_placed m number = placed_if_issued m number (all_issued (suc m) m (omega arith) number)

  pub made_in_order : AwaitsEarlier p.work → (placed : Placed) (now : ℕ) → 1 ≤ p.workers → now ≤ MAX_TICK → IsSmall p.work → IsPlannedTo p placed now (p.work.count + 1) (now + 1)
      → (finishes : List (ℕ × ℕ)) → AreFinishes p.work (start_of placed.starts) now finishes → IsLastEvent p.work (start_of placed.starts) finishes now
      → IsMade p placed
  made_in_order follows placed now some early small h finishes running last =
      let start = start_of placed.starts in
      let seats = placed.seats in
      let done : (m : ℕ) → IsNumber p.work m → start m ≤ now → finish_of p.work start m ≤ now = λ m number begun. elim (cases_lt now (finish_of p.work start m)) [
        | inl late ↦ absurd (omega (arith, early, begun, small.cost m number, All-contains (λ (r : ℕ × ℕ). NEVER ≤ r.0) finishes (finish_of p.work start m, m) last.none (running.each m number begun late)))
        | inr is ↦ is
      ] in
      let all : (m : ℕ) → IsNumber p.work m → start m ≤ now
      = all_placed follows start (worker_of seats) now some (omega (arith, early)) small done last.issues h.settled in
      let number_at : (i : ℕ) → i < p.work.count → IsNumber p.work (i + 1) = λ i inside. record { from = omega arith; to = omega arith } in
      let at : (i : ℕ) → i ≡ i + 1 - 1 = λ i. omega arith in
      let read : (xs : List ℕ) (i d : ℕ) → i < length xs → get_or xs i d ≡ get_or xs (i + 1 - 1) 0
      = λ xs i d inside. get_or_default xs i d 0 inside ∙ ap (λ v. get_or xs v 0) (at i) in
      record {
        starts_count = h.starts_count;
        seats_count = h.seats_count;
        printable = λ i d inside. omega (arith, read placed.starts i d inside, all (i + 1) (number_at i (omega (arith, h.starts_count))), early);
        plan = settled_plan (p.order.before start) (TakesFirst p.priority (p.order.key start)) p.work p.workers (order.numbers start) (awaits_messages p.work follows) start (worker_of seats) now all h.settled;
        seated = λ m number. h.settled.seated m number (all m number);
        known = λ i d inside.
            let number = number_at i (omega (arith, h.seats_count)) in
            rw (read seats i d inside) (record { from = (h.settled.seated (i + 1) number (all (i + 1) number)).from; to = h.settled.within (i + 1) number (all (i + 1) number) });
        listed = record {
          messages = λ i d inside. (h.listed.messages i d inside).0;
          each = λ m number. h.listed.each m number (all m number);
          sorted = h.listed.sorted;
        };
      }
