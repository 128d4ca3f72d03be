-- A message that is ready starts: what is kept stays, and the issues of those that await nothing more become known.
use Rattle.std.proofs.Common.{◌≡◌, ◌≢◌, ℕ, ◌+◌, ◌-◌, ◌^◌, ◌<◌, ◌≤◌, ◌⊎◌, inl, inr, List, [], ◌∷◌, ◌++◌, map, get_or, set, All, Contains, arith, sym, ◌∙◌, ap, subst, get_or-set_same, get_or-set_other}
use Rattle.std.specs.List.Sorted.{IsPermutation}
use Rattle.std.proofs.lemmas.Bool.{cases_eq}
use Rattle.std.proofs.lemmas.List.{append_assoc}
use Rattle.std.proofs.lemmas.List.Elements.{All-contains, All-contains_itself, All-weaker, Contains-get_or}
use Rattle.std.proofs.lemmas.List.Sorted.{IsPermutation-append_left}
use Rattle.waff_plan.specs.Awaiting.{AreAwaiting}
use Rattle.waff_plan.specs.Obeys.{AwaitsEarlier}
use Rattle.waff_plan.specs.Timing.{start_of}
use Rattle.waff_plan.specs.Work.{IsNumber, IsAmongFirst, issue_of}
use Rattle.waff_list.specs.Issuing.{AreIssues, AreOpened, AreServed, IsOpened, after_start}
use Rattle.waff_list.specs.Orders.{IsServiceOrder, TakesFirst}
use Rattle.waff_list.specs.Placed.{Placed}
use Rattle.waff_list.specs.Plannable.{HaveFinishedBy, IsKept, IsPlannedTo, Plannable}
use Rattle.waff_list.specs.Progress.{IsSmall}
use Rattle.waff_waits.specs.Ready.{AreRanked}
use Rattle.waff_waits.specs.Waits.{IsFree, WhoWaits}
use Rattle.waff_list.specs.Seating.{worker_of}
use Rattle.waff_waits.specs.Times.{AreEach}
use Rattle.waff_plan.specs.declared.due.TheConstants.{NEVER}
use Rattle.waff_waits.proofs.Each.{contains_first, each_moved, each_same}
use Rattle.waff_list.proofs.IssuePlans.{awaits_messages, issued_to}
use Rattle.waff_list.proofs.Keeping.{starting_in_order}
use Rattle.waff_list.proofs.Making.{IsMovedTo}
use Rattle.waff_list.proofs.Opening.{StartsNext, awaiting_more, issues_more, opened_known, placed_more}
use Rattle.waff_list.proofs.Orders.{order_alike}
use Rattle.waff_list.proofs.Starting.{IsStartingOf, is_ready, starts_issue, starts_issued, starts_more, unplaced}
use Rattle.waff_list.proofs.Uniqueness.{AwaitsMessages}

-- while messages start at now: the plan has been made up to the message turn, all that are issued by now have been, what is kept is known, and what
-- was placed stays
pub record IsFilling (p : Plannable) (old : List ℕ) (placed : Placed) (finishes : List (ℕ × ℕ)) (idle : List ℕ) (waits : WhoWaits) (ready : List ℕ) (issues : List (ℕ × ℕ))
    (awaits : WhoWaits) (was : List (ℕ × (ℕ × ℕ))) (issued : List ℕ) (needs : List (List ℕ)) (now turn : ℕ) : Type 0 where
  pub to : turn ≤ p.work.count + 1
  pub planned : IsPlannedTo p placed now turn now
  pub served : AreServed p.work (start_of placed.starts) now issued
  pub known : AreIssues p.work (start_of placed.starts) now issues
  pub awaiting : AreAwaiting p.work placed.order awaits
  pub kept : IsKept p placed (record { finishes = finishes; idle = idle; waits = waits; ready = ready }) issued needs now
  pub ranked : AreRanked p.priority (p.order.key (start_of placed.starts)) was
  pub early : All (λ r. issue_of p.work (start_of placed.starts) r.1.1 ≤ now) was
  pub stay : (m : ℕ) → IsNumber p.work m → start_of old m ≤ now → start_of placed.starts m ≡ start_of old m

module _ (p : Plannable) (order : IsServiceOrder p.work p.order) (follows : AwaitsEarlier p.work) (small : IsSmall p.work) where
  pub awaited : AwaitsMessages p.work
  awaited = awaits_messages p.work follows

  -- the workers that are idle, in another order
  idle_moved : (placed : Placed) (finishes : List (ℕ × ℕ)) (idle free : List ℕ) (waits : WhoWaits) (ready : List ℕ) (issued : List ℕ) (needs : List (List ℕ)) (now : ℕ) → IsPermutation idle free
      → IsKept p placed (record { finishes = finishes; idle = idle; waits = waits; ready = ready }) issued needs now
      → IsKept p placed (record { finishes = finishes; idle = free; waits = waits; ready = ready }) issued needs now
  idle_moved placed finishes idle free waits ready issued needs now other h =
      let run = map (λ (r : ℕ × ℕ). worker_of placed.seats r.1) finishes in
      record {
        count = h.count;
        knows = h.knows;
        waits = h.waits;
        over = h.over;
        finishes = h.finishes;
        manned = each_moved (IsAmongFirst p.workers) (idle ++ run) h.manned (free ++ run) (IsPermutation-append_left run idle free other);
        ready = h.ready;
      }

  -- a message is the next to start
  module _ (old : List ℕ) (placed : Placed) (finishes : List (ℕ × ℕ)) (idle waiting : List ℕ) (waits : WhoWaits) (issues : List (ℕ × ℕ)) (awaits : WhoWaits) (was : List (ℕ × (ℕ × ℕ)))
      (issued : List ℕ) (needs : List (List ℕ)) (now turn m : ℕ) (short : now + 2 ^ 33 < NEVER)
      (h : IsFilling p old placed finishes idle waits (m ∷ waiting) issues awaits was issued needs now turn) where
    abbrev start : ℕ → ℕ
    start = start_of placed.starts

    soon : now < NEVER
    soon = omega (arith, short)

    first : IsStartingOf (p.order.before start) (TakesFirst p.priority (p.order.key start)) p.work p.workers placed finishes idle (m ∷ waiting) now turn
    first = starting_in_order p order placed (record { finishes = finishes; idle = idle; waits = waits; ready = m ∷ waiting }) issued needs now turn h.to h.served h.planned h.kept

    pub number : IsNumber p.work m
    number =
        (is_ready p.work p.workers awaited (p.order.before start) (TakesFirst p.priority (p.order.key start)) (order.numbers start) placed finishes now turn idle (m ∷ waiting) first m
        (contains_first m waiting)).number

    cost : 1 ≤ p.work.cost m
    cost = small.some_cost m number

    abbrev starts : List ℕ
    starts = set placed.starts (m - 1) now

    abbrev later : ℕ → ℕ
    later = start_of starts

    moved : IsMovedTo start later m now
    moved = record {
      here = get_or-set_same placed.starts (m - 1) now 0 (omega (arith, number.from, number.to, h.planned.starts_count));
      others = λ i from other.
          let apart : i - 1 ≢ m - 1 = omega (arith, from, number.from, other) in
          get_or-set_other placed.starts (m - 1) (i - 1) now 0 apart;
    }

    never : start m ≡ NEVER
    never =
        let late = unplaced p.work p.workers awaited (p.order.before start) (TakesFirst p.priority (p.order.key start)) (order.numbers start) placed finishes now turn idle (m ∷ waiting) first m
        (contains_first m waiting) in
        elim (h.planned.settled.placed m number) [ inl early ↦ absurd (omega (arith, early, late)) | inr is ↦ is ]

    next : StartsNext p.work start later now m placed.order awaits
    next = record { short = short; number = number; never = never; moved = moved; placed = h.planned.settled.placed; listed = h.planned.listed; awaiting = h.awaiting }

    -- those that await nothing more have their issues
    pub opens_known : (d : ℕ) → IsOpened awaits m d → IsNumber p.work d × (issue_of p.work later d < NEVER)
    opens_known = opened_known p.work follows small start later now m placed.order awaits next

    pub opens_placed : (i : ℕ) → IsNumber p.work i → (later i ≤ now) ⊎ (later i ≡ NEVER)
    opens_placed = placed_more p.work follows small start later now m placed.order awaits next

    -- it starts on the least worker that is idle
    module _ (free : List ℕ) (w : ℕ) (up_to : turn ≤ m) (popped : IsPermutation idle (w ∷ free)) (smallest : (v : ℕ) → Contains free v → w ≤ v) where
      kept : IsKept p placed (record { finishes = finishes; idle = w ∷ free; waits = waits; ready = m ∷ waiting }) issued needs now
      kept = idle_moved placed finishes idle (w ∷ free) waits (m ∷ waiting) issued needs now popped h.kept

      on : IsStartingOf (p.order.before start) (TakesFirst p.priority (p.order.key start)) p.work p.workers placed finishes (w ∷ free) (m ∷ waiting) now turn
      on = starting_in_order p order placed (record { finishes = finishes; idle = w ∷ free; waits = waits; ready = m ∷ waiting }) issued needs now turn h.to h.served h.planned kept

      abbrev pub more : Placed
      more = record { starts = starts; seats = set placed.seats (m - 1) w; order = placed.order ++ m ∷ [] }

      there : (i : ℕ) → issue_of p.work start i ≤ now → issue_of p.work start i ≡ issue_of p.work later i
      there i is = sym (starts_issue p.work p.workers awaited (p.order.before start) (TakesFirst p.priority (p.order.key start)) (order.numbers start) placed finishes now turn free waiting m w on soon cost up_to smallest i is)

      back : (i : ℕ) → issue_of p.work later i ≤ now → issue_of p.work later i ≡ issue_of p.work start i
      back i is = starts_issued p.work p.workers awaited (p.order.before start) (TakesFirst p.priority (p.order.key start)) (order.numbers start) placed finishes now turn free waiting m w on soon cost up_to smallest i is

      served_after : AreServed p.work later now issued
      served_after = record {
        each = each_same (λ x. IsNumber p.work x × (issue_of p.work start x ≤ now)) issued h.served.each (λ x. IsNumber p.work x × (issue_of p.work later x ≤ now))
            (λ x is. (is.0, omega (arith, is.1, there x is.1))) (λ x is. (is.0, omega (arith, is.1, back x is.1)));
        sorted = λ i j d less inside.
            let second = h.served.each.only (get_or issued j d) (Contains-get_or issued j d inside) in
            issued_to p.work start later now there (get_or issued i d) (get_or issued j d) second.1 (h.served.sorted i j d less inside);
      }

      -- those have finished that had
      over_after : HaveFinishedBy p.work later now waits
      over_after = record {
        only = λ i i_number done. elim (cases_eq i m) [
          | inl same ↦
              let was = kept.over.only i i_number done in
              absurd (omega (arith, was, ap start same, never, soon))
          | inr other ↦ omega (arith, kept.over.only i i_number done, moved.others i i_number.from other)
        ];
        each = λ i i_number over. elim (cases_eq i m) [
          | inl same ↦ absurd (omega (arith, over, ap later same, moved.here, ap p.work.cost same, cost))
          | inr other ↦ kept.over.each i i_number (omega (arith, over, moved.others i i_number.from other))
        ];
      }

      early_at : (r : ℕ × (ℕ × ℕ)) → Contains was r → issue_of p.work start r.1.1 ≤ now
      early_at r listed = All-contains (λ (s : ℕ × (ℕ × ℕ)). issue_of p.work start s.1.1 ≤ now) was r h.early listed

      module _ (after : List (ℕ × ℕ)) (pushed : IsPermutation ((now + p.work.cost m, m) ∷ finishes) after) where
        pub filling_after : (opened new : List (ℕ × ℕ)) → AreOpened p.work later awaits m opened → IsPermutation (opened ++ issues) new
            → IsFilling p old more after free waits waiting new (after_start awaits m) was issued needs now (m + 1)
        filling_after opened new are told =
            let on_after = starts_more p.work p.workers awaited (p.order.before start) (TakesFirst p.priority (p.order.key start)) (order.numbers start) placed finishes now turn free waiting m w on soon cost up_to smallest
            (p.order.before later) (TakesFirst p.priority (p.order.key later)) (λ i j pair. (order.numbers later i j pair).1) (order_alike p.work p.order order p.priority start later now there back) after pushed in
            record {
              to = on_after.to;
              planned = on_after.progress;
              served = served_after;
              known = issues_more p.work follows small start later now m placed.order awaits next issues opened new h.known are told;
              awaiting = awaiting_more p.work follows small start later now m placed.order awaits next;
              kept = record {
                count = kept.count;
                knows = kept.knows;
                waits = kept.waits;
                over = over_after;
                finishes = on_after.finishes;
                manned = on_after.manned;
                ready = subst (λ xs. AreEach (IsFree issued waits) xs) (sym (append_assoc placed.order (m ∷ []) waiting)) kept.ready;
              };
              ranked = All-weaker (Contains was) (λ (r : ℕ × (ℕ × ℕ)). (r.0 ≡ p.priority r.1.1) × (r.1.0 ≡ p.order.key later r.1.1))
                  (λ (r : ℕ × (ℕ × ℕ)) listed.
                  let are = All-contains (λ (s : ℕ × (ℕ × ℕ)). (s.0 ≡ p.priority s.1.1) × (s.1.0 ≡ p.order.key start s.1.1)) was r h.ranked listed in
                  (are.0, are.1 ∙ order.keyed start later r.1.1 (there r.1.1 (early_at r listed)))) was (All-contains_itself was);
              early = All-weaker (Contains was) (λ (r : ℕ × (ℕ × ℕ)). issue_of p.work later r.1.1 ≤ now)
                  (λ (r : ℕ × (ℕ × ℕ)) listed. omega (arith, there r.1.1 (early_at r listed), early_at r listed)) was (All-contains_itself was);
              stay = λ i i_number early.
                  let was = h.stay i i_number early in
                  moved.others i i_number.from (λ same. omega (arith, was, early, ap start same, soon, never)) ∙ was;
            }
