-- At a tick the messages that were taken out start in the order of their numbers, and the tick has been filled.
use Rattle.std.proofs.Common.{◌≡◌, ◌≢◌, ℕ, suc, ◌+◌, ◌-◌, ◌^◌, ◌<◌, ◌≤◌, ◌⊎◌, inl, inr, List, [], ◌∷◌, ◌++◌, length, drop, get_or, set, Contains, arith, refl, ap, sym, ◌∙◌, subst, get_or-set_other}
use Rattle.std.specs.List.Sorted.{IsPermutation, IsNonDecreasingBy}
use Rattle.std.proofs.Math.Seq.{drop-cons}
use Rattle.std.proofs.lemmas.Bool.{cases_eq}
use Rattle.std.proofs.lemmas.List.{append_assoc, drop_all, get_or-drop, get_or_default, length-drop}
use Rattle.std.proofs.lemmas.List.Elements.{All-contains_itself, All-weaker, Contains-append_left, Contains-append_right, Contains-push}
use Rattle.std.proofs.lemmas.List.Sorted.{Contains-permutation, IsPermutation-append_left, IsPermutation-append_right, IsPermutation-sym, IsPermutation-trans}
use Rattle.waff_plan.specs.Awaiting.{AreAwaiting}
use Rattle.waff_plan.specs.Obeys.{AwaitsEarlier}
use Rattle.waff_plan.specs.Timing.{start_of}
use Rattle.waff_plan.specs.Work.{IsNumber, issue_of}
use Rattle.waff_plan.specs.declared.due.TheConstants.{NEVER}
use Rattle.waff_list.specs.Issuing.{AreIssues, AreOpened, AreServed, IsOpened, after_start}
use Rattle.waff_list.specs.Orders.{IsServiceOrder, TakesFirst}
use Rattle.waff_list.specs.Placed.{Placed}
use Rattle.waff_list.specs.Plannable.{IsKept, IsPlannedTo, Plannable}
use Rattle.waff_list.specs.Progress.{IsSmall}
use Rattle.waff_waits.specs.Ready.{AreRanked, ranked_in}
use Rattle.waff_list.specs.Ready.{AreGathered}
use Rattle.waff_waits.specs.Waits.{IsFree, WhoWaits}
use Rattle.waff_waits.specs.Times.{AreEach}
use Rattle.waff_waits.proofs.Each.{contains_map, each_apart, each_moved}
use Rattle.waff_list.proofs.Keeping.{starting_in_order}
use Rattle.waff_list.proofs.Placing.{IsFilling, awaited, filling_after, opens_known, opens_placed}
use Rattle.waff_list.proofs.Starting.{is_ready, starts_filled}
use Rattle.waff_list.proofs.Uniqueness.{AwaitsMessages}

-- where one leaves, all in all are the same
pub parted_more : (old xs ys : List ℕ) (x : ℕ) (rest : List ℕ) → IsPermutation old (xs ++ ys) → IsPermutation ys (x ∷ rest) → IsPermutation old ((xs ++ x ∷ []) ++ rest)
parted_more old xs ys x rest same leaves = subst (λ zs. IsPermutation old zs) (sym (append_assoc xs (x ∷ []) rest))
    (IsPermutation-trans old (xs ++ ys) (xs ++ x ∷ rest) same (IsPermutation-append_right xs ys (x ∷ rest) leaves))

-- the element of a list at an index is in it, and in the rest of it from there on
there_at : (xs : List ℕ) (i d : ℕ) → i < length xs → Contains xs (get_or xs i d)
there_at xs i d inside = (i, inside, get_or_default xs i (get_or xs i d) d inside)

in_rest : (at : ℕ) (xs : List ℕ) (i d : ℕ) → at ≤ i → i < length xs → Contains (drop at xs) (get_or xs i d)
in_rest at xs i d late inside =
    let long : length (drop at xs) ≡ length xs - at = length-drop at xs in
    let place : at + (i - at) ≡ i = omega arith in
    (i - at, omega arith, get_or-drop at xs (i - at) (get_or xs i d) ∙ ap (λ j. get_or xs j (get_or xs i d)) place ∙ get_or_default xs i (get_or xs i d) d inside)

-- the first so many of these messages have been started
pub record IsStartedTo (p : Plannable) (old : List ℕ) (placed : Placed) (finishes : List (ℕ × ℕ)) (idle : List ℕ) (waits : WhoWaits) (issues : List (ℕ × ℕ)) (awaits : WhoWaits)
    (was ranks : List (ℕ × (ℕ × ℕ))) (issued : List ℕ) (needs : List (List ℕ)) (now : ℕ) (messages : List ℕ) (at : ℕ) : Type 0 where
  pub turn : ℕ
  pub on : IsFilling p old placed finishes idle waits (drop at messages ++ ranked_in ranks) issues awaits was issued needs now turn
  pub turns : (i d : ℕ) → at ≤ i → i < length messages → turn ≤ get_or messages i d
  pub begun : (m : ℕ) → IsNumber p.work m → start_of placed.starts m ≡ now → Contains messages m

-- at the beginning none has
pub started_none : (p : Plannable) → IsServiceOrder p.work p.order → AwaitsMessages p.work → (placed : Placed) (finishes : List (ℕ × ℕ)) (idle : List ℕ) (waits : WhoWaits) (issues : List (ℕ × ℕ)) (awaits : WhoWaits)
    (was ranks : List (ℕ × (ℕ × ℕ))) (issued : List ℕ) (needs : List (List ℕ)) (now most : ℕ) (taken messages : List ℕ) → now < NEVER
    → IsPlannedTo p placed now 1 now → AreServed p.work (start_of placed.starts) now issued → AreIssues p.work (start_of placed.starts) now issues → AreAwaiting p.work placed.order awaits
    → IsKept p placed (record { finishes = finishes; idle = idle; waits = waits; ready = ranked_in was }) issued needs now
    → AreRanked p.priority (p.order.key (start_of placed.starts)) was
    → AreGathered was most taken ranks → IsPermutation taken messages
    → IsStartedTo p placed.starts placed finishes idle waits issues awaits was ranks issued needs now messages 0
started_none p order awaited placed finishes idle waits issues awaits was ranks issued needs now most taken messages short planned served known awaiting h ranked gathered sorted =
    let waiting = ranked_in ranks in
    let start = start_of placed.starts in
    let ready : AreEach (IsFree issued waits) (placed.order ++ (messages ++ waiting))
    = each_moved (IsFree issued waits) (placed.order ++ ranked_in was) h.ready (placed.order ++ (messages ++ waiting))
    (IsPermutation-append_right placed.order (ranked_in was) (messages ++ waiting)
    (IsPermutation-trans (ranked_in was) (taken ++ waiting) (messages ++ waiting) gathered.parted (IsPermutation-append_left waiting taken messages sorted))) in
    let on = starting_in_order p order placed (record { finishes = finishes; idle = idle; waits = waits; ready = ranked_in was }) issued needs now 1 (omega arith) served planned h in
    record {
      turn = 1;
      on = record {
        to = omega arith;
        planned = planned;
        served = served;
        known = known;
        awaiting = awaiting;
        kept = record {
          count = h.count;
          knows = h.knows;
          waits = h.waits;
          over = h.over;
          finishes = h.finishes;
          manned = h.manned;
          ready = ready;
        };
        ranked = ranked;
        early = All-weaker (Contains was) (λ (r : ℕ × (ℕ × ℕ)). issue_of p.work start r.1.1 ≤ now)
            (λ (r : ℕ × (ℕ × ℕ)) listed.
            (is_ready p.work p.workers awaited (p.order.before start) (TakesFirst p.priority (p.order.key start)) (order.numbers start) placed finishes now 1 idle (ranked_in was) on r.1.1
            (contains_map (λ (s : ℕ × (ℕ × ℕ)). s.1.1) was r listed)).issued) was (All-contains_itself was);
        stay = λ m number early. refl;
      };
      turns = λ i d late inside.
          let m = get_or messages i d in
          (served.each.only m (ready.only m (Contains-append_right placed.order (messages ++ waiting) m (Contains-append_left messages waiting m (there_at messages i d inside)))).0).0.from;
      begun = λ m number is. absurd (omega (arith, planned.settled.turns m number is, number.from));
    }

module _ (p : Plannable) (order : IsServiceOrder p.work p.order) (follows : AwaitsEarlier p.work) (small : IsSmall p.work)
    (old : List ℕ) (placed : Placed) (finishes : List (ℕ × ℕ)) (idle : List ℕ) (waits : WhoWaits) (issues : List (ℕ × ℕ)) (awaits : WhoWaits) (was ranks : List (ℕ × (ℕ × ℕ)))
    (issued : List ℕ) (needs : List (List ℕ)) (now : ℕ) (messages : List ℕ) (at : ℕ) (h : IsStartedTo p old placed finishes idle waits issues awaits was ranks issued needs now messages at) where
  module _ (inside : at < length messages) where
    abbrev message : ℕ
    message = get_or messages at 0

    abbrev rest : List ℕ
    rest = drop (suc at) messages ++ ranked_in ranks

    -- the next message is the first of those that are left
    split : IsFilling p old placed finishes idle waits (message ∷ rest) issues awaits was issued needs now h.turn
    split = subst (λ xs. IsFilling p old placed finishes idle waits (xs ++ ranked_in ranks) issues awaits was issued needs now h.turn) (drop-cons messages at 0 inside) h.on

    -- it is one of the trace
    pub started_number : IsNumber p.work message
    started_number = (split.served.each.only message (split.kept.ready.only message (Contains-append_right placed.order (message ∷ rest) message (0, omega arith, refl))).0).0

    module _ (short : now + 2 ^ 33 < NEVER) where
      abbrev starts : List ℕ
      starts = set placed.starts (message - 1) now

      -- when it has its start, those that await nothing more have their issues
      pub started_opens : (d : ℕ) → IsOpened awaits message d → IsNumber p.work d × (issue_of p.work (start_of starts) d < NEVER)
      started_opens = opens_known p order follows small old placed finishes idle rest waits issues awaits was issued needs now h.turn message short split

      pub started_placed : (i : ℕ) → IsNumber p.work i → (start_of starts i ≤ now) ⊎ (start_of starts i ≡ NEVER)
      started_placed = opens_placed p order follows small old placed finishes idle rest waits issues awaits was issued needs now h.turn message short split

    -- one more has
    module _ (short : now + 2 ^ 33 < NEVER) (up : IsNonDecreasingBy (λ m. m) messages) (w : ℕ) (free : List ℕ) (popped : IsPermutation idle (w ∷ free)) (smallest : (v : ℕ) → Contains free v → w ≤ v)
        (after : List (ℕ × ℕ)) (pushed : IsPermutation ((now + p.work.cost message, message) ∷ finishes) after)
        (opened new : List (ℕ × ℕ)) (are : AreOpened p.work (start_of (set placed.starts (message - 1) now)) awaits message opened) (told : IsPermutation (opened ++ issues) new) where
      abbrev pub more : Placed
      more = record { starts = set placed.starts (message - 1) now; seats = set placed.seats (message - 1) w; order = placed.order ++ message ∷ [] }

      on_after : IsFilling p old more after free waits rest new (after_start awaits message) was issued needs now (message + 1)
      on_after =
          filling_after p order follows small old placed finishes idle rest waits issues awaits was issued needs now h.turn message short split free w (h.turns at 0 (omega arith) inside)
          popped smallest after pushed opened new are told

      pub started_more : IsStartedTo p old more after free waits new (after_start awaits message) was ranks issued needs now messages (suc at)
      started_more =
          let ready : AreEach (IsFree issued waits) ((placed.order ++ message ∷ []) ++ rest) = on_after.kept.ready in
          record {
            turn = message + 1;
            on = on_after;
            turns = λ i d late within.
                let m = get_or messages i d in
                let no_more = up at i d (omega arith) within in
                let other : message ≢ m = λ again. each_apart (IsFree issued waits) (placed.order ++ message ∷ []) rest ready message
                (Contains-push placed.order message)
                (Contains-append_left (drop (suc at) messages) (ranked_in ranks) message (subst (λ x. Contains (drop (suc at) messages) x) (sym again) (in_rest (suc at) messages i d late within))) in
                omega (arith, no_more, get_or_default messages at d 0 inside, other);
            begun = λ m m_number begins. elim (cases_eq m message) [
              | inl same ↦ rw same (there_at messages at 0 inside)
              | inr other ↦
                  let number = started_number in
                  let apart : m - 1 ≢ message - 1 = omega (arith, m_number.from, number.from, other) in
                  h.begun m m_number (sym (get_or-set_other placed.starts (message - 1) (m - 1) now 0 apart) ∙ begins)
            ];
          }

  -- all have
  module _ (end : length messages ≤ at) where
    pub started_all : IsFilling p old placed finishes idle waits (ranked_in ranks) issues awaits was issued needs now h.turn
    started_all = subst (λ xs. IsFilling p old placed finishes idle waits (xs ++ ranked_in ranks) issues awaits was issued needs now h.turn) (drop_all at messages end) h.on

    module _ (short : now < NEVER) (most : ℕ) (taken : List ℕ) (gathered : AreGathered was most taken ranks) (sorted : IsPermutation taken messages) where
      -- no message that is ready and waits is taken before one that starts at now
      not_before : (m other : ℕ) → Contains (ranked_in ranks) m → IsNumber p.work other → TakesFirst p.priority (p.order.key (start_of placed.starts)) m other → start_of placed.starts other ≢ now
      not_before m other behind number first is =
          let listed = Contains-permutation messages taken other (IsPermutation-sym taken messages sorted) (h.begun other number is) in
          elim (gathered.first p.priority (p.order.key (start_of placed.starts)) h.on.ranked other m listed behind) [
            | inl higher ↦ elim first [
              | inl before ↦ omega (arith, higher, before)
              | inr (level, sooner) ↦ omega (arith, higher, level)
            ]
            | inr (same, later) ↦ elim first [
              | inl before ↦ omega (arith, same, before)
              | inr (level, inl sooner) ↦ elim later [
                | inl less ↦ omega (arith, sooner, less)
                | inr both ↦ omega (arith, sooner, both.0)
              ]
              | inr (level, inr both) ↦ elim later [
                | inl less ↦ omega (arith, both.0, less)
                | inr too ↦ omega (arith, both.1, too.1)
              ]
            ]
          ]

      pub started_filled : (idle ≡ []) ⊎ (ranked_in ranks ≡ []) → IsPlannedTo p placed now (p.work.count + 1) (now + 1)
      started_filled over =
          let all = started_all in
          let on = starting_in_order p order placed (record { finishes = finishes; idle = idle; waits = waits; ready = ranked_in ranks }) issued needs now h.turn all.to all.served all.planned all.kept in
          starts_filled p.work p.workers (awaited p order follows small) (p.order.before (start_of placed.starts)) (TakesFirst p.priority (p.order.key (start_of placed.starts))) (order.numbers (start_of placed.starts))
          placed finishes now h.turn idle (ranked_in ranks) on over not_before
