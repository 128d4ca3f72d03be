-- What is issued has entered or is due, and what has entered has its place: kept by each event of a run.
use Rattle.std.proofs.Common.{◌≡◌, ℕ, ◌+◌, ◌-◌, ◌<◌, ◌≤◌, ◌⊎◌, inl, inr, true, false, List, [], ◌∷◌, ◌++◌, length, map, set, get_or, Contains, refl, ap, sym, ◌∙◌, subst, arith}
use Rattle.std.specs.List.{range_with_len}
use Rattle.std.proofs.lemmas.Bool.{cases_Bool, cases_lt, false≢true}
use Rattle.std.proofs.lemmas.List.{get_or_append_left, get_or_push, length_push, map-append}
use Rattle.std.proofs.lemmas.List.FromFn.{get_or-range_with_len, length-range_with_len}
use Rattle.std.proofs.lemmas.List.Elements.{Contains-append_cases, Contains-append_left, Contains-append_right, Contains-get_or, Contains-push}
use Rattle.std.proofs.lemmas.List.Sorted.{Contains-permutation, IsPermutation-map, IsPermutation-sym}
use Rattle.waff_model.specs.Versions.{has_clients}
use Rattle.waff_model.specs.declared.message.Version.{Version}
use Rattle.waff_waits.specs.Times.{times}
use Rattle.waff_waits.specs.Waits.{IsFree, WhoWaits, waiting_for}
use Rattle.waff_waits.proofs.Each.{contains_first, contains_map, contains_mapped, contains_more, contains_rest_of, each_there, one_of, times_append, times_listed}
use Rattle.waff_waits.proofs.TimesLemmas.{times_none, times_some}
use Rattle.waff_plan.specs.Due.{LeavesDue}
use Rattle.waff_plan.specs.Work.{IsAmongFirst}
use Rattle.waff_plan.proofs.AwaitingLemmas.{range_there}
use Rattle.waff_plan.proofs.FollowLemmas.{none_awaited}
use Rattle.waff_line.specs.Entered.{AreDue, ArePlaced, IsDueAtIssue, IsThere}
use Rattle.waff_line.specs.Lined.{AreFirstDue, AreOpened, IsAwaiting, issue_noted}
use Rattle.waff_line.specs.Machine.{Course, IsCourse, State, Turn, HasCome, HasEnded, IsIssued, IsRunning, MayBegin, begun_on, ended_at, issue_in, measured, opening, start_in, told, turn_of}
use Rattle.waff_line.proofs.Issuing.{issue_kept}
use Rattle.waff_line.proofs.Lining.{times_moved}
use Rattle.waff_line.proofs.Opening.{Opens, issued_or_opens, noted_issue, opens_awaits, opens_issued, opens_number}
use Rattle.waff_line.proofs.Queueing.{alone, issue_alone}
use Rattle.waff_line.proofs.Sound.{Sound, begun_same, ended_same, none_issued, runs_on}
use Rattle.waff_line.proofs.Turns.{none_ended}

abbrev name : ℕ × ℕ → ℕ
name r = r.1

names_of : (issue : ℕ → ℕ) (xs : List ℕ) → map name (map (λ n. (issue n, n)) xs) ≡ xs
names_of issue [] = refl
names_of issue (x ∷ xs) = ap (λ ys. x ∷ ys) (names_of issue xs)

module _ (course : Course) (s : State) (entered : List ℕ) (due : List (ℕ × ℕ)) (h : AreDue course s entered due) where
  -- what is due where what has ended keeps its turn, and what is issued from now on is due
  module _ (t : State) (same : (f : ℕ) → HasEnded s f → turn_of t f ≡ turn_of s f) (clock : s.clock ≤ t.clock) where
    still_issued : (i : ℕ) → IsIssued course s i → IsIssued course t i
    still_issued i issued f awaited = let ended = issued f awaited in ap (λ (turn : Turn). turn.ended) (same f ended) ∙ ended

    pub due_still : (later : List (ℕ × ℕ))
        → ((i : ℕ) → IsAmongFirst course.work.count i → IsIssued course t i → IsIssued course s i ⊎ Contains later (issue_in course t i, i))
        → ((r : ℕ × ℕ) → Contains later r → Contains due r ⊎ IsDueAtIssue course t r)
        → ((r : ℕ × ℕ) → Contains due r → Contains later r)
        → ((i : ℕ) → times i (entered ++ map (λ r. r.1) later) ≤ 1) → AreDue course t entered later
    due_still later new old kept once = record {
      known = λ i number issued. elim (new i number issued) [
        | inr there ↦ inr there
        | inl was ↦ elim (h.known i number was) [
          | inl there ↦ inl there
          | inr there ↦ inr (subst (λ k. Contains later (k, i)) (sym (issue_kept course s t same i was)) (kept (issue_in course s i, i) there))
        ]
      ];
      each = λ r there. elim (old r there) [
        | inr is ↦ is
        | inl was ↦
            let is = h.each r was in
            record { number = is.number; issued = still_issued r.1 is.issued; issue = issue_kept course s t same r.1 is.issued ∙ is.issue }
      ];
      come = λ i there.
          let is = h.come i there in
          record {
            number = is.number;
            issued = still_issued i is.issued;
            come = omega (arith, is.come, issue_kept course s t same i is.issued, clock);
          };
      once = once;
    }

  -- the machine is told the time
  pub due_told : (now : ℕ) → AreDue course (told s now) entered due
  due_told now = due_still (told s now) (λ f ended. refl) (omega arith) due (λ i number issued. inl issued) (λ r there. inl there) (λ r there. there) h.once

  -- a message begins
  pub due_begun : (x m : ℕ) → Sound course s → MayBegin course s x m → AreDue course (begun_on s x m) entered due
  due_begun x m sound may =
      due_still (begun_on s x m) (begun_same course s x m sound may) (omega arith) due (λ i number issued. inl (none_issued course s x m sound may i issued))
      (λ r there. inl there) (λ r there. there) h.once

  -- a message ends, and those that open are due
  module _ (is : IsCourse course) (m now : ℕ) (sound : Sound course s) (running : IsRunning s m) (w after : WhoWaits) (awaiting : IsAwaiting course.work s w)
      (gone : after ≡ record { awaited = set w.awaited (m - 1) []; finished = set w.finished (m - 1) true }) (later : List (ℕ × ℕ))
      (h_due : AreOpened (issue_noted course.work (ended_at s m now)) (Opens course is s m now sound running w after awaiting gone) due later) where
    abbrev t : State
    t = ended_at s m now

    abbrev entry : ℕ → ℕ × ℕ
    entry d = (issue_noted course.work t d, d)

    abbrev entries : List (ℕ × ℕ)
    entries = map entry h_due.opened

    -- what opens was not issued before
    not_before : (d : ℕ) → IsFree (waiting_for w m) after d → IsIssued course s d → ⊥
    not_before d opens issued = runs_on s m running (issued m (opens_awaits course is s m now sound running w after awaiting gone d opens))

    sum : (i : ℕ) → times i (entered ++ map name later) ≡ times i entered + (times i h_due.opened + times i (map name due))
    sum i =
        let parted = map-append name entries due ∙ ap (λ xs. xs ++ map name due) (names_of (issue_noted course.work t) h_due.opened) in
        let moved = times_moved i (map name (entries ++ due)) (map name later) (IsPermutation-map name (entries ++ due) later h_due.due) in
        omega (arith, times_append i entered (map name later), moved, ap (times i) parted, times_append i h_due.opened (map name due))

    once_more : (i : ℕ) → times i (entered ++ map name later) ≤ 1
    once_more i =
        let was = h.once i in
        let before = times_append i entered (map name due) in
        elim (cases_lt 0 (times i h_due.opened)) [
          | inr none ↦ omega (arith, sum i, was, before, none)
          | inl some ↦
              let opens = h_due.each.only i (times_listed i h_due.opened (omega (arith, some))) in
              let no_entered = times_none i entered (λ there. not_before i opens (h.come i there).issued) in
              let no_due = times_none i (map name due) (λ there.
              let one = contains_mapped name due i there in
              not_before i opens (subst (IsIssued course s) one.2 (h.each one.0 one.1).issued)) in
              omega (arith, sum i, no_entered, no_due, h_due.each.each i opens)
        ]

    pub due_ended : AreDue course t entered later
    due_ended =
        due_still t (ended_same course is s m now sound running) (omega arith) later
        (λ i number issued. elim (issued_or_opens course is s m now sound running w after awaiting gone i number issued) [
          | inl was ↦ inl was
          | inr free ↦
              let there = each_there (IsFree (waiting_for w m) after) h_due.opened h_due.each i free in
              inr (subst (λ k. Contains later (k, i)) (sym (noted_issue course is s m now sound running w after awaiting gone i issued))
              (Contains-permutation (entries ++ due) later (entry i) h_due.due (Contains-append_left entries due (entry i) (contains_map entry h_due.opened i there))))
        ])
        (λ r there. elim (Contains-append_cases entries due r (Contains-permutation later (entries ++ due) r (IsPermutation-sym (entries ++ due) later h_due.due) there)) [
          | inr was ↦ inl was
          | inl new ↦
              let one = contains_mapped entry h_due.opened r new in
              let opens = h_due.each.only one.0 one.1 in
              let issued = opens_issued course is s m now sound running w after awaiting gone one.0 opens in
              inr (subst (λ x. IsDueAtIssue course t x) one.2 (record {
                number = opens_number course is s m now sound running w after awaiting gone one.0 opens;
                issued = issued;
                issue = noted_issue course is s m now sound running w after awaiting gone one.0 issued;
              }))
        ])
        (λ r there. Contains-permutation (entries ++ due) later r h_due.due (Contains-append_right entries due r there)) once_more

  -- the first of those that are due enters
  module _ (r : ℕ × ℕ) (rest : List (ℕ × ℕ)) (leaves : LeavesDue due r rest) where
    was_due : (x : ℕ × ℕ) → Contains (r ∷ rest) x → Contains due x
    was_due x there = Contains-permutation (r ∷ rest) due x (IsPermutation-sym due (r ∷ rest) leaves.rest) there

    pub it_is : IsDueAtIssue course s r
    it_is = h.each r (was_due r (contains_first r rest))

    pub it_is_new : Contains entered r.1 → ⊥
    it_is_new there =
        let also = times_some r.1 (map name due) (contains_map name due r (was_due r (contains_first r rest))) in
        omega (arith, h.once r.1, times_append r.1 entered (map name due), times_some r.1 entered there, also)

    pub due_joined : HasCome course.version r.0 s.clock → AreDue course s (entered ++ r.1 ∷ []) rest
    due_joined come = record {
      known = λ i number issued. elim (h.known i number issued) [
        | inl there ↦ inl (Contains-append_left entered (r.1 ∷ []) i there)
        | inr there ↦
            elim (contains_rest_of r (issue_in course s i, i) rest (Contains-permutation due (r ∷ rest) (issue_in course s i, i) leaves.rest there)) [
              | inl still ↦ inr still
              | inr is ↦ inl (subst (Contains (entered ++ r.1 ∷ [])) (ap name (sym is)) (Contains-push entered r.1))
            ]
      ];
      each = λ x there. h.each x (was_due x (contains_more r x rest there));
      come = λ i there. elim (one_of entered r.1 i there) [
        | inl was ↦ h.come i was
        | inr same ↦
            let is = it_is in
            subst (IsThere course s) (sym same) (record { number = is.number; issued = is.issued; come = omega (arith, come, is.issue) })
      ];
      once = λ i.
          let moved : times i (r.1 ∷ map name rest) ≡ times i (map name due)
          = times_moved i (map name due) (map name (r ∷ rest)) (IsPermutation-map name due (r ∷ rest) leaves.rest) in
          let parted : times i (r.1 ∷ map name rest) ≡ times i (r.1 ∷ []) + times i (map name rest) = times_append i (r.1 ∷ []) (map name rest) in
          omega (
            arith,
            h.once i,
            times_append i entered (map name due),
            moved,
            parted,
            times_append i (entered ++ r.1 ∷ []) (map name rest),
            times_append i entered (r.1 ∷ []),
          );
    }

-- those that have joined the order have a place each
module _ (version : Version) (count : ℕ) (messages entered : List ℕ) (h : ArePlaced version count messages entered) (m : ℕ) (new : Contains entered m → ⊥) where
  -- by issue one more does
  pub placed_last : has_clients version ≡ true → ArePlaced version count (messages ++ m ∷ []) (entered ++ m ∷ [])
  placed_last has = record {
    apart = λ p q less within same.
        let long = length_push messages m in
        elim (cases_lt q (length messages)) [
          | inl inside ↦
              h.apart p q less inside
              (sym (get_or_append_left messages (m ∷ []) 0 p (omega (arith, less, inside))) ∙ same ∙ get_or_append_left messages (m ∷ []) 0 q inside)
          | inr last ↦
              let inside : p < length messages = omega (arith, less, within, long) in
              let is = sym (get_or_append_left messages (m ∷ []) 0 p inside) ∙ same ∙ get_or_push messages m 0 q (omega (arith, last, within, long)) in
              new (h.by_issue has m (subst (Contains messages) is (Contains-get_or messages p 0 inside)))
        ];
    there = λ i there. elim (one_of entered m i there) [
      | inl was ↦ Contains-append_left messages (m ∷ []) i (h.there i was)
      | inr same ↦ subst (Contains (messages ++ m ∷ [])) (sym same) (Contains-push messages m)
    ];
    by_issue = λ _ i there. elim (one_of messages m i there) [
      | inl was ↦ Contains-append_left entered (m ∷ []) i (h.by_issue has i was)
      | inr same ↦ subst (Contains (entered ++ m ∷ [])) (sym same) (Contains-push entered m)
    ];
    by_number = λ none. absurd (false≢true (sym none ∙ has));
  }

  -- by number it has had it before
  pub placed_same : has_clients version ≡ false → IsAmongFirst count m → ArePlaced version count messages (entered ++ m ∷ [])
  placed_same none number = record {
    apart = h.apart;
    there = λ i there. elim (one_of entered m i there) [
      | inl was ↦ h.there i was
      | inr same ↦ subst (λ ms. Contains ms i) (sym (h.by_number none)) (subst (Contains (range_with_len 1 count)) (sym same) (range_there count m number))
    ];
    by_issue = λ has. absurd (false≢true (sym none ∙ has));
    by_number = h.by_number;
  }

-- when a run begins none has entered
module _ (course : Course) where
  awaits_none : (i : ℕ) → IsIssued course (opening course) i → course.work.awaits i ≡ []
  awaits_none i issued = alone (course.work.awaits i) (λ f awaited. none_ended course f (issued f awaited))

  issue_is : (i : ℕ) → course.work.awaits i ≡ [] → issue_in course (opening course) i ≡ course.work.floor i
  issue_is i none = issue_alone (measured course (opening course)) (start_in (opening course)) i none

  pub due_opening : (due : List (ℕ × ℕ)) → AreFirstDue course.work course.work.count due → AreDue course (opening course) [] due
  due_opening due first = record {
    known = λ i number issued.
        let none = awaits_none i issued in
        inr (subst (λ k. Contains due (k, i)) (sym (issue_is i none)) (first.all i number none));
    each = λ r there.
        let none = first.alone r there in
        record {
          number = first.number r there;
          issued = λ f awaited. absurd (none_awaited (course.work.awaits r.1) f none awaited);
          issue = issue_is r.1 none ∙ sym (first.floor r there);
        };
    come = λ i there. let within = there.1 in absurd (omega (arith, within));
    once = first.once;
  }

  pub placed_opening : (messages : List ℕ) → (has_clients course.version ≡ true → messages ≡ [])
      → (has_clients course.version ≡ false → messages ≡ range_with_len 1 course.work.count) → ArePlaced course.version course.work.count messages []
  placed_opening messages by_issue by_number = record {
    apart = λ p q less within same. elim (cases_Bool (has_clients course.version)) [
      | inl has ↦ omega (arith, within, ap (length {A = ℕ}) (by_issue has))
      | inr none ↦
          let are = by_number none in
          let long = ap (length {A = ℕ}) are ∙ length-range_with_len 1 course.work.count in
          let at_p = ap (λ ms. get_or ms p 0) are ∙ get_or-range_with_len 1 course.work.count p 0 (omega (arith, less, within, long)) in
          let at_q = ap (λ ms. get_or ms q 0) are ∙ get_or-range_with_len 1 course.work.count q 0 (omega (arith, within, long)) in
          omega (arith, less, same, at_p, at_q)
    ];
    there = λ i there. let within = there.1 in absurd (omega (arith, within));
    by_issue = λ has i there. subst (λ ms. Contains ms i) (by_issue has) there;
    by_number = by_number;
  }
