-- The queue goes on with the state of the machine.
use Rattle.std.proofs.Common.{◌≡◌, ℕ, ◌+◌, ◌-◌, ◌<◌, ◌≤◌, inl, inr, true, false, List, [], ◌∷◌, ◌++◌, length, map, get_or, set, Contains, refl, ap, sym, ◌∙◌, subst, arith}
use Rattle.std.specs.List.{range_with_len}
use Rattle.std.proofs.lemmas.Bool.{cond-false, cond-true, false≢true}
use Rattle.std.proofs.lemmas.List.FromFn.{get_or-range_with_len, length-range_with_len}
use Rattle.std.proofs.lemmas.List.Elements.{Contains-append_cases, Contains-append_left, Contains-append_right}
use Rattle.std.proofs.lemmas.List.Sorted.{Contains-permutation, IsPermutation-sym}
use Rattle.waff_model.specs.Versions.{has_clients}
use Rattle.waff_model.specs.declared.message.Version.{Version}
use Rattle.waff_model.specs.declared.preorder.Span.{Span}
use Rattle.waff_assign.specs.Order.{held_of}
use Rattle.waff_order.specs.Joined.{Joined, HaveJoined}
use Rattle.waff_waits.specs.Waits.{IsFree, WhoWaits, waiting_for}
use Rattle.waff_waits.proofs.Each.{contains_map, contains_mapped, each_there}
use Rattle.waff_plan.specs.Due.{IsDueFirst}
use Rattle.waff_plan.specs.Obeys.{AwaitsNone}
use Rattle.waff_plan.specs.Order.{ComesBefore}
use Rattle.waff_plan.specs.Work.{Await, Work, IsAwaited, finish_of, issue_after, issue_of}
use Rattle.waff_plan.proofs.FollowLemmas.{none_awaited}
use Rattle.waff_plan.proofs.Holding.{awaited-le-issue}
use Rattle.waff_line.specs.Lined.{AreFirstDue, AreOpened, IsAwaiting, IsKeyed, IsLined, issue_noted, latecomers}
use Rattle.waff_line.specs.Machine.{Course, IsCourse, State, Turn, IsIssued, IsRunning, MayBegin, begun_on, ended_at, issue_in, key_in, measured, opening, start_in, told}
use Rattle.waff_line.proofs.Issuing.{key_with, key_without}
use Rattle.waff_line.proofs.Lining.{lined_still}
use Rattle.waff_line.proofs.Opening.{Opens, issued_or_opens, noted_issue, opens_awaits, opens_issued, opens_number}
use Rattle.waff_line.proofs.Sound.{Sound, begun_same, ended_same, ended_self, none_issued}
use Rattle.waff_line.proofs.Turns.{none_ended}

pub latecomers_all : (version : Version) (due : List (ℕ × ℕ)) → has_clients version ≡ true → latecomers version due ≡ due
latecomers_all version due has = cond-true (has_clients version) due [] has

pub latecomers_none : (version : Version) (due : List (ℕ × ℕ)) → has_clients version ≡ false → latecomers version due ≡ []
latecomers_none version due none = cond-false (has_clients version) due [] none

-- the key of a message by issue
pub key_by_issue : (course : Course) (s : State) (i : ℕ) → has_clients course.version ≡ true → key_in course s i ≡ issue_in course s i
key_by_issue course s i has = key_with course.version (measured course s) (start_in s) i has

-- the issue of one that awaits none
pub issue_alone : (work : Work) (start : ℕ → ℕ) (i : ℕ) → work.awaits i ≡ [] → issue_of work start i ≡ work.floor i
issue_alone work start i none = ap (issue_after (finish_of work start) (work.floor i)) none

pub alone : (awaits : List Await) → ((f : ℕ) → IsAwaited awaits f → ⊥) → awaits ≡ []
alone [] none = refl
alone (a ∷ rest) none = absurd (none a.message (inl refl))

module _ (course : Course) (s : State) (spans : List Span) (joining : Joined) (messages : List ℕ) (waits : List (ℕ × ℕ))
    (h : IsLined course s spans joining messages waits) where
  -- the machine is told the time
  pub lined_told : (now : ℕ) → IsLined course (told s now) spans joining messages waits
  lined_told now =
      lined_still course s spans joining messages waits h (told s now) waits (λ f ended. refl) (omega arith) (λ i number issued. inl issued)
      (λ r waiting. inl waiting) (λ r waiting. waiting)

  -- a message begins
  pub lined_begun : (x m : ℕ) → Sound course s → MayBegin course s x m → IsLined course (begun_on s x m) spans joining messages waits
  lined_begun x m sound may =
      lined_still course s spans joining messages waits h (begun_on s x m) waits (begun_same course s x m sound may) (omega arith)
      (λ i number issued. inl (none_issued course s x m sound may i issued)) (λ r waiting. inl waiting) (λ r waiting. waiting)

  -- a message ends
  module _ (is : IsCourse course) (m now : ℕ) (sound : Sound course s) (running : IsRunning s m) where
    pub lined_ended_by_number : has_clients course.version ≡ false → IsLined course (ended_at s m now) spans joining messages waits
    lined_ended_by_number none =
        lined_still course s spans joining messages waits h (ended_at s m now) waits (ended_same course is s m now sound running) (omega arith)
        (λ i number issued. inl (λ f awaited. absurd (none_awaited (course.work.awaits i) f (is.alone none i) awaited))) (λ r waiting. inl waiting) (λ r waiting. waiting)

    -- and those that open are due
    module _ (version : has_clients course.version ≡ true) (w after : WhoWaits) (awaiting : IsAwaiting course.work s w)
        (gone : after ≡ record { awaited = set w.awaited (m - 1) []; finished = set w.finished (m - 1) true }) (due : List (ℕ × ℕ))
        (h_due : AreOpened (issue_noted course.work (ended_at s m now)) (Opens course is s m now sound running w after awaiting gone) waits due) where
      abbrev t : State
      t = ended_at s m now

      abbrev entry : ℕ → ℕ × ℕ
      entry d = (issue_noted course.work t d, d)

      abbrev entries : List (ℕ × ℕ)
      entries = map entry h_due.opened

      opens : (d : ℕ) → Contains h_due.opened d → IsFree (waiting_for w m) after d
      opens d there = h_due.each.only d there

      key_noted : (i : ℕ) → IsIssued course t i → key_in course t i ≡ issue_noted course.work t i
      key_noted i issued = key_by_issue course t i version ∙ noted_issue course is s m now sound running w after awaiting gone i issued

      -- it is due no sooner than now
      late : (d : ℕ) → Contains h_due.opened d → s.clock ≤ issue_noted course.work t d
      late d there =
          let turn = ended_self course is s m now sound running in
          let held = awaited-le-issue (measured course t) (start_in t) m d (opens_awaits course is s m now sound running w after awaiting gone d (opens d there)) in
          omega (
            arith,
            held,
            noted_issue course is s m now sound running w after awaiting gone d (opens_issued course is s m now sound running w after awaiting gone d (opens d there)),
            ap (λ (turn : Turn). turn.start) turn,
            ap (λ (turn : Turn). turn.finish) turn,
          )

      opened_keyed : (d : ℕ) → Contains h_due.opened d → IsKeyed course t (entry d)
      opened_keyed d there =
          let issued = opens_issued course is s m now sound running w after awaiting gone d (opens d there) in
          record { number = opens_number course is s m now sound running w after awaiting gone d (opens d there); issued = issued; key = key_noted d issued }

      into_due : (r : ℕ × ℕ) → Contains (entries ++ waits) r → Contains due r
      into_due r there = Contains-permutation (entries ++ waits) due r h_due.due there

      from_due : (r : ℕ × ℕ) → Contains due r → Contains (entries ++ waits) r
      from_due r there = Contains-permutation due (entries ++ waits) r (IsPermutation-sym (entries ++ waits) due h_due.due) there

      pub lined_ended_by_issue : IsLined course t spans joining messages due
      lined_ended_by_issue =
          lined_still course s spans joining messages waits h t due (ended_same course is s m now sound running) (omega arith)
          (λ i number issued. elim (issued_or_opens course is s m now sound running w after awaiting gone i number issued) [
            | inl was ↦ inl was
            | inr free ↦
                let there = each_there (IsFree (waiting_for w m) after) h_due.opened h_due.each i free in
                inr (subst (λ k. Contains due (k, i)) (sym (key_noted i issued)) (into_due (entry i) (Contains-append_left entries waits (entry i) (contains_map entry h_due.opened i there))))
          ])
          (λ r waiting. elim (Contains-append_cases entries waits r (from_due r waiting)) [
            | inr was ↦ inl was
            | inl new ↦
                let one = contains_mapped entry h_due.opened r new in
                inr (subst (λ x. IsKeyed course t x × ((i : ℕ) → Contains messages i → IsDueFirst (key_in course s i, i) x)) one.2 (
                  opened_keyed one.0 one.1,
                  λ i joins. let come = h.come version i joins in inl (omega (arith, come, late one.0 one.1)),
                ))
          ])
          (λ r waiting. into_due r (Contains-append_right entries waits r waiting))

-- at the opening nothing has joined by issue, and what awaits none is due
module _ (course : Course) (spans : List Span) (joining : Joined) where
  awaits_nothing : (i : ℕ) → IsIssued course (opening course) i → course.work.awaits i ≡ []
  awaits_nothing i issued = alone (course.work.awaits i) (λ f awaited. none_ended course f (issued f awaited))

  pub lined_opening_by_issue : has_clients course.version ≡ true → (due : List (ℕ × ℕ)) → AreFirstDue course.work course.work.count due
      → HaveJoined course.tree spans [] joining → IsLined course (opening course) spans joining [] due
  lined_opening_by_issue version due first have = record {
    joined = have;
    each = λ i joins. let within = joins.1 in absurd (omega (arith, within));
    known = λ i number issued.
        let none = awaits_nothing i issued in
        inr (subst (λ k. Contains due (k, i))
        (sym (key_by_issue course (opening course) i version ∙ issue_alone (measured course (opening course)) (start_in (opening course)) i none))
        (first.all i number none));
    sorted = λ p q less within before. omega (arith, within);
    later = λ i r joins waiting. let within = joins.1 in absurd (omega (arith, within));
    come = λ is i joins. let within = joins.1 in absurd (omega (arith, within));
    waiting = λ r inside.
        let none = first.alone r inside in
        record {
          number = first.number r inside;
          issued = λ f awaited. absurd (none_awaited (course.work.awaits r.1) f none awaited);
          key = key_by_issue course (opening course) r.1 version
              ∙ issue_alone (measured course (opening course)) (start_in (opening course)) r.1 none ∙ sym (first.floor r inside);
        };
  }

  later_number : (key : ℕ → ℕ) (i j : ℕ) → key i ≡ 0 → key j ≡ 0 → i < j → ComesBefore key j i → ⊥
  later_number key i j none_i none_j less (inl sooner) = omega (arith, none_i, none_j, sooner)
  later_number key i j none_i none_j less (inr same) = let more = same.1 in omega (arith, less, more)

  pub lined_opening_by_number : has_clients course.version ≡ false → AwaitsNone course.work
      → HaveJoined course.tree spans (map (held_of course.assigned) (range_with_len 1 course.work.count)) joining
      → IsLined course (opening course) spans joining (range_with_len 1 course.work.count) []
  lined_opening_by_number none awaits have = record {
    joined = have;
    each = λ i joins.
        let within = joins.1 in
        let long : length (range_with_len 1 course.work.count) ≡ course.work.count = length-range_with_len 1 course.work.count in
        let at = sym joins.2 ∙ get_or-range_with_len 1 course.work.count joins.0 i (omega (arith, within, long)) in
        (record { from = omega (arith, at); to = omega (arith, at, within, long) }, λ f awaited. absurd (none_awaited (course.work.awaits i) f (awaits i) awaited));
    known = λ i number issued.
        let from = number.from in
        let to = number.to in
        let long : length (range_with_len 1 course.work.count) ≡ course.work.count = length-range_with_len 1 course.work.count in
        let sum : 1 + (i - 1) ≡ i = omega (arith, from) in
        inl (i - 1, omega (arith, from, to, long), get_or-range_with_len 1 course.work.count (i - 1) i (omega (arith, from, to)) ∙ sum);
    sorted = λ p q less within before.
        let long : length (range_with_len 1 course.work.count) ≡ course.work.count = length-range_with_len 1 course.work.count in
        let at_p = get_or-range_with_len 1 course.work.count p 0 (omega (arith, less, within, long)) in
        let at_q = get_or-range_with_len 1 course.work.count q 0 (omega (arith, within, long)) in
        later_number (key_in course (opening course))
        (get_or (range_with_len 1 course.work.count) p 0) (get_or (range_with_len 1 course.work.count) q 0)
        (key_without course.version (measured course (opening course)) (start_in (opening course)) (get_or (range_with_len 1 course.work.count) p 0) none)
        (key_without course.version (measured course (opening course)) (start_in (opening course)) (get_or (range_with_len 1 course.work.count) q 0) none)
        (omega (arith, at_p, at_q, less)) before;
    later = λ i r joins waiting. let within = waiting.1 in absurd (omega (arith, within));
    come = λ has i joins. absurd (false≢true (sym none ∙ has));
    waiting = λ r waiting. let within = waiting.1 in absurd (omega (arith, within));
  }
