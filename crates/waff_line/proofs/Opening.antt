-- Who waits for whom as messages end: those that waited for one that has ended are due as they are let go.
use Rattle.std.proofs.Common.{◌≡◌, ◌≢◌, ℕ, ◌-◌, ◌⊎◌, ◌↔◌, inl, inr, true, List, [], ◌∷◌, ◌++◌, length, map, Contains, get_or, set, ap, sym, ◌∙◌, subst, get_or-set_other, arith}
use Rattle.std.specs.List.Sorted.{IsPermutation}
use Rattle.std.proofs.lemmas.Bool.{cases_eq, cases_lt, false≢true}
use Rattle.std.proofs.lemmas.List.{set-get_or}
use Rattle.std.proofs.lemmas.List.Elements.{Contains-append_left, Contains-push, Contains-push_cases}
use Rattle.std.proofs.lemmas.List.Sorted.{IsPermutation-cons, IsPermutation-refl, IsPermutation-trans}
use Rattle.waff_model.specs.Numbers.{IsAmongFirst}
use Rattle.waff_waits.specs.Times.{times}
use Rattle.waff_waits.specs.Waits.{IsFree, LetsGo, WaitsForNone, WhoWaits, waiting_for}
use Rattle.waff_waits.proofs.Each.{none_there, times_listed}
use Rattle.waff_waits.proofs.LettingGo.{IsGoing, going_bound, going_free, it_waited}
use Rattle.waff_waits.proofs.TimesLemmas.{times_some}
use Rattle.waff_plan.specs.Awaiting.{AreAwaiting}
use Rattle.waff_plan.specs.Work.{Work, IsAwaited, finish_of}
use Rattle.waff_plan.proofs.AwaitingLemmas.{due_is_free, free_is_due, range_there, taken_too, waiting_awaits, waiting_number}
use Rattle.waff_plan.proofs.Holding.{issue_again}
use Rattle.waff_line.specs.Lined.{AreOpened, IsAwaiting, issue_noted}
use Rattle.waff_line.specs.Machine.{Course, IsCourse, State, Turn, HasEnded, IsIssued, IsRunning, MayBegin, begun_on, ended_at, finish_in, issue_in, measured, opening, start_in, told}
use Rattle.waff_line.proofs.Sound.{Sound, begun_other, begun_same, begun_self, ended_other, ended_self, runs_on, sound_ended}
use Rattle.waff_line.proofs.Turns.{begun_number, none_ended}

-- at first all of them wait
pub going_first : (w : WhoWaits) (m : ℕ) → IsGoing w m (waiting_for w m) w
going_first w m = (
  ap (λ xs. let v : WhoWaits = record { awaited = xs; finished = w.finished } in v) (sym (set-get_or w.awaited (m - 1) [])),
  λ d there. there,
)

pub opened_none : (issue : ℕ → ℕ) (w : WhoWaits) (m : ℕ) (due : List (ℕ × ℕ)) → AreOpened issue (IsFree (waiting_for w m) w) due due
opened_none issue w m due = record {
  opened = [];
  each = record { only = λ d there. absurd (none_there d there); each = λ d free. absurd (free.1 m free.0) };
  due = IsPermutation-refl due;
}

-- one is let go
module _ (issue : ℕ → ℕ) (first now new : WhoWaits) (m d : ℕ) (rest : List ℕ) (number : IsAmongFirst (length first.awaited) m)
    (going : IsGoing first m rest now) (goes : LetsGo now m d new) (before due : List (ℕ × ℕ)) (h : AreOpened issue (IsFree (waiting_for first m) now) before due) where
  waited : Contains (waiting_for first m) d
  waited = it_waited first now new m d rest number going goes

  pub opened_one : WaitsForNone new d → (after : List (ℕ × ℕ)) → IsPermutation ((issue d, d) ∷ due) after → AreOpened issue (IsFree (waiting_for first m) new) before after
  opened_one none after pushed = record {
    opened = d ∷ h.opened;
    each = going_free first now new m d rest number going goes (waiting_for first m) [] h.opened waited h.each (d ∷ h.opened) (IsPermutation-refl (d ∷ h.opened)) none;
    due = IsPermutation-trans ((issue d, d) ∷ map (λ n. (issue n, n)) h.opened ++ before) ((issue d, d) ∷ due) after
        (IsPermutation-cons (issue d, d) (map (λ n. (issue n, n)) h.opened ++ before) due h.due) pushed;
  }

  pub opened_bound : (WaitsForNone new d → ⊥) → AreOpened issue (IsFree (waiting_for first m) new) before due
  opened_bound bound = record {
    opened = h.opened;
    each = going_bound first now new m d rest number going goes (waiting_for first m) [] h.opened waited h.each bound;
    due = h.due;
  }

-- when a run begins none has ended
pub awaiting_opening : (course : Course) (w : WhoWaits) → AreAwaiting course.work [] w → IsAwaiting course.work (opening course) w
awaiting_opening course w are = record {
  ended = [];
  each = λ i number. (λ ended. absurd (none_ended course i ended), λ there. absurd (none_there i there));
  awaiting = are;
}

module _ (work : Work) (s : State) (w : WhoWaits) (h : IsAwaiting work s w) where
  -- the machine is told the time
  pub awaiting_told : (now : ℕ) → IsAwaiting work (told s now) w
  awaiting_told now = record { ended = h.ended; each = h.each; awaiting = h.awaiting }

  -- a message begins
  pub awaiting_begun : (course : Course) (x m : ℕ) → Sound course s → MayBegin course s x m → IsAwaiting work (begun_on s x m) w
  awaiting_begun course x m sound may = record {
    ended = h.ended;
    each = λ i number. (
      λ ended.
          let other : i ≢ m = λ same. false≢true (sym (ap (λ (turn : Turn). turn.ended) (begun_self course s x m sound may)) ∙ subst (HasEnded (begun_on s x m)) same ended) in
          (h.each i number).0 (sym (ap (λ (turn : Turn). turn.ended) (begun_other course s x m sound may i other)) ∙ ended),
      λ there. let ended = (h.each i number).1 there in ap (λ (turn : Turn). turn.ended) (begun_same course s x m sound may i ended) ∙ ended,
    );
    awaiting = h.awaiting;
  }

-- a message ends, and those that waited for it are let go
module _ (course : Course) (is : IsCourse course) (s : State) (m now : ℕ) (sound : Sound course s) (running : IsRunning s m) (w after : WhoWaits)
    (h : IsAwaiting course.work s w) (gone : after ≡ record { awaited = set w.awaited (m - 1) []; finished = set w.finished (m - 1) true }) where
  abbrev t : State
  t = ended_at s m now

  abbrev more : List ℕ
  more = h.ended ++ m ∷ []

  number : IsAmongFirst course.work.count m
  number = let known = begun_number s m running.begun in record { from = known.from; to = omega (arith, known.to, sound.many) }

  untaken : Contains h.ended m → ⊥
  untaken there = runs_on s m running ((h.each m number).1 there)

  are_more : AreAwaiting course.work more after
  are_more = subst (AreAwaiting course.work more) (sym gone) (taken_too course.work is.earlier h.ended w h.awaiting m number)

  ended_here : HasEnded t m
  ended_here = ap (λ (turn : Turn). turn.ended) (ended_self course is s m now sound running)

  ended_more : (i : ℕ) → IsAmongFirst course.work.count i → HasEnded t i ↔ Contains more i
  ended_more i known = elim (cases_eq i m) [
    | inl same ↦ (λ ended. subst (Contains more) (sym same) (Contains-push h.ended m), λ there. subst (HasEnded t) (sym same) ended_here)
    | inr other ↦
        let turn = ap (λ (turn : Turn). turn.ended) (ended_other course is s m now sound running i other) in (
          λ ended. Contains-append_left h.ended (m ∷ []) i ((h.each i known).0 (sym turn ∙ ended)),
          λ there. elim (Contains-push_cases h.ended m i there) [
            | inl before ↦ turn ∙ (h.each i known).1 before
            | inr same ↦ absurd (other (sym same))
          ],
        )
  ]

  pub awaiting_ended : IsAwaiting course.work t after
  awaiting_ended = record { ended = more; each = ended_more; awaiting = are_more }

  awaited_number : (f i : ℕ) → IsAwaited (course.work.awaits i) f → IsAmongFirst course.work.count f
  awaited_number f i awaited = let before = is.earlier f i awaited in record { from = before.from; to = omega (arith, before.earlier, before.to) }

  -- what opens awaits the message, and all that it awaits have ended
  abbrev pub Opens : ℕ → Type 0
  Opens = IsFree (waiting_for w m) after

  module _ (d : ℕ) (opens : Opens d) where
    pub opens_number : IsAmongFirst course.work.count d
    opens_number = waiting_number course.work is.earlier h.ended w h.awaiting m d opens.0

    pub opens_awaits : IsAwaited (course.work.awaits d) m
    opens_awaits = waiting_awaits course.work is.earlier h.ended w h.awaiting m d number untaken opens.0

    pub opens_issued : IsIssued course t d
    opens_issued f awaited =
        let due = free_is_due course.work is.earlier more after are_more d (range_there course.work.count d opens_number, opens.1) in
        (ended_more f (awaited_number f d awaited)).1 (due.1 f awaited)

  -- what is issued now was so before, or it opens
  pub issued_or_opens : (i : ℕ) → IsAmongFirst course.work.count i → IsIssued course t i → IsIssued course s i ⊎ Opens i
  issued_or_opens i known issued =
      let none = (due_is_free course.work is.earlier more after are_more i (known, λ f awaited. (ended_more f (awaited_number f i awaited)).0 (issued f awaited))).1 in
      elim (cases_lt 0 (times i (waiting_for w m))) [
        | inl some ↦ inr (times_listed i (waiting_for w m) some, none)
        | inr never ↦
            let before : WaitsForNone w i = λ k there. elim (cases_eq (k - 1) (m - 1)) [
              | inl same ↦ omega (arith, never, times_some i (waiting_for w m) (subst (λ n. Contains (get_or w.awaited n []) i) same there))
              | inr other ↦
                  none k
                  (subst (λ (u : WhoWaits). Contains (waiting_for u k) i) (sym gone)
                  (subst (λ xs. Contains xs i) (sym (get_or-set_other w.awaited (m - 1) (k - 1) [] [] other)) there))
            ] in
            let due = free_is_due course.work is.earlier h.ended w h.awaiting i (range_there course.work.count i known, before) in
            inl (λ f awaited. (h.each f (awaited_number f i awaited)).1 (due.1 f awaited))
      ]

  -- the issue of what is issued, as it is noted
  pub noted_issue : (i : ℕ) → IsIssued course t i → issue_in course t i ≡ issue_noted course.work t i
  noted_issue i issued =
      issue_again (finish_of (measured course t) (start_in t)) (finish_in t) (course.work.floor i) (course.work.awaits i)
      (λ f awaited. omega (arith, ((sound_ended course is s m now sound running).ended f (issued f awaited)).ran))
