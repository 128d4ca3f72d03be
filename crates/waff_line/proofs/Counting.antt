-- How often a message begins and ends in a run.
use Rattle.std.proofs.Common.{◌≡◌, ◌≢◌, ℕ, ◌+◌, ◌≤◌, inl, inr, min, Bool, true, false, cond, eqb, List, [], ◌∷◌, count_by, refl, ap, sym, subst, arith}
use Rattle.std.proofs.lemmas.Bool.{cases_eq, cases_lt, cond-false, cond-true, eq-eqb, false_from_ne_true, ne_eqb}
use Rattle.std.proofs.lemmas.List.Sums.{sum_by-cons}
use Rattle.waff_line.specs.Laws.{RunsEachOnce, RunsOnce, begins, ends}
use Rattle.waff_line.specs.Machine.{Course, IsCourse, State, Turn, IsRunning, MayBegin, Runs, Steps, begun_on, ended_at, opening, turn_of}
use Rattle.waff_line.specs.declared.event.Event.{Event}
use Rattle.waff_line.specs.declared.event.Event.TheVariants.{Tell, Begin, End}
use Rattle.waff_line.proofs.Sound.{Sound, begun_other, begun_self, ended_other, ended_self, sound_opening, sound_step, worker_same}
use Rattle.waff_line.proofs.Turns.{turn_opening}

-- 1 where message n has begun, and where it has ended, else 0
abbrev pub has_begun : State → ℕ → ℕ
has_begun s n = min 1 (turn_of s n).worker

abbrev pub has_ended : State → ℕ → ℕ
has_ended s n = cond (turn_of s n).ended 1 0

-- these beginnings and ends lead from what had begun and ended in one state to what has in another
pub record Adds (s t : State) (n begun ended : ℕ) : Type 0 where
  pub begun_is : begun + has_begun s n ≡ has_begun t n
  pub ended_is : ended + has_ended s n ≡ has_ended t n

-- a message begins
module _ (course : Course) (s : State) (x m : ℕ) (sound : Sound course s) (may : MayBegin course s x m) where
  begin_here : Adds s (begun_on s x m) m (cond (eqb m m) 1 0) 0
  begin_here =
      let self = begun_self course s x m sound may in
      let none : (turn_of s m).worker ≡ 0 = elim (cases_lt 0 (turn_of s m).worker) [ inl some ↦ absurd (may.waits (omega (arith, some))) | inr none ↦ omega (arith, none) ] in
      let before : cond {A = ℕ} (turn_of s m).ended 1 0 ≡ 0
      = cond-false {A = ℕ} (turn_of s m).ended 1 0 (false_from_ne_true (turn_of s m).ended (λ ended. may.waits (sound.ended m ended).begun)) in
      record {
        begun_is = omega (arith, cond-true {A = ℕ} (eqb m m) 1 0 (eq-eqb m m refl), none, may.worker.from, ap (λ (turn : Turn). turn.worker) self);
        ended_is = omega (arith, before, ap (λ (turn : Turn). cond {A = ℕ} turn.ended 1 0) self);
      }

  begin_there : (n : ℕ) → m ≢ n → Adds s (begun_on s x m) n (cond (eqb m n) 1 0) 0
  begin_there n other =
      let turn = begun_other course s x m sound may n (λ at. other (sym at)) in
      record {
        begun_is = omega (arith, cond-false {A = ℕ} (eqb m n) 1 0 (ne_eqb m n other), ap (λ (turn : Turn). turn.worker) turn);
        ended_is = omega (arith, ap (λ (turn : Turn). cond {A = ℕ} turn.ended 1 0) turn);
      }

  pub begin_adds : (n : ℕ) → Adds s (begun_on s x m) n (cond (eqb m n) 1 0) 0
  begin_adds n = elim (cases_eq m n) [
    | inl same ↦ subst (λ k. Adds s (begun_on s x m) k (cond (eqb m k) 1 0) 0) same begin_here
    | inr other ↦ begin_there n other
  ]

-- a message ends
module _ (course : Course) (is : IsCourse course) (s : State) (m now : ℕ) (sound : Sound course s) (running : IsRunning s m) where
  end_here : Adds s (ended_at s m now) m 0 (cond (eqb m m) 1 0)
  end_here = record {
    begun_is = omega (arith, ap (λ (k : ℕ). min 1 k) (worker_same course is s m now sound running m));
    ended_is = omega (
      arith,
      cond-true {A = ℕ} (eqb m m) 1 0 (eq-eqb m m refl),
      cond-false {A = ℕ} (turn_of s m).ended 1 0 running.runs,
      ap (λ (turn : Turn). cond {A = ℕ} turn.ended 1 0) (ended_self course is s m now sound running),
    );
  }

  end_there : (n : ℕ) → m ≢ n → Adds s (ended_at s m now) n 0 (cond (eqb m n) 1 0)
  end_there n other =
      let turn = ended_other course is s m now sound running n (λ at. other (sym at)) in
      record {
        begun_is = omega (arith, ap (λ (turn : Turn). turn.worker) turn);
        ended_is = omega (arith, cond-false {A = ℕ} (eqb m n) 1 0 (ne_eqb m n other), ap (λ (turn : Turn). cond {A = ℕ} turn.ended 1 0) turn);
      }

  pub end_adds : (n : ℕ) → Adds s (ended_at s m now) n 0 (cond (eqb m n) 1 0)
  end_adds n = elim (cases_eq m n) [
    | inl same ↦ subst (λ k. Adds s (ended_at s m now) k 0 (cond (eqb m k) 1 0)) same end_here
    | inr other ↦ end_there n other
  ]

module _ (course : Course) (is : IsCourse course) (n : ℕ) where
  step_adds : (s : State) (event : Event) (t : State) → Steps course s event t → Sound course s → Adds s t n (cond (begins n event) 1 0) (cond (ends n event) 1 0)
  step_adds s (Tell now) t step sound = subst (λ u. Adds s u n 0 0) (sym step) (record { begun_is = omega arith; ended_is = omega arith })
  step_adds s (Begin x m) t step sound = subst (λ u. Adds s u n (cond (eqb m n) 1 0) 0) (sym step.1) (begin_adds course s x m sound step.0 n)
  step_adds s (End m now) t step sound = subst (λ u. Adds s u n 0 (cond (eqb m n) 1 0)) (sym step.1) (end_adds course is s m now sound step.0 n)

  runs_add : (s : State) (events : List Event) (t : State) → Runs course s events t → Sound course s
      → Adds s t n (count_by (begins n) events) (count_by (ends n) events)
  runs_add s [] t same sound = subst (λ u. Adds s u n 0 0) same (record { begun_is = omega arith; ended_is = omega arith })
  runs_add s (event ∷ events) t (u, step, rest) sound =
      let first = step_adds s event u step sound in
      let later = runs_add u events t rest (sound_step course is s event u step sound) in
      record {
        begun_is = omega (arith, first.begun_is, later.begun_is, sum_by-cons (λ e. cond (begins n e) 1 0) event events);
        ended_is = omega (arith, first.ended_is, later.ended_is, sum_by-cons (λ e. cond (ends n e) 1 0) event events);
      }

  -- from the opening on as much has begun and ended as events say
  opening_adds : (events : List Event) (s : State) → Runs course (opening course) events s
      → (count_by (begins n) events ≡ has_begun s n) × (count_by (ends n) events ≡ has_ended s n)
  opening_adds events s runs =
      let all = runs_add (opening course) events s runs (sound_opening course) in (
        omega (arith, all.begun_is, ap (λ (turn : Turn). turn.worker) (turn_opening course n)),
        omega (arith, all.ended_is, ap (λ (turn : Turn). cond {A = ℕ} turn.ended 1 0) (turn_opening course n)),
      )

pub at_most_one : (b : Bool) → cond {A = ℕ} b 1 0 ≤ 1
at_most_one true = omega arith
at_most_one false = omega arith

pub runs_once : (course : Course) → IsCourse course → RunsOnce course
runs_once course is events s runs n =
    let adds = opening_adds course is n events s runs in
    record { begun = omega (arith, adds.0); ended = omega (arith, adds.1, at_most_one (turn_of s n).ended) }

pub runs_each_once : (course : Course) → IsCourse course → RunsEachOnce course
runs_each_once course is events s runs n =
    let adds = opening_adds course is n events s runs in
    record {
      begun = λ begun. omega (arith, adds.0, begun);
      ended = λ ended. omega (arith, adds.1, cond-true {A = ℕ} (turn_of s n).ended 1 0 ended);
    }
