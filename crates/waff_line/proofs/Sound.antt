-- What is kept by each event of a run.
use Rattle.std.proofs.Common.{◌≡◌, ◌≢◌, ℕ, ◌<◌, ◌≤◌, ◌⊎◌, inl, inr, false, List, [], ◌∷◌, length, ap, sym, ◌∙◌, subst, arith}
use Rattle.std.proofs.Math.ListN.{length-replicate}
use Rattle.std.proofs.lemmas.Bool.{cases_Bool, cases_eq, false≢true}
use Rattle.waff_plan.specs.Order.{Serves}
use Rattle.waff_plan.specs.Work.{Await, IsAmongFirst, IsAwaited, finish_of}
use Rattle.waff_line.specs.Machine.{Course, IsCourse, State, Turn, HasBegun, HasCome, HasEnded, IsIssued, IsRunning, MayBegin, Reaches, Runs, Steps, begun_on, ended_at, ended_turn, finish_at, finish_in, issue_in, key_in, measured, no_turn, opening, start_in, told, turn_of}
use Rattle.waff_line.specs.declared.event.Event.{Event}
use Rattle.waff_line.specs.declared.event.Event.TheVariants.{Tell, Begin, End}
use Rattle.waff_line.proofs.Issuing.{comes_same, issue_kept, issued_late, key_kept}
use Rattle.waff_line.proofs.Turns.{begun_number, none_begun, none_ended, turn_other, turn_same, turns_as_many}

-- message i is served before message n
abbrev pub IsServedBefore : Course → State → ℕ → ℕ → Type 0
IsServedBefore course s = Serves course.tree course.assigned (measured course s) (key_in course s)

-- of a message that has begun: its worker and start are there, its issue had come, and what is issued and served before it had ended
pub record HasBegunWell (course : Course) (s : State) (n : ℕ) : Type 0 where
  pub worker : IsAmongFirst course.workers (turn_of s n).worker
  pub early : start_in s n ≤ s.clock
  pub issued : IsIssued course s n
  pub come : HasCome course.version (issue_in course s n) (start_in s n)
  pub after : (i : ℕ) → IsIssued course s i → IsServedBefore course s i n → HasEnded s i × (finish_in s i ≤ start_in s n)

-- of a message that has ended: it ran for a tick at least, and finished by now
pub record HasEndedWell (s : State) (n : ℕ) : Type 0 where
  pub begun : HasBegun s n
  pub ran : start_in s n < finish_in s n
  pub known : finish_in s n ≤ s.clock

-- one message had ended when the other began
abbrev pub IsFirst : State → ℕ → ℕ → Type 0
IsFirst s i j = HasEnded s i × (finish_in s i ≤ start_in s j)

pub record Sound (course : Course) (s : State) : Type 0 where
  pub many : length s.turns ≡ course.work.count
  pub begun : (n : ℕ) → HasBegun s n → HasBegunWell course s n
  pub ended : (n : ℕ) → HasEnded s n → HasEndedWell s n
  pub apart : (i j : ℕ) → HasBegun s i → HasBegun s j → i ≢ j → (turn_of s i).worker ≡ (turn_of s j).worker
      → IsFirst s i j ⊎ IsFirst s j i

-- a message that has begun has ended, or it runs
pub ended_or_runs : (s : State) (n : ℕ) → HasBegun s n → HasEnded s n ⊎ IsRunning s n
ended_or_runs s n begun = elim (cases_Bool (turn_of s n).ended) [
  | inl ended ↦ inl ended
  | inr runs ↦ inr (record { begun = begun; runs = runs })
]

-- one that runs has not ended
pub runs_on : (s : State) (n : ℕ) → IsRunning s n → HasEnded s n → ⊥
runs_on s n running ended = false≢true (sym running.runs ∙ ended)

awaited_or_not : (awaits : List Await) (m : ℕ) → IsAwaited awaits m ⊎ (IsAwaited awaits m → ⊥)
awaited_or_not [] m = inr (λ never. never)
awaited_or_not (a ∷ rest) m = elim (cases_eq a.message m) [
  | inl same ↦ inl (inl same)
  | inr other ↦ elim (awaited_or_not rest m) [
    | inl more ↦ inl (inr more)
    | inr none ↦ inr (λ awaited. elim awaited [ inl same ↦ other same | inr more ↦ none more ])
  ]
]

-- what is issued after a change of the turn of message m was issued before it, or awaits message m
pub issued_before : (course : Course) (s t : State) (m : ℕ) → ((n : ℕ) → n ≢ m → turn_of t n ≡ turn_of s n) → (i : ℕ) → IsIssued course t i
    → IsIssued course s i ⊎ IsAwaited (course.work.awaits i) m
issued_before course s t m others i issued = elim (awaited_or_not (course.work.awaits i) m) [
  | inl awaited ↦ inr awaited
  | inr none ↦ inl (λ f awaited.
      let other : f ≢ m = λ same. none (subst (IsAwaited (course.work.awaits i)) same awaited) in
      sym (ap (λ (turn : Turn). turn.ended) (others f other)) ∙ issued f awaited)
]

-- a message that has begun stays well begun where its turn has the worker and the start that it had, what has ended keeps its turn, and
-- of what is issued later nothing is served before it
begun_still : (course : Course) (s t : State) (n : ℕ) → ((f : ℕ) → HasEnded s f → turn_of t f ≡ turn_of s f) → s.clock ≤ t.clock
    → (turn_of t n).worker ≡ (turn_of s n).worker → start_in t n ≡ start_in s n
    → ((i : ℕ) → IsIssued course t i → IsServedBefore course t i n → IsIssued course s i)
    → HasBegunWell course s n → HasBegunWell course t n
begun_still course s t n same later worker start new well = record {
  worker = subst (IsAmongFirst course.workers) (sym worker) well.worker;
  early = omega (arith, later, start, well.early);
  issued = λ f awaited. let ended = well.issued f awaited in ap (λ (turn : Turn). turn.ended) (same f ended) ∙ ended;
  come = subst (λ (p : ℕ × ℕ). HasCome course.version p.0 p.1) (λ k. (sym (issue_kept course s t same n well.issued) k, sym start k)) well.come;
  after = λ i issued served.
      let was = new i issued served in
      let before : IsServedBefore course s i n = record {
        first = served.first;
        second = served.second;
        precedes = comes_same (key_in course t) (key_in course s) i n (key_kept course s t same i was) (key_kept course s t same n well.issued) served.precedes;
        excludes = served.excludes;
      } in
      let old = well.after i was before in
      let turn = same i old.0 in
      (ap (λ (turn : Turn). turn.ended) turn ∙ old.0, omega (arith, ap (λ (turn : Turn). turn.finish) turn, start, old.1));
}

-- and one that has ended stays well ended where its turn is the same
ended_still : (s t : State) (n : ℕ) → turn_of t n ≡ turn_of s n → s.clock ≤ t.clock → HasEndedWell s n → HasEndedWell t n
ended_still s t n same later well = record {
  begun = omega (arith, well.begun, ap (λ (turn : Turn). turn.worker) same);
  ran = omega (arith, well.ran, ap (λ (turn : Turn). turn.start) same, ap (λ (turn : Turn). turn.finish) same);
  known = omega (arith, well.known, later, ap (λ (turn : Turn). turn.finish) same);
}

-- what was first stays first
first_still : (s t : State) (i j : ℕ) → ((f : ℕ) → HasEnded s f → turn_of t f ≡ turn_of s f) → start_in t j ≡ start_in s j → IsFirst s i j → IsFirst t i j
first_still s t i j same start first =
    let turn = same i first.0 in
    (ap (λ (turn : Turn). turn.ended) turn ∙ first.0, omega (arith, first.1, start, ap (λ (turn : Turn). turn.finish) turn))

-- a message begins
module _ (course : Course) (s : State) (x m : ℕ) (sound : Sound course s) (may : MayBegin course s x m) where
  pub begun_self : turn_of (begun_on s x m) m ≡ record { worker = x; start = s.clock; ended = false; finish = 0 }
  begun_self = turn_same s m (record { worker = x; start = s.clock; ended = false; finish = 0 }) (record { from = may.number.from; to = omega (arith, may.number.to, sound.many) })

  pub begun_other : (n : ℕ) → n ≢ m → turn_of (begun_on s x m) n ≡ turn_of s n
  begun_other n other = turn_other s m n (record { worker = x; start = s.clock; ended = false; finish = 0 }) may.number.from other

  pub begun_same : (f : ℕ) → HasEnded s f → turn_of (begun_on s x m) f ≡ turn_of s f
  begun_same f ended = begun_other f (λ at. may.waits (sound.ended m (subst (HasEnded s) at ended)).begun)

  unended : HasEnded (begun_on s x m) m → ⊥
  unended ended = false≢true (sym (ap (λ (turn : Turn). turn.ended) begun_self) ∙ ended)

  -- nothing more is issued
  pub none_issued : (i : ℕ) → IsIssued course (begun_on s x m) i → IsIssued course s i
  none_issued i issued = elim (issued_before course s (begun_on s x m) m begun_other i issued) [
    | inl was ↦ was
    | inr awaited ↦ absurd (unended (issued m awaited))
  ]

  begins_well : HasBegunWell course (begun_on s x m) m
  begins_well = record {
    worker = subst (IsAmongFirst course.workers) (sym (ap (λ (turn : Turn). turn.worker) begun_self)) may.worker;
    early = omega (arith, ap (λ (turn : Turn). turn.start) begun_self);
    issued = λ f awaited. let ended = may.issued f awaited in ap (λ (turn : Turn). turn.ended) (begun_same f ended) ∙ ended;
    come = subst (λ (p : ℕ × ℕ). HasCome course.version p.0 p.1)
        (λ k. (sym (issue_kept course s (begun_on s x m) begun_same m may.issued) k, sym (ap (λ (turn : Turn). turn.start) begun_self) k)) may.come;
    after = λ i issued served.
        let was = none_issued i issued in
        let before : IsServedBefore course s i m = record {
          first = served.first;
          second = served.second;
          precedes = comes_same (key_in course (begun_on s x m)) (key_in course s) i m
              (key_kept course s (begun_on s x m) begun_same i was) (key_kept course s (begun_on s x m) begun_same m may.issued) served.precedes;
          excludes = served.excludes;
        } in
        let ended = may.clear i was before in
        let turn = begun_same i ended in (
          ap (λ (turn : Turn). turn.ended) turn ∙ ended,
          omega (arith, (sound.ended i ended).known, ap (λ (turn : Turn). turn.finish) turn, ap (λ (turn : Turn). turn.start) begun_self),
        );
  }

  begun_was : (n : ℕ) → n ≢ m → HasBegun (begun_on s x m) n → HasBegun s n
  begun_was n other begun = omega (arith, begun, ap (λ (turn : Turn). turn.worker) (begun_other n other))

  -- what was on the worker had ended
  worker_first : (j : ℕ) → j ≢ m → HasBegun (begun_on s x m) j → (turn_of (begun_on s x m) j).worker ≡ (turn_of (begun_on s x m) m).worker
      → IsFirst (begun_on s x m) j m
  worker_first j other begun on =
      let turn = begun_other j other in
      let here : (turn_of s j).worker ≡ x = sym (ap (λ (turn : Turn). turn.worker) turn) ∙ on ∙ ap (λ (turn : Turn). turn.worker) begun_self in
      elim (ended_or_runs s j (begun_was j other begun)) [
        | inl ended ↦ (
          ap (λ (turn : Turn). turn.ended) turn ∙ ended,
          omega (arith, (sound.ended j ended).known, ap (λ (turn : Turn). turn.finish) turn, ap (λ (turn : Turn). turn.start) begun_self),
        )
        | inr running ↦ absurd (may.free j running here)
      ]

  begun_apart : (i j : ℕ) → HasBegun (begun_on s x m) i → HasBegun (begun_on s x m) j → i ≢ j
      → (turn_of (begun_on s x m) i).worker ≡ (turn_of (begun_on s x m) j).worker
      → IsFirst (begun_on s x m) i j ⊎ IsFirst (begun_on s x m) j i
  begun_apart i j begun_i begun_j unlike on = elim (cases_eq i m) [
    | inl is_i ↦
        let other : j ≢ m = λ is_j. unlike (is_i ∙ sym is_j) in
        inr (subst (IsFirst (begun_on s x m) j) (sym is_i) (worker_first j other begun_j (sym on ∙ ap (λ n. (turn_of (begun_on s x m) n).worker) is_i)))
    | inr other_i ↦ elim (cases_eq j m) [
      | inl is_j ↦ inl (subst (IsFirst (begun_on s x m) i) (sym is_j) (worker_first i other_i begun_i (on ∙ ap (λ n. (turn_of (begun_on s x m) n).worker) is_j)))
      | inr other_j ↦
          let turn_i = begun_other i other_i in
          let turn_j = begun_other j other_j in
          let was : (turn_of s i).worker ≡ (turn_of s j).worker = sym (ap (λ (turn : Turn). turn.worker) turn_i) ∙ on ∙ ap (λ (turn : Turn). turn.worker) turn_j in
          elim (sound.apart i j (begun_was i other_i begun_i) (begun_was j other_j begun_j) unlike was) [
            | inl first ↦ inl (first_still s (begun_on s x m) i j begun_same (ap (λ (turn : Turn). turn.start) turn_j) first)
            | inr first ↦ inr (first_still s (begun_on s x m) j i begun_same (ap (λ (turn : Turn). turn.start) turn_i) first)
          ]
    ]
  ]

  pub sound_begun : Sound course (begun_on s x m)
  sound_begun = record {
    many = turns_as_many s m (record { worker = x; start = s.clock; ended = false; finish = 0 }) ∙ sound.many;
    begun = λ n begun. elim (cases_eq n m) [
      | inl at ↦ subst (HasBegunWell course (begun_on s x m)) (sym at) begins_well
      | inr other ↦
          let turn = begun_other n other in
          begun_still course s (begun_on s x m) n begun_same (omega arith) (ap (λ (turn : Turn). turn.worker) turn) (ap (λ (turn : Turn). turn.start) turn)
          (λ i issued served. none_issued i issued) (sound.begun n (begun_was n other begun))
    ];
    ended = λ n ended. elim (cases_eq n m) [
      | inl at ↦ absurd (unended (subst (HasEnded (begun_on s x m)) at ended))
      | inr other ↦
          let turn = begun_other n other in
          ended_still s (begun_on s x m) n turn (omega arith) (sound.ended n (sym (ap (λ (turn : Turn). turn.ended) turn) ∙ ended))
    ];
    apart = begun_apart;
  }

-- a message ends
module _ (course : Course) (is : IsCourse course) (s : State) (m now : ℕ) (sound : Sound course s) (running : IsRunning s m) where
  pub ended_self : turn_of (ended_at s m now) m ≡ ended_turn (turn_of s m) (finish_at s m now)
  ended_self = turn_same s m (ended_turn (turn_of s m) (finish_at s m now)) (begun_number s m running.begun)

  pub ended_other : (n : ℕ) → n ≢ m → turn_of (ended_at s m now) n ≡ turn_of s n
  ended_other n other = turn_other s m n (ended_turn (turn_of s m) (finish_at s m now)) (begun_number s m running.begun).from other

  pub ended_same : (f : ℕ) → HasEnded s f → turn_of (ended_at s m now) f ≡ turn_of s f
  ended_same f ended = ended_other f (λ at. runs_on s m running (subst (HasEnded s) at ended))

  pub worker_same : (n : ℕ) → (turn_of (ended_at s m now) n).worker ≡ (turn_of s n).worker
  worker_same n = elim (cases_eq n m) [
    | inl at ↦ subst (λ k. (turn_of (ended_at s m now) k).worker ≡ (turn_of s k).worker) (sym at) (ap (λ (turn : Turn). turn.worker) ended_self)
    | inr other ↦ ap (λ (turn : Turn). turn.worker) (ended_other n other)
  ]

  pub start_same : (n : ℕ) → start_in (ended_at s m now) n ≡ start_in s n
  start_same n = elim (cases_eq n m) [
    | inl at ↦ subst (λ k. start_in (ended_at s m now) k ≡ start_in s k) (sym at) (ap (λ (turn : Turn). turn.start) ended_self)
    | inr other ↦ ap (λ (turn : Turn). turn.start) (ended_other n other)
  ]

  begun_is : (n : ℕ) → HasBegun (ended_at s m now) n → HasBegun s n
  begun_is n begun = omega (arith, begun, worker_same n)

  -- what is issued now is served before no message that has begun
  late : (n : ℕ) → HasBegunWell course s n → (i : ℕ) → IsIssued course (ended_at s m now) i → IsServedBefore course (ended_at s m now) i n
      → IsIssued course s i
  late n well i issued served = elim (issued_before course s (ended_at s m now) m ended_other i issued) [
    | inl was ↦ was
    | inr awaited ↦
        let come : HasCome course.version (issue_in course (ended_at s m now) n) (start_in s n)
        = subst (λ issue. HasCome course.version issue (start_in s n)) (sym (issue_kept course s (ended_at s m now) ended_same n well.issued)) well.come in
        let finish : start_in s n ≤ finish_of (measured course (ended_at s m now)) (start_in (ended_at s m now)) m
        = omega (arith, well.early, ap (λ (turn : Turn). turn.start) ended_self, ap (λ (turn : Turn). turn.finish) ended_self) in
        absurd (issued_late course.version (measured course (ended_at s m now)) (start_in (ended_at s m now)) i n m (start_in s n) is.alone awaited come finish served.precedes)
  ]

  pub sound_ended : Sound course (ended_at s m now)
  sound_ended = record {
    many = turns_as_many s m (ended_turn (turn_of s m) (finish_at s m now)) ∙ sound.many;
    begun = λ n begun.
        let well = sound.begun n (begun_is n begun) in
        begun_still course s (ended_at s m now) n ended_same (omega arith) (worker_same n) (start_same n) (late n well) well;
    ended = λ n ended. elim (cases_eq n m) [
      | inl at ↦ subst (HasEndedWell (ended_at s m now)) (sym at) (record {
        begun = omega (arith, running.begun, worker_same m);
        ran = omega (arith, start_same m, ap (λ (turn : Turn). turn.finish) ended_self);
        known = omega (arith, ap (λ (turn : Turn). turn.finish) ended_self);
      })
      | inr other ↦
          let turn = ended_other n other in
          ended_still s (ended_at s m now) n turn (omega arith) (sound.ended n (sym (ap (λ (turn : Turn). turn.ended) turn) ∙ ended))
    ];
    apart = λ i j begun_i begun_j unlike on.
        elim (sound.apart i j (begun_is i begun_i) (begun_is j begun_j) unlike (sym (worker_same i) ∙ on ∙ worker_same j)) [
          | inl first ↦ inl (first_still s (ended_at s m now) i j ended_same (start_same j) first)
          | inr first ↦ inr (first_still s (ended_at s m now) j i ended_same (start_same i) first)
        ];
  }

-- the machine is told the time
pub sound_told : (course : Course) (s : State) (now : ℕ) → Sound course s → Sound course (told s now)
sound_told course s now sound = record {
  many = sound.many;
  begun = λ n begun. let well = sound.begun n begun in
      record { worker = well.worker; early = omega (arith, well.early); issued = well.issued; come = well.come; after = well.after };
  ended = λ n ended. let well = sound.ended n ended in record { begun = well.begun; ran = well.ran; known = omega (arith, well.known) };
  apart = sound.apart;
}

pub sound_opening : (course : Course) → Sound course (opening course)
sound_opening course = record {
  many = length-replicate course.work.count no_turn;
  begun = λ n begun. absurd (none_begun course n begun);
  ended = λ n ended. absurd (none_ended course n ended);
  apart = λ i j begun_i begun_j unlike on. absurd (none_begun course i begun_i);
}

pub sound_step : (course : Course) → IsCourse course → (s : State) (event : Event) (t : State) → Steps course s event t → Sound course s → Sound course t
sound_step course is s (Tell now) t step sound = subst (Sound course) (sym step) (sound_told course s now sound)
sound_step course is s (Begin x m) t step sound = subst (Sound course) (sym step.1) (sound_begun course s x m sound step.0)
sound_step course is s (End m now) t step sound = subst (Sound course) (sym step.1) (sound_ended course is s m now sound step.0)

sound_runs : (course : Course) → IsCourse course → (s : State) (events : List Event) (t : State) → Runs course s events t → Sound course s → Sound course t
sound_runs course is s [] t same sound = subst (Sound course) same sound
sound_runs course is s (event ∷ events) t (u, step, rest) sound = sound_runs course is u events t rest (sound_step course is s event u step sound)

pub sound_reached : (course : Course) → IsCourse course → (s : State) → Reaches course s → Sound course s
sound_reached course is s (events, runs) = sound_runs course is (opening course) events s runs (sound_opening course)
