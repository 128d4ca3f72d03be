-- A run goes on until all messages have ended.
use Rattle.std.proofs.Common.{ℕ, ◌+◌, ◌⊎◌, inl, inr, max, List, [], ◌∷◌, refl, sym, ◌∙◌, subst, arith}
use Rattle.std.proofs.lemmas.Bool.{cases_Bool, cases_lt, false≢true}
use Rattle.waff_plan.specs.Order.{ComesBefore}
use Rattle.waff_plan.specs.Work.{Await, IsAwaited}
use Rattle.waff_plan.proofs.Places.{keyed_not_itself, keyed_on}
use Rattle.waff_line.specs.Laws.{AreAllEnded, BeginsWhenTold, NeverStuck}
use Rattle.waff_line.specs.Machine.{Course, IsCourse, State, HasBegun, HasEnded, IsIssued, IsRunning, issue_in, key_in, turn_of}
use Rattle.waff_line.proofs.Firsts.{IsFirstOf, none_or_first}
use Rattle.waff_line.proofs.Issuing.{come_from}
use Rattle.waff_line.proofs.Sound.{Sound, ended_or_runs, sound_reached}
use Rattle.waff_line.proofs.Turns.{begun_number}

begun_or_waits : (s : State) (n : ℕ) → HasBegun s n ⊎ (HasBegun s n → ⊥)
begun_or_waits s n = elim (cases_lt 0 (turn_of s n).worker) [
  | inl some ↦ inl (omega (arith, some))
  | inr none ↦ inr (λ begun. omega (arith, none, begun))
]

waits_or_not : (s : State) (n : ℕ) → (¬ HasBegun s n) ⊎ (¬ HasBegun s n → ⊥)
waits_or_not s n = elim (begun_or_waits s n) [ inl begun ↦ inr (λ waits. waits begun) | inr waits ↦ inl waits ]

runs_or_not : (s : State) (n : ℕ) → IsRunning s n ⊎ (IsRunning s n → ⊥)
runs_or_not s n = elim (begun_or_waits s n) [
  | inr waits ↦ inr (λ running. waits running.begun)
  | inl begun ↦ elim (ended_or_runs s n begun) [
    | inl ended ↦ inr (λ running. false≢true (sym running.runs ∙ ended))
    | inr running ↦ inl running
  ]
]

-- those that are awaited have all ended, or not
ended_or_not : (s : State) (awaits : List Await) → ((i : ℕ) → IsAwaited awaits i → HasEnded s i) ⊎ (((i : ℕ) → IsAwaited awaits i → HasEnded s i) → ⊥)
ended_or_not s [] = inl (λ i never. absurd never)
ended_or_not s (a ∷ rest) = elim (cases_Bool (turn_of s a.message).ended) [
  | inr runs ↦ inr (λ all. false≢true (sym runs ∙ all a.message (inl refl)))
  | inl ended ↦ elim (ended_or_not s rest) [
    | inl all ↦ inl (λ i awaited. elim awaited [ inl same ↦ subst (HasEnded s) same ended | inr more ↦ all i more ])
    | inr not ↦ inr (λ all. not (λ i more. all i (inr more)))
  ]
]

issued_or_not : (course : Course) (s : State) (n : ℕ) → IsIssued course s n ⊎ (IsIssued course s n → ⊥)
issued_or_not course s n = ended_or_not s (course.work.awaits n)

-- a message that waits and is issued
record IsDue (course : Course) (s : State) (n : ℕ) : Type 0 where
  pub waits : ¬ HasBegun s n
  pub issued : IsIssued course s n

due_or_not : (course : Course) (s : State) (n : ℕ) → IsDue course s n ⊎ (IsDue course s n → ⊥)
due_or_not course s n = elim (begun_or_waits s n) [
  | inl begun ↦ inr (λ due. due.waits begun)
  | inr waits ↦ elim (issued_or_not course s n) [
    | inl issued ↦ inl (record { waits = waits; issued = issued })
    | inr not ↦ inr (λ due. not due.issued)
  ]
]

-- where none runs
module _ (course : Course) (is : IsCourse course) (s : State) (none : (n : ℕ) → IsRunning s n → ⊥) where
  ended_all : (n : ℕ) → HasBegun s n → HasEnded s n
  ended_all n begun = elim (ended_or_runs s n begun) [ inl ended ↦ ended | inr running ↦ absurd (none n running) ]

  -- the first message that waits is issued
  first_issued : (m : ℕ) → IsFirstOf (λ n. ¬ HasBegun s n) (λ n. 0) course.work.count m → IsIssued course s m
  first_issued m is_first f awaited =
      let earlier = is.earlier f m awaited in
      elim (begun_or_waits s f) [
        | inl begun ↦ ended_all f begun
        | inr waits ↦ elim (is_first.first f (record { from = earlier.from; to = omega (arith, earlier.earlier, earlier.to) }) waits) [
          | inl same ↦ absurd (omega (arith, earlier.earlier, same))
          | inr (inl sooner) ↦ absurd (omega (arith, sooner))
          | inr (inr lower) ↦ absurd (omega (arith, earlier.earlier, lower.1))
        ]
      ]

  -- the first by its key of those that are issued and wait may begin on the first worker
  first_begins : (m : ℕ) → IsFirstOf (IsDue course s) (key_in course s) course.work.count m → BeginsWhenTold course s
  first_begins m is_first = record {
    now = issue_in course s m + 1;
    worker = 1;
    message = m;
    may = record {
      worker = record { from = omega arith; to = is.staffed };
      free = λ n running on. none n (record { begun = running.begun; runs = running.runs });
      number = is_first.number;
      waits = is_first.here.waits;
      issued = is_first.here.issued;
      come = come_from course.version (issue_in course s m) (max s.clock (issue_in course s m + 1)) (omega arith);
      clear = λ i issued served. elim (begun_or_waits s i) [
        | inl begun ↦ ended_all i begun
        | inr waits ↦ absurd (elim (is_first.first i served.first (record { waits = waits; issued = issued })) [
          | inl same ↦ keyed_not_itself (key_in course s) i (subst (ComesBefore (key_in course s) i) same served.precedes)
          | inr before ↦ keyed_not_itself (key_in course s) i (keyed_on (key_in course s) i m i served.precedes before)
        ])
      ];
    };
  }

  -- all have ended, or one may begin
  ended_or_begins : AreAllEnded course s ⊎ BeginsWhenTold course s
  ended_or_begins = elim (none_or_first (λ n. ¬ HasBegun s n) (λ n. 0) (waits_or_not s) course.work.count) [
    | inl all ↦ inl (λ n number. elim (begun_or_waits s n) [ inl begun ↦ ended_all n begun | inr waits ↦ absurd (all n number waits) ])
    | inr waiting ↦ elim (none_or_first (IsDue course s) (key_in course s) (due_or_not course s) course.work.count) [
      | inl nothing ↦ absurd (nothing waiting.0 waiting.1.number (record { waits = waiting.1.here; issued = first_issued waiting.0 waiting.1 }))
      | inr due ↦ inr (first_begins due.0 due.1)
    ]
  ]

-- all have ended, or one runs, or one may begin
pub goes_on : (course : Course) → IsCourse course → (s : State) → Sound course s
    → AreAllEnded course s ⊎ (((n : ℕ) × IsRunning s n) ⊎ BeginsWhenTold course s)
goes_on course is s sound = elim (none_or_first (IsRunning s) (λ n. 0) (runs_or_not s) course.work.count) [
  | inr running ↦ inr (inl (running.0, running.1.here))
  | inl none ↦ elim (ended_or_begins course is s (λ n running.
      let number = begun_number s n running.begun in
      none n (record { from = number.from; to = omega (arith, number.to, sound.many) }) running)) [
        | inl all ↦ inl all
        | inr begins ↦ inr (inr begins)
      ]
]

pub never_stuck : (course : Course) → IsCourse course → NeverStuck course
never_stuck course is s reached = goes_on course is s (sound_reached course is s reached)
