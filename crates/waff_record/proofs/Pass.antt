-- The rounding of turns, one message after another in the order in which they began.
use Rattle.std.proofs.Common.{◌≡◌, ◌≢◌, ℕ, ◌+◌, ◌-◌, ◌/◌, ◌<◌, ◌≤◌, ◌⊎◌, inl, inr, max, List, [], ◌∷◌, ◌++◌, length, get_or, set, Contains, Option, Some, None, MatchOption, arith, refl, sym, ◌∙◌, ap, subst}
use Rattle.std.proofs.lemmas.Bool.{cases_eq}
use Rattle.std.proofs.lemmas.List.{get_or-set_other, get_or-set_same}
use Rattle.std.proofs.lemmas.List.Elements.{Contains-append_left, Contains-push, Contains-push_cases}
use Rattle.waff_assign.specs.Held.{ExcludeEachOther}
use Rattle.waff_assign.specs.Order.{held_of}
use Rattle.waff_plan.specs.Table.{IsLatestExcluding}
use Rattle.waff_plan.specs.Work.{Work, IsAmongFirst, finish_of, issue_of}
use Rattle.waff_plan.specs.declared.latest.Latest.{Latest}
use Rattle.waff_line.specs.Machine.{Course}
use Rattle.waff_line.specs.Turns.{AreRunTurns}
use Rattle.waff_line.specs.declared.turn.Turn.{Turn}
use Rattle.waff_record.specs.Laws.{IsRunCourse}
use Rattle.waff_record.specs.Rounded.{GoesBefore, HasOtherCosts, IsTold, MayStart}
use Rattle.waff_record.specs.Turns.{turn_at}
use Rattle.waff_record.proofs.Ran.{ran_alone, ran_apart, ran_some}
use Rattle.waff_record.proofs.Sooner.{may_alike, may_back}
use Rattle.waff_record.proofs.Telling.{many_is}

-- the messages that are noted are all that began before message m, and others that began no later
pub record AreBefore (count : ℕ) (turns : List Turn) (m : ℕ) (noted : List ℕ) : Type 0 where
  pub number : (i : ℕ) → Contains noted i → IsAmongFirst count i
  pub other : (i : ℕ) → Contains noted i → i ≢ m
  pub no_later : (i : ℕ) → Contains noted i → (turn_at turns i).start ≤ (turn_at turns m).start
  pub all : (i : ℕ) → IsAmongFirst count i → (turn_at turns i).start < (turn_at turns m).start → Contains noted i

-- from this tick on a worker is free: the greatest finish of its messages that are noted, 0 where there is none
pub record IsFreeFrom (turns : List Turn) (finish : ℕ → ℕ) (noted : List ℕ) (worker free : ℕ) : Type 0 where
  pub all : (i : ℕ) → Contains noted i → (turn_at turns i).worker ≡ worker → finish i ≤ free
  pub one : (free ≡ 0) ⊎ ((i : ℕ) × Contains noted i × ((turn_at turns i).worker ≡ worker) × (finish i ≡ free))

abbrev pub AreFree : List Turn → (ℕ → ℕ) → List ℕ → ℕ → List ℕ → Type 0
AreFree turns finish noted workers frees = (w : ℕ) → IsAmongFirst workers w → IsFreeFrom turns finish noted w (get_or frees (w - 1) 0)

-- where no message is noted
pub none_free : (turns : List Turn) (finish : ℕ → ℕ) (worker free : ℕ) → free ≡ 0 → IsFreeFrom turns finish [] worker free
none_free turns finish worker free zero = record { all = λ i there. absurd (omega (arith, there.1)); one = inl zero }

-- one more message, which finishes at `new` at the worker's last
module _ (turns : List Turn) (finish again : ℕ → ℕ) (noted : List ℕ) (m : ℕ) (same : (i : ℕ) → Contains noted i → again i ≡ finish i) where
  free_own : (free new : ℕ) → again m ≡ new → free ≤ new → IsFreeFrom turns finish noted (turn_at turns m).worker free
      → IsFreeFrom turns again (noted ++ m ∷ []) (turn_at turns m).worker new
  free_own free new is more old = record {
    all = λ i there on. elim (Contains-push_cases noted m i there) [
      | inl early ↦ omega (arith, old.all i early on, same i early, more)
      | inr here ↦ let at = ap again here in omega (arith, at, is)
    ];
    one = inr (m, Contains-push noted m, refl, is);
  }

  free_other : (worker free : ℕ) → (turn_at turns m).worker ≢ worker → IsFreeFrom turns finish noted worker free → IsFreeFrom turns again (noted ++ m ∷ []) worker free
  free_other worker free off old = record {
    all = λ i there on. elim (Contains-push_cases noted m i there) [
      | inl early ↦ omega (arith, old.all i early on, same i early)
      | inr here ↦ absurd (off (ap (λ k. (turn_at turns k).worker) here ∙ on))
    ];
    one = elim old.one [
      | inl zero ↦ inl zero
      | inr some ↦ inr (some.0, Contains-append_left noted (m ∷ []) some.0 some.1, some.2, same some.0 some.1 ∙ some.3)
    ];
  }

  pub free_more : (workers : ℕ) (frees : List ℕ) (new : ℕ) → length frees ≡ workers → IsAmongFirst workers (turn_at turns m).worker → again m ≡ new
      → get_or frees ((turn_at turns m).worker - 1) 0 ≤ new → AreFree turns finish noted workers frees
      → AreFree turns again (noted ++ m ∷ []) workers (set frees ((turn_at turns m).worker - 1) new)
  free_more workers frees new long there is more old w among = elim (cases_eq (turn_at turns m).worker w) [
    | inl own ↦
        let within : (turn_at turns m).worker - 1 < length frees = omega (arith, there.from, there.to, long) in
        let at : get_or (set frees ((turn_at turns m).worker - 1) new) ((turn_at turns m).worker - 1) 0 ≡ new = get_or-set_same frees _ new 0 within in
        subst (λ v. IsFreeFrom turns again (noted ++ m ∷ []) v (get_or (set frees ((turn_at turns m).worker - 1) new) (v - 1) 0)) own
        (subst (IsFreeFrom turns again (noted ++ m ∷ []) (turn_at turns m).worker) (sym at)
        (free_own (get_or frees ((turn_at turns m).worker - 1) 0) new is more (old (turn_at turns m).worker there)))
    | inr off ↦
        let apart : w - 1 ≢ (turn_at turns m).worker - 1 = λ at. off (omega (arith, at, among.from, there.from)) in
        subst (IsFreeFrom turns again (noted ++ m ∷ []) w) (sym (get_or-set_other frees ((turn_at turns m).worker - 1) (w - 1) new 0 apart))
        (free_other w (get_or frees (w - 1) 0) off (old w among))
  ]

-- the start of a message is `from`, or where it is later the finish of the latest message
abbrev pub StartsFrom : Option Latest → ℕ → ℕ → Type 0
StartsFrom latest from s = MatchOption latest (s ≡ from) (λ l. s ≡ max from l.finish)

starts_late : (latest : Option Latest) (from s : ℕ) → StartsFrom latest from s → from ≤ s
starts_late None from s is = omega (arith, is)
starts_late (Some l) from s is = omega (arith, is)

module _ (course : Course) (ticks : Work) (tick : ℕ) (turns : List Turn) (is : IsRunCourse course ticks tick) (ran : AreRunTurns course turns) where
  abbrev begun : ℕ → ℕ
  begun n = (turn_at turns n).start

  -- what is told of a message stays, where it stays of those that began before it
  pub told_alike : (m : ℕ) → IsAmongFirst course.work.count m → (work other : Work) (start again : ℕ → ℕ)
      → HasOtherCosts ticks work → HasOtherCosts ticks other → again m ≡ start m → finish_of other again m ≡ finish_of work start m
      → ((j : ℕ) → IsAmongFirst course.work.count j → begun j < begun m → finish_of other again j ≡ finish_of work start j)
      → IsTold course tick turns work start m → IsTold course tick turns other again m
  told_alike m number work other start again base alike starts finishes same told = record {
    may = subst (MayStart course tick turns other again m) (sym starts) (may_alike course ticks tick turns is ran m number work other start again base alike same (start m) told.may);
    least = λ t may. let least = told.least t (may_back course ticks tick turns is ran m number work other start again base alike same t may) in omega (arith, starts, least);
    finish = finishes ∙ (told.finish ∙ ap (λ s. max ((turn_at turns m).finish / tick) (s + 1)) (sym starts));
  }

  module _ (m : ℕ) (number : IsAmongFirst course.work.count m) (work : Work) (start : ℕ → ℕ) (noted : List ℕ) (before : AreBefore course.work.count turns m noted) where
    -- a noted message that excludes message m, or ran on its worker, goes before it
    goes : (i : ℕ) → Contains noted i
        → ExcludeEachOther course.tree (held_of course.assigned i) (held_of course.assigned m) ⊎ ((turn_at turns i).worker ≡ (turn_at turns m).worker)
        → GoesBefore course turns i m
    goes i there held = record {
      number = before.number i there;
      sooner = let runs = ran_some course turns ran i (before.number i there) in elim held [
        | inl excludes ↦
            let done = ran_apart course turns ran (many_is course ticks tick turns is ran) i m (before.other i there) (before.number i there) number excludes (before.no_later i there) in
            omega (arith, runs, done)
        | inr same ↦
            let done = ran_alone course turns ran i m (before.other i there) (before.number i there) number same (before.no_later i there) in
            omega (arith, runs, done)
      ];
      held = held;
    }

    abbrev IsLatest : Option Latest → Type 0
    IsLatest latest = IsLatestExcluding course.tree course.assigned (finish_of work start) noted m latest

    after_latest : (latest : Option Latest) (from s : ℕ) → StartsFrom latest from s → IsLatest latest → (i : ℕ) → Contains noted i
        → ExcludeEachOther course.tree (held_of course.assigned i) (held_of course.assigned m) → finish_of work start i ≤ s
    after_latest None from s starts found i there excludes = absurd (found i (there, excludes))
    after_latest (Some l) from s starts found i there excludes =
        let late = found.number.latest i (there, excludes) in
        let is = found.finish_is in
        omega (arith, starts, late, is)

    by_latest : (latest : Option Latest) (from s t : ℕ) → StartsFrom latest from s → IsLatest latest → from ≤ t
        → ((i : ℕ) → GoesBefore course turns i m → finish_of work start i ≤ t) → s ≤ t
    by_latest None from s t starts found early after = omega (arith, starts, early)
    by_latest (Some l) from s t starts found early after =
        let one = found.number.one in
        let done = after l.number (goes l.number one.0 (inl one.1)) in
        let is = found.finish_is in
        omega (arith, starts, early, done, is)

    module _ (latest : Option Latest) (found : IsLatest latest) (free : ℕ) (is_free : IsFreeFrom turns (finish_of work start) noted (turn_at turns m).worker free)
        (from s : ℕ) (from_is : from ≡ max (begun m / tick) (max (issue_of work start m) free)) (starts : StartsFrom latest from s) where
      start_may : MayStart course tick turns work start m s
      start_may =
          let late = starts_late latest from s starts in record {
            begun = omega (arith, from_is, late);
            issued = omega (arith, from_is, late);
            after = λ i first. elim first.held [
              | inl excludes ↦ after_latest latest from s starts found i (before.all i first.number first.sooner) excludes
              | inr on ↦ let done = is_free.all i (before.all i first.number first.sooner) on in omega (arith, from_is, late, done)
            ];
          }

      free_by : (t : ℕ) → MayStart course tick turns work start m t → free ≤ t
      free_by t may = elim is_free.one [
        | inl zero ↦ omega (arith, zero)
        | inr some ↦ let done = may.after some.0 (goes some.0 some.1 (inr some.2)) in let at = some.3 in omega (arith, at, done)
      ]

      start_least : (t : ℕ) → MayStart course tick turns work start m t → s ≤ t
      start_least t may =
          let free = free_by t may in
          let early : from ≤ t = omega (arith, from_is, may.begun, may.issued, free) in
          by_latest latest from s t starts found early may.after

      -- it is told to start then, where the others are told as before
      pub told_here : (other : Work) (again : ℕ → ℕ) → HasOtherCosts ticks work → HasOtherCosts ticks other → again m ≡ s
          → finish_of other again m ≡ max ((turn_at turns m).finish / tick) (s + 1)
          → ((j : ℕ) → IsAmongFirst course.work.count j → j ≢ m → finish_of other again j ≡ finish_of work start j)
          → IsTold course tick turns other again m
      told_here other again base alike starts_is finishes same =
          let sooner : (j : ℕ) → IsAmongFirst course.work.count j → begun j < begun m → finish_of other again j ≡ finish_of work start j
          = λ j known less. same j known (λ one. let at = ap begun one in omega (arith, at, less)) in
          record {
            may = subst (MayStart course tick turns other again m) (sym starts_is) (may_alike course ticks tick turns is ran m number work other start again base alike sooner s start_may);
            least = λ t may. let least = start_least t (may_back course ticks tick turns is ran m number work other start again base alike sooner t may) in omega (arith, starts_is, least);
            finish = finishes ∙ ap (λ x. max ((turn_at turns m).finish / tick) (x + 1)) (sym starts_is);
          }
