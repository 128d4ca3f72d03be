-- The events of a run, as far as they are of the messages that are kept, are those of a run of these messages alone.
use Rattle.std.proofs.Common.{◌≡◌, ◌≢◌, ◌⊎◌, ℕ, zero, suc, ◌+◌, ◌-◌, ◌*◌, ◌<◌, ◌≤◌, max, inl, inr, true, false, List, [], ◌∷◌, ◌++◌, length, map, get_or, refl, ap, sym, ◌∙◌, subst, arith}
use Rattle.std.proofs.Math.ListN.{length-replicate}
use Rattle.std.proofs.lemmas.Bool.{cases_Bool, cases_eq, cases_lt}
use Rattle.waff_model.specs.Versions.{has_clients}
use Rattle.waff_model.specs.declared.message.Version.{Version}
use Rattle.waff_assign.specs.Held.{ExcludeEachOther}
use Rattle.waff_assign.specs.Order.{held_of}
use Rattle.waff_plan.specs.Obeys.{AwaitsEarlier}
use Rattle.waff_plan.specs.Order.{ComesBefore, Serves}
use Rattle.waff_plan.specs.Work.{Await, Work, IsAmongFirst, IsAwaited, finish_of, issue_after}
use Rattle.waff_plan.proofs.Holding.{issue_again}
use Rattle.waff_line.specs.Machine.{Course, State, Turn, HasBegun, HasCome, HasEnded, IsClear, IsIssued, IsRunning, MayBegin, Runs, Steps, begun_on, ended_at, ended_turn, finish_at, finish_in, issue_in, key_in, measured, no_turn, opening, start_in, told, turn_of, with_clock, with_turn}
use Rattle.waff_line.specs.declared.event.Event.{Event}
use Rattle.waff_line.specs.declared.event.Event.TheVariants.{Tell, Begin, End}
use Rattle.waff_line.proofs.Issuing.{key_with, key_without}
use Rattle.waff_line.proofs.Turns.{begun_number, turn_opening, turn_other, turn_same, turns_as_many}
use Rattle.waff_record.specs.Left.{IsIssuedAmong, await_kept, number_at}

-- what is awaited of those that are kept is so of all, and what is awaited of all is one of those that are kept
await_there : (kept : List ℕ) (awaits : List Await) (i : ℕ) → IsAwaited awaits i → IsAwaited (map (await_kept kept) awaits) (number_at kept i)
await_there kept [] i never = never
await_there kept (a ∷ rest) i (inl same) = inl (ap (number_at kept) same)
await_there kept (a ∷ rest) i (inr more) = inr (await_there kept rest i more)

await_here : (kept : List ℕ) (awaits : List Await) (n : ℕ) → IsAwaited (map (await_kept kept) awaits) n
    → (i : ℕ) × IsAwaited awaits i × (number_at kept i ≡ n)
await_here kept [] n never = absurd never
await_here kept (a ∷ rest) n (inl same) = (a.message, inl refl, same)
await_here kept (a ∷ rest) n (inr more) =
    let (i, awaited, is) = await_here kept rest n more in
    (i, inr awaited, is)

issue_there : (kept : List ℕ) (finish : ℕ → ℕ) (floor : ℕ) (awaits : List Await)
    → issue_after finish floor (map (await_kept kept) awaits) ≡ issue_after (λ i. finish (number_at kept i)) floor awaits
issue_there kept finish floor [] = refl
issue_there kept finish floor (a ∷ rest) = ap (λ n. max (finish (number_at kept a.message) + a.gap) n) (issue_there kept finish floor rest)

-- a number is kept, or it is not
place_of : (kept : List ℕ) (n : ℕ) → ((p : ℕ) × (p < length kept) × (get_or kept p 0 ≡ n)) ⊎ ((p : ℕ) → p < length kept → get_or kept p 0 ≡ n → ⊥)
place_of [] n = inr (λ p less is. omega (arith, less))
place_of (x ∷ xs) n = elim (cases_eq x n) [
  | inl same ↦ inl (0, omega arith, same)
  | inr other ↦ elim (place_of xs n) [
    | inl (p, less, is) ↦ inl (suc p, omega (arith, less), is)
    | inr none ↦ inr (nowhere other none)
  ]
]
  where
    nowhere : (x ≡ n → ⊥) → ((p : ℕ) → p < length xs → get_or xs p 0 ≡ n → ⊥) → (p : ℕ) → p < suc (length xs) → get_or (x ∷ xs) p 0 ≡ n → ⊥
    nowhere other none zero less is = other is
    nowhere other none (suc p) less is = none p (omega (arith, less)) is

pub kept_or_not : (kept : List ℕ) (n : ℕ)
    → ((k : ℕ) × IsAmongFirst (length kept) k × (number_at kept k ≡ n)) ⊎ ((k : ℕ) → IsAmongFirst (length kept) k → number_at kept k ≢ n)
kept_or_not kept n = elim (place_of kept n) [
  | inl (p, less, is) ↦ inl (p + 1, record { from = omega arith; to = omega (arith, less) }, (let at : p + 1 - 1 ≡ p = omega arith in ap (λ i. get_or kept i 0) at) ∙ is)
  | inr none ↦ inr (λ k among is. none (k - 1) (omega (arith, among.from, among.to)) is)
]

-- the course of a run, and that of a run of the messages that are kept
pub record AreCourses (kept : List ℕ) (course cut : Course) : Type 0 where
  pub version : cut.version ≡ course.version
  pub workers : cut.workers ≡ course.workers
  pub count : cut.work.count ≡ length kept
  pub among : (k : ℕ) → IsAmongFirst (length kept) k → IsAmongFirst course.work.count (number_at kept k)
  pub rising : (i j : ℕ) → 1 ≤ i → i < j → j ≤ length kept → number_at kept i < number_at kept j
  pub issued : (k : ℕ) → IsAmongFirst (length kept) k → IsIssuedAmong kept course.work cut.work k
  pub earlier : AwaitsEarlier cut.work
  pub excludes : (i j : ℕ) → IsAmongFirst (length kept) i → IsAmongFirst (length kept) j
      → ExcludeEachOther cut.tree (held_of cut.assigned i) (held_of cut.assigned j)
      → ExcludeEachOther course.tree (held_of course.assigned (number_at kept i)) (held_of course.assigned (number_at kept j))

-- the states of both: of each message that is kept they know the same
pub record AreStates (kept : List ℕ) (course : Course) (s r : State) : Type 0 where
  pub clock : r.clock ≡ s.clock
  pub many : length s.turns ≡ course.work.count
  pub count : length r.turns ≡ length kept
  pub turn : (k : ℕ) → IsAmongFirst (length kept) k → turn_of r k ≡ turn_of s (number_at kept k)

-- another time changes no turn
turn_clock : (s : State) (clock n : ℕ) → turn_of (with_clock s clock) n ≡ turn_of s n
turn_clock s clock zero = refl
turn_clock s clock (suc n) = refl

-- the turn of a message that begins on this worker at this time
abbrev begun_at : ℕ → ℕ → Turn
begun_at x clock = record { worker = x; start = clock; ended = false; finish = 0 }

-- one run behind another
runs_on : (course : Course) (s : State) (events : List Event) (t : State) (more : List Event) (u : State) → Runs course s events t → Runs course t more u
    → Runs course s (events ++ more) u
runs_on course s [] t more u same rest = subst (λ x. Runs course x more u) (sym same) rest
runs_on course s (event ∷ events) t more u (v, leads, runs) rest = (v, leads, runs_on course v events t more u runs rest)

module _ (kept : List ℕ) (course cut : Course) (are : AreCourses kept course cut) where
  -- numbers of messages that are kept are their own
  own : (i j : ℕ) → IsAmongFirst (length kept) i → IsAmongFirst (length kept) j → i ≢ j → number_at kept i ≢ number_at kept j
  own i j first second unlike same = elim (cases_lt i j) [
    | inl less ↦ omega (arith, same, are.rising i j first.from less second.to)
    | inr more ↦ omega (arith, same, are.rising j i second.from (omega (arith, more, unlike)) first.to)
  ]

  awaited_among : (k i : ℕ) → IsAwaited (cut.work.awaits k) i → IsAmongFirst (length kept) i
  awaited_among k i awaited =
      let at = are.earlier i k awaited in
      record { from = at.from; to = omega (arith, at.earlier, at.to, are.count) }

  module _ (s r : State) (both : AreStates kept course s r) where
    ended_there : (k : ℕ) → IsAmongFirst (length kept) k → HasEnded r k → HasEnded s (number_at kept k)
    ended_there k among ended = ap (λ (turn : Turn). turn.ended) (sym (both.turn k among)) ∙ ended

    ended_here : (k : ℕ) → IsAmongFirst (length kept) k → HasEnded s (number_at kept k) → HasEnded r k
    ended_here k among ended = ap (λ (turn : Turn). turn.ended) (both.turn k among) ∙ ended

    issue_is : (k : ℕ) → IsAmongFirst (length kept) k → issue_in cut r k ≡ issue_in course s (number_at kept k)
    issue_is k among =
        let finish = finish_of (measured course s) (start_in s) in
        let is = are.issued k among in
        issue_again (finish_of (measured cut r) (start_in r)) (λ i. finish (number_at kept i)) (cut.work.floor k) (cut.work.awaits k)
        (λ i awaited. ap (λ (turn : Turn). turn.start + (turn.finish - turn.start)) (both.turn i (awaited_among k i awaited)))
        ∙ (sym (issue_there kept finish (cut.work.floor k) (cut.work.awaits k))
        ∙ (ap (λ floor. issue_after finish floor (map (await_kept kept) (cut.work.awaits k))) is.floor
        ∙ ap (issue_after finish (course.work.floor (number_at kept k))) is.awaits))

    issued_there : (k : ℕ) → IsAmongFirst (length kept) k → IsIssued cut r k → IsIssued course s (number_at kept k)
    issued_there k among issued n awaited =
        let (i, waits, is) = await_here kept (cut.work.awaits k) n (subst (λ xs. IsAwaited xs n) (sym (are.issued k among).awaits) awaited) in
        subst (HasEnded s) is (ended_there i (awaited_among k i waits) (issued i waits))

    issued_here : (k : ℕ) → IsAmongFirst (length kept) k → IsIssued course s (number_at kept k) → IsIssued cut r k
    issued_here k among issued i awaited =
        ended_here i (awaited_among k i awaited)
        (issued (number_at kept i) (subst (λ xs. IsAwaited xs (number_at kept i)) (are.issued k among).awaits (await_there kept (cut.work.awaits k) i awaited)))

    key_is : (k : ℕ) → IsAmongFirst (length kept) k → key_in cut r k ≡ key_in course s (number_at kept k)
    key_is k among = elim (cases_Bool (has_clients course.version)) [
      | inl has ↦
          key_with cut.version (measured cut r) (start_in r) k (ap has_clients are.version ∙ has)
          ∙ (issue_is k among ∙ sym (key_with course.version (measured course s) (start_in s) (number_at kept k) has))
      | inr none ↦
          key_without cut.version (measured cut r) (start_in r) k (ap has_clients are.version ∙ none)
          ∙ sym (key_without course.version (measured course s) (start_in s) (number_at kept k) none)
    ]

    comes_there : (i k : ℕ) → IsAmongFirst (length kept) i → IsAmongFirst (length kept) k → ComesBefore (key_in cut r) i k
        → ComesBefore (key_in course s) (number_at kept i) (number_at kept k)
    comes_there i k first second (inl less) = inl (omega (arith, less, key_is i first, key_is k second))
    comes_there i k first second (inr same) = inr (omega (arith, same.0, key_is i first, key_is k second), are.rising i k first.from same.1 second.to)

    clear_here : (k : ℕ) → IsAmongFirst (length kept) k → IsClear course s (number_at kept k) → IsClear cut r k
    clear_here k among clear i issued serves =
        let count = are.count in
        let first : IsAmongFirst (length kept) i = record { from = serves.first.from; to = omega (arith, serves.first.to, count) } in
        ended_here i first
        (clear (number_at kept i) (issued_there i first issued) (record {
          first = are.among i first;
          second = are.among k among;
          precedes = comes_there i k first among serves.precedes;
          excludes = are.excludes i k first among serves.excludes;
        }))

    begun_among : (k : ℕ) → HasBegun r k → IsAmongFirst (length kept) k
    begun_among k begun =
        let number = begun_number r k begun in
        record { from = number.from; to = omega (arith, number.to, both.count) }

    runs_there : (k : ℕ) → IsAmongFirst (length kept) k → IsRunning r k → IsRunning s (number_at kept k)
    runs_there k among running = record {
      begun = subst (λ (turn : Turn). 1 ≤ turn.worker) (both.turn k among) running.begun;
      runs = ap (λ (turn : Turn). turn.ended) (sym (both.turn k among)) ∙ running.runs;
    }

    runs_here : (k : ℕ) → IsAmongFirst (length kept) k → IsRunning s (number_at kept k) → IsRunning r k
    runs_here k among running = record {
      begun = subst (λ (turn : Turn). 1 ≤ turn.worker) (sym (both.turn k among)) running.begun;
      runs = ap (λ (turn : Turn). turn.ended) (both.turn k among) ∙ running.runs;
    }

    may_begin : (x k : ℕ) → IsAmongFirst (length kept) k → MayBegin course s x (number_at kept k) → MayBegin cut r x k
    may_begin x k among may = record {
      worker = subst (λ w. IsAmongFirst w x) (sym are.workers) may.worker;
      free = λ m running same.
          let there = begun_among m running.begun in
          may.free (number_at kept m) (runs_there m there running) (ap (λ (turn : Turn). turn.worker) (sym (both.turn m there)) ∙ same);
      number = record { from = among.from; to = omega (arith, among.to, are.count) };
      waits = λ begun. may.waits (subst (λ (turn : Turn). 1 ≤ turn.worker) (both.turn k among) begun);
      issued = issued_here k among may.issued;
      come = subst (λ (version : Version). HasCome version (issue_in cut r k) r.clock) (sym are.version) (omega (arith, may.come, issue_is k among, both.clock));
      clear = clear_here k among may.clear;
    }

    -- another turn of a message that is kept, and another time
    turned : (n k : ℕ) (turn other : Turn) → IsAmongFirst (length kept) k → number_at kept k ≡ n → other ≡ turn
        → AreStates kept course (with_turn s n turn) (with_turn r k other)
    turned n k turn other among is same =
        let number = are.among k among in
        record {
          clock = both.clock;
          many = turns_as_many s n turn ∙ both.many;
          count = turns_as_many r k other ∙ both.count;
          turn = λ j there. elim (cases_eq j k) [
            | inl at ↦
                ap (turn_of (with_turn r k other)) at
                ∙ (turn_same r k other (record { from = among.from; to = omega (arith, among.to, both.count) })
                ∙ (same
                ∙ (sym (turn_same s n turn (record { from = omega (arith, number.from, is); to = omega (arith, number.to, is, both.many) }))
                ∙ ap (turn_of (with_turn s n turn)) (sym is ∙ ap (number_at kept) (sym at)))))
            | inr off ↦
                turn_other r k j other among.from off
                ∙ (both.turn j there
                ∙ sym (turn_other s n (number_at kept j) turn (omega (arith, number.from, is)) (λ one. own j k there among off (one ∙ sym is))))
          ];
        }

    -- another turn of a message that is not kept
    passed : (n : ℕ) (turn : Turn) → 1 ≤ n → ((k : ℕ) → IsAmongFirst (length kept) k → number_at kept k ≢ n) → AreStates kept course (with_turn s n turn) r
    passed n turn from none = record {
      clock = both.clock;
      many = turns_as_many s n turn ∙ both.many;
      count = both.count;
      turn = λ j there. both.turn j there ∙ sym (turn_other s n (number_at kept j) turn from (none j there));
    }

  -- both at another time
  clocked : (s r : State) (clock other : ℕ) → AreStates kept course s r → other ≡ clock → AreStates kept course (with_clock s clock) (with_clock r other)
  clocked s r clock other both same = record {
    clock = same;
    many = both.many;
    count = both.count;
    turn = λ k among. turn_clock r other k ∙ (both.turn k among ∙ sym (turn_clock s clock (number_at kept k)));
  }

  -- where an event leads the run, events lead the run of those that are kept
  abbrev Follows : State → State → Type 0
  Follows r t = (events : List Event) × (u : State) × Runs cut r events u × AreStates kept course t u

  follows_to : (r t again : State) → t ≡ again → Follows r again → Follows r t
  follows_to r t again same follows = subst (Follows r) (sym same) follows

  tells : (s r : State) (now : ℕ) → AreStates kept course s r → Follows r (told s now)
  tells s r now both =
      (Tell now ∷ [], told r now, (told r now, refl, refl), clocked s r (max s.clock now) (max r.clock now) both (ap (λ clock. max clock now) both.clock))

  begins : (s r : State) (x n : ℕ) → AreStates kept course s r → MayBegin course s x n → Follows r (begun_on s x n)
  begins s r x n both may = elim (kept_or_not kept n) [
    | inl (k, among, is) ↦ (
      Begin x k ∷ [],
      begun_on r x k,
      (begun_on r x k, (may_begin s r both x k among (subst (MayBegin course s x) (sym is) may), refl), refl),
      turned s r both n k (record { worker = x; start = s.clock; ended = false; finish = 0 })
          (record { worker = x; start = r.clock; ended = false; finish = 0 }) among is
          (ap (λ clock. begun_at x clock) both.clock),
    )
    | inr none ↦ ([], r, refl, passed s r both n (record { worker = x; start = s.clock; ended = false; finish = 0 }) may.number.from none)
  ]

  ends : (s r : State) (n now : ℕ) → AreStates kept course s r → IsRunning s n → Follows r (ended_at s n now)
  ends s r n now both running = elim (kept_or_not kept n) [
    | inl (k, among, is) ↦
        let same : turn_of r k ≡ turn_of s n = both.turn k among ∙ ap (turn_of s) is in
        let start : start_in r k ≡ start_in s n = ap (λ (turn : Turn). turn.start) same in
        let finish : finish_at r k now ≡ finish_at s n now
        = ap (λ clock. max (max now clock) (start_in r k + 1)) both.clock ∙ ap (λ begun. max (max now s.clock) (begun + 1)) start in (
          End k now ∷ [],
          ended_at r k now,
          (ended_at r k now, (runs_here s r both k among (subst (IsRunning s) (sym is) running), refl), refl),
          clocked (with_turn s n (ended_turn (turn_of s n) (finish_at s n now))) (with_turn r k (ended_turn (turn_of r k) (finish_at r k now))) (finish_at s n now)
              (finish_at r k now)
              (turned s r both n k (ended_turn (turn_of s n) (finish_at s n now)) (ended_turn (turn_of r k) (finish_at r k now)) among is
              (ap (λ (turn : Turn). ended_turn turn (finish_at r k now)) same ∙ ap (ended_turn (turn_of s n)) finish))
              finish,
        )
    | inr none ↦
        let now_then = finish_at s n now in
        let number = begun_number s n running.begun in (
          Tell now_then ∷ [],
          told r now_then,
          (told r now_then, refl, refl),
          clocked (with_turn s n (ended_turn (turn_of s n) now_then)) r now_then (max r.clock now_then) (passed s r both n (ended_turn (turn_of s n) now_then) number.from none)
              (let clock = both.clock in omega arith),
        )
  ]

  leads : (s r t : State) (event : Event) → AreStates kept course s r → Steps course s event t → Follows r t
  leads s r t (Tell now) both is = follows_to r t (told s now) is (tells s r now both)
  leads s r t (Begin x n) both (may, is) = follows_to r t (begun_on s x n) is (begins s r x n both may)
  leads s r t (End n now) both (running, is) = follows_to r t (ended_at s n now) is (ends s r n now both running)

  pub run_there : (s r t : State) (events : List Event) → AreStates kept course s r → Runs course s events t → Follows r t
  run_there s r t [] both same = ([], r, refl, subst (λ x. AreStates kept course x r) same both)
  run_there s r t (event ∷ events) both (v, step, rest) =
      let (first, u, ran, middle) = leads s r v event both step in
      let (more, w, goes, last) = run_there v u t events middle rest in
      (first ++ more, w, runs_on cut r first u more w ran goes, last)

  pub open_there : AreStates kept course (opening course) (opening cut)
  open_there = record {
    clock = refl;
    many = length-replicate course.work.count no_turn;
    count = length-replicate cut.work.count no_turn ∙ are.count;
    turn = λ k among. turn_opening cut k ∙ sym (turn_opening course (number_at kept k));
  }

-- as many messages as there were at the opening
pub turns_stay : (course : Course) (s t : State) (events : List Event) → Runs course s events t → length t.turns ≡ length s.turns
turns_stay course s t [] same = ap (λ (x : State). length x.turns) (sym same)
turns_stay course s t (event ∷ events) (v, step, rest) = turns_stay course v t events rest ∙ one event step
  where
    one : (e : Event) → Steps course s e v → length v.turns ≡ length s.turns
    one (Tell now) is = ap (λ (x : State). length x.turns) is
    one (Begin x n) (may, is) = ap (λ (x : State). length x.turns) is ∙ turns_as_many s n _
    one (End n now) (running, is) = ap (λ (x : State). length x.turns) is ∙ turns_as_many s n _
