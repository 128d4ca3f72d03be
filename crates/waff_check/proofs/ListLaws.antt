-- Lists of messages that are awaited: who stands in them, and whom they hold back.
use Rattle.std.proofs.Common.{◌≡◌, ℕ, zero, suc, ◌+◌, ◌<◌, ◌≤◌, inl, inr, List, [], ◌∷◌, ◌++◌, length, get_or, ltb, true, false, arith, refl, sym, ◌∙◌, ap, subst}
use Rattle.std.specs.List.{AllPairs}
use Rattle.std.specs.List.Sorted.{IsNonDecreasingBy, IsPartitionPoint}
use Rattle.std.proofs.lemmas.Bool.{cases_eq, cases_lt, ltb-false, ltb-true}
use Rattle.waff_model.specs.Messages.{Arrivals, IsTrace}
use Rattle.waff_plan.specs.Timetable.{timings_of}
use Rattle.waff_plan.specs.Timing.{await_of, client_work_of, timing_of, work_of}
use Rattle.waff_plan.specs.Work.{Await, IsAmongFirst, IsAwaited, Work, finish_of, gap_after, holds_until, issue_after, issue_of}
use Rattle.waff_plan.specs.declared.timing.Timing.{Timing}
use Rattle.waff_plan.proofs.AwaitLemmas.{awaited_at, issue_after-append}
use Rattle.waff_plan.proofs.Holding.{awaited-le-issue, gap_other, gap_same, issued_by}
use Rattle.waff_plan.proofs.TimingLemmas.{length-timings_of, list_at, timing_is}
use Rattle.waff_check.specs.Faults.{IsLeastOf, NoneOf, StartsEarly, StartsHeld, StartsUnissued}
use Rattle.waff_check.specs.Listed.{list_work_of}

-- the list of a message of a trace rises
pub list_rises : (trace : Arrivals) → IsTrace trace → (n : ℕ) → IsAmongFirst (length (timings_of trace.messages)) n
    → AllPairs (λ a b. a.message < b.message) (timing_of (timings_of trace.messages) n).after
list_rises trace is n number =
    let there : IsAmongFirst (length trace.messages) n = record { from = number.from; to = omega (arith, number.to, length-timings_of trace.messages) } in
    subst (λ (t : Timing). AllPairs (λ a b. a.message < b.message) t.after) (sym (timing_is trace.messages n there)) (list_at trace is n there).rising

-- where a message that is awaited stands
pub place_of : (xs : List Await) (i : ℕ) (d : Await) → IsAwaited xs i → (k : ℕ) × (k < length xs) × ((get_or xs k d).message ≡ i)
place_of [] i d never = absurd never
place_of (a ∷ xs) i d (inl same) = (zero, omega arith, same)
place_of (a ∷ xs) i d (inr more) = let (k, within, is) = place_of xs i d more in (suc k, omega arith, is)

-- the greatest gap behind a message is at least that at each of its places
pub gap_at : (xs : List Await) (k : ℕ) (d : Await) → k < length xs → (get_or xs k d).gap ≤ gap_after (get_or xs k d).message xs
gap_at [] k d within = absurd (omega (arith, within))
gap_at (a ∷ xs) zero d within = omega (arith, gap_same a a.message refl)
gap_at (a ∷ xs) (suc k) d within = let more = gap_at xs k d (omega (arith, within)) in omega (arith, more)

-- what has finished by a tick, and with each of its gaps, holds back no longer
held_within : (xs : List Await) (i finish t : ℕ) (d : Await) → finish ≤ t
    → ((k : ℕ) → k < length xs → (get_or xs k d).message ≡ i → finish + (get_or xs k d).gap ≤ t) → finish + gap_after i xs ≤ t
held_within [] i finish t d done each = omega (arith, done)
held_within (a ∷ xs) i finish t d done each =
    let more = held_within xs i finish t d done (λ k within is. each (suc k) (omega (arith, within)) is) in
    elim (cases_eq a.message i) [
      | inl same ↦ (let first = each zero (omega arith) same in omega (arith, first, more, gap_same a i same))
      | inr other ↦ omega (arith, more, done, gap_other a i other)
    ]

-- nothing at a place below n holds back what starts at this tick
abbrev pub ClearBelow : (ℕ → ℕ) → ℕ → List Await → ℕ → Type 0
ClearBelow finish t xs n = (k : ℕ) (d : Await) → k < n → finish (get_or xs k d).message + (get_or xs k d).gap ≤ t

module _ (timings : List Timing) (start : ℕ → ℕ) (n : ℕ) where
  abbrev list : List Await
  list = (timing_of timings n).after

  abbrev finish : ℕ → ℕ
  finish = finish_of (list_work_of timings) start

  -- what is held stands at a place that is not clear
  held_past : (i k : ℕ) (d : Await) → ClearBelow finish (start n) list k → StartsHeld (list_work_of timings) start n i
      → ((j : ℕ) → k ≤ j → j < length list → (get_or list j d).message ≡ i → ⊥) → ⊥
  held_past i k d clear held none =
      let at : (j : ℕ) → j < length list → (get_or list j d).message ≡ i → finish i + (get_or list j d).gap ≤ start n
      = λ j within is. elim (cases_lt j k) [
        | inl below ↦ (let one = clear j d below in let same : finish (get_or list j d).message ≡ finish i = ap finish is in omega (arith, one, same))
        | inr past ↦ absurd (none j past within is)
      ] in
      let (j, within, is) = place_of list i d held.awaits in
      let there = at j within is in
      let kept = held_within list i (finish i) (start n) d (omega (arith, there)) at in
      omega (arith, kept, held.early)

  pub none_held : ClearBelow finish (start n) list (length list) → NoneOf (StartsHeld (list_work_of timings) start n)
  none_held clear i held =
      held_past i (length list) (record { message = 0; gap = 0 }) clear held (λ j past within is. omega (arith, past, within))

  -- where all below a place are clear, and what stands there is not, that is the first that holds back
  pub first_held : AllPairs (λ a b. a.message < b.message) list → IsAmongFirst (length timings) n → (k : ℕ) (d : Await) → k < length list
      → ClearBelow finish (start n) list k → start n < finish (get_or list k d).message + (get_or list k d).gap
      → IsLeastOf (StartsHeld (list_work_of timings) start n) (get_or list k d).message
  first_held rising number k d within clear early = record {
    holds = record {
      number = number;
      awaits = awaited_at list k d within;
      early = (let gap = gap_at list k d within in omega (arith, gap, early));
    };
    least = λ i held. elim (cases_lt i (get_or list k d).message) [
      | inl less ↦ absurd (held_past i k d clear held (λ j past inside is. elim (cases_eq k j) [
        | inl same ↦ (let at : (get_or list k d).message ≡ (get_or list j d).message = ap (λ p. (get_or list p d).message) same in omega (arith, less, at, is))
        | inr other ↦ (let later = rising k j d (omega (arith, past, other)) inside in omega (arith, less, later, is))
      ]))
      | inr no_less ↦ no_less
    ];
  }

-- a message is issued no sooner by more that it awaits
issue_first : (finish : ℕ → ℕ) (floor : ℕ) (xs ys : List Await) → issue_after finish floor xs ≤ issue_after finish floor (xs ++ ys)
issue_first finish floor [] [] = omega arith
issue_first finish floor [] (a ∷ ys) = let more = issue_first finish floor [] ys in omega (arith, more)
issue_first finish floor (a ∷ xs) ys = let more = issue_first finish floor xs ys in omega (arith, more)

issue_second : (finish : ℕ → ℕ) (floor : ℕ) (xs ys : List Await) → issue_after finish floor ys ≤ issue_after finish floor (xs ++ ys)
issue_second finish floor [] ys = omega arith
issue_second finish floor (a ∷ xs) ys = let more = issue_second finish floor xs ys in omega (arith, more)

-- a message that is neither early nor held back by its client or its list
module _ (timings : List Timing) (start : ℕ → ℕ) where
  abbrev work : Work
  work = work_of timings

  pub starts_issued : NoneOf (StartsEarly work start) → NoneOf (StartsUnissued (client_work_of timings) start)
      → ((n i : ℕ) → StartsHeld (list_work_of timings) start n i → ⊥) → (m : ℕ) → IsAmongFirst (length timings) m → issue_of work start m ≤ start m
  starts_issued late issued free m number =
      let timing = timing_of timings m in
      let own = await_of timing.follows timing.think in
      let finish = finish_of work start in
      let listed : issue_after finish timing.floor timing.after ≤ start m
      = issued_by finish timing.floor (start m) timing.after
      (elim (cases_lt (start m) timing.floor) [
        | inl early ↦ absurd (late m (record { number = number; early = early }))
        | inr released ↦ released
      ])
      (λ i awaited. elim (cases_lt (start m) (holds_until (list_work_of timings) start m i)) [
        | inl early ↦ absurd (free m i (record { number = number; awaits = awaited; early = early }))
        | inr after ↦ after
      ]) in
      subst (λ t. t ≤ start m) (sym (issue_after-append finish timing.floor own timing.after))
      (issued_by finish (issue_after finish timing.floor timing.after) (start m) own listed
      (λ i awaited. elim (cases_lt (start m) (holds_until (client_work_of timings) start m i)) [
        | inl early ↦ absurd (issued m (record { awaited = i; held = record { number = number; awaits = awaited; early = early } }))
        | inr after ↦ after
      ]))

  -- what is issued when it starts is neither
  module _ (issued : (m : ℕ) → IsAmongFirst (length timings) m → issue_of work start m ≤ start m) where
    pub none_unissued : NoneOf (StartsUnissued (client_work_of timings) start)
    none_unissued m early =
        let timing = timing_of timings m in
        let client = awaited-le-issue (client_work_of timings) start early.awaited m early.held.awaits in
        let all = issue_first (finish_of work start) timing.floor (await_of timing.follows timing.think) timing.after in
        omega (arith, client, all, issued m early.held.number, early.held.early)

    pub none_listed : (n i : ℕ) → StartsHeld (list_work_of timings) start n i → ⊥
    none_listed n i held =
        let timing = timing_of timings n in
        let listed = awaited-le-issue (list_work_of timings) start i n held.awaits in
        let all = issue_second (finish_of work start) timing.floor (await_of timing.follows timing.think) timing.after in
        omega (arith, listed, all, issued n held.number, held.early)

-- the first place of a rising list from which on no message is below this one
pub point_finds : (xs : List Await) (i k : ℕ) → AllPairs (λ a b. a.message < b.message) xs
    → IsPartitionPoint (λ (a : Await). ltb a.message i ≡ true) (λ (a : Await). ltb a.message i ≡ false) xs k
    → IsAwaited xs i → (d : Await) → (k < length xs) × ((get_or xs k d).message ≡ i)
point_finds xs i k rising point awaited d =
    let (j, within, is) = place_of xs i d awaited in
    elim (cases_lt j k) [
      | inl below ↦ absurd (let less = ltb-true (get_or xs j d).message i (point.0 j d (omega arith) below) in omega (arith, less, is))
      | inr past ↦ elim (cases_eq k j) [
        | inl same ↦ (omega (arith, same, within), ap (λ p. (get_or xs p d).message) same ∙ is)
        | inr other ↦ absurd (
            let before = rising k j d (omega (arith, past, other)) within in
            let no_less = ltb-false (get_or xs k d).message i (point.1 k d (omega arith) (omega (arith, past, within))) in
            omega (arith, before, no_less, is))
      ]
    ]

pub rises_by_number : (xs : List Await) → AllPairs (λ a b. a.message < b.message) xs → IsNonDecreasingBy (λ (a : Await). a.message) xs
rises_by_number xs rising i j d le within = elim (cases_eq i j) [
  | inl same ↦ (let at : (get_or xs i d).message ≡ (get_or xs j d).message = ap (λ p. (get_or xs p d).message) same in omega (arith, at))
  | inr other ↦ (let less = rising i j d (omega (arith, le, other)) within in omega (arith, less))
]
