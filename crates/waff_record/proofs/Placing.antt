-- A plan in which one message has another start and another cost.
use Rattle.std.proofs.Common.{◌≡◌, ◌≢◌, ℕ, ◌+◌, ◌-◌, ◌<◌, inl, inr, List, length, get_or, set, arith, refl, sym, ◌∙◌, ap}
use Rattle.std.proofs.lemmas.Bool.{cases_eq}
use Rattle.std.proofs.lemmas.List.{get_or-set_other, get_or-set_same, length-set}
use Rattle.waff_model.specs.declared.message.Message.{Message}
use Rattle.waff_plan.specs.Timetable.{Timetable, starts_in, timing_at, with_cost, with_turn, work_in}
use Rattle.waff_plan.specs.Timing.{awaits_by, no_timing, timing_of}
use Rattle.waff_plan.specs.declared.timing.Awaited.TheVariants.{Every}
use Rattle.waff_plan.specs.Work.{Work, IsAmongFirst, finish_of}
use Rattle.waff_plan.specs.declared.timing.Timing.{Timing}
use Rattle.waff_record.specs.Ran.{AreTimingsOf}
use Rattle.waff_record.specs.Rounded.{HasOtherCosts}

module _ (plan : Timetable) (n start cost : ℕ) where
  abbrev next : Timetable
  next = with_turn plan n start cost

  pub count_stays : length next.timings ≡ length plan.timings
  count_stays = length-set plan.timings (n - 1) (with_cost (timing_of plan.timings n) cost)

  pub starts_stay : length next.starts ≡ length plan.starts
  starts_stay = length-set plan.starts (n - 1) start

  -- a message whose timing is read at another place has the same one
  other_timing : (m : ℕ) → m - 1 ≢ n - 1 → timing_of next.timings m ≡ timing_of plan.timings m
  other_timing m other = get_or-set_other plan.timings (n - 1) (m - 1) (with_cost (timing_of plan.timings n) cost) no_timing other

  same_timing : n - 1 < length plan.timings → (m : ℕ) → m - 1 ≡ n - 1 → timing_of next.timings m ≡ with_cost (timing_of plan.timings m) cost
  same_timing within m same =
      let new = with_cost (timing_of plan.timings n) cost in
      ap (λ k. get_or (set plan.timings (n - 1) new) k no_timing) same ∙ get_or-set_same plan.timings (n - 1) new no_timing within
      ∙ ap (λ k. with_cost (get_or plan.timings k no_timing) cost) (sym same)

  -- what does not go by the cost stays
  stays : {A : Type 0} (of : Timing → A) → ((timing : Timing) → of (with_cost timing cost) ≡ of timing) → n - 1 < length plan.timings
      → (m : ℕ) → of (timing_of next.timings m) ≡ of (timing_of plan.timings m)
  stays of same within m = elim (cases_eq (m - 1) (n - 1)) [
    | inl here ↦ ap of (same_timing within m here) ∙ same (timing_of plan.timings m)
    | inr there ↦ ap of (other_timing m there)
  ]

  module _ (number : IsAmongFirst (length plan.timings) n) where
    within_timings : n - 1 < length plan.timings
    within_timings = let from = number.from in let to = number.to in omega (arith, from, to)

    pub costs_stay : (ticks : Work) → HasOtherCosts ticks (work_in plan) → HasOtherCosts ticks (work_in next)
    costs_stay ticks has = record {
      count = count_stays ∙ has.count;
      floor = λ m. stays (λ (t : Timing). t.floor) (λ t. refl) within_timings m ∙ has.floor m;
      awaits = λ m. stays (awaits_by Every) (λ t. refl) within_timings m ∙ has.awaits m;
    }

    -- timings are those of messages but for their costs
    pub timings_stay : (messages : List Message) → AreTimingsOf messages plan.timings → AreTimingsOf messages next.timings
    timings_stay messages are = record {
      count = count_stays ∙ are.count;
      each = λ m among. elim (cases_eq (m - 1) (n - 1)) [
        | inl here ↦
            let at = same_timing within_timings m here in
            at ∙ (ap (λ t. with_cost t cost) (are.each m among) ∙ ap (λ (t : Timing). with_cost (timing_at messages m) t.cost) (sym at))
        | inr there ↦
            let at = other_timing m there in
            at ∙ (are.each m among ∙ ap (λ (t : Timing). with_cost (timing_at messages m) t.cost) (sym at))
      ];
    }

    -- another message starts and finishes as it did
    pub start_stays : (m : ℕ) → IsAmongFirst (length plan.timings) m → m ≢ n → starts_in next m ≡ starts_in plan m
    start_stays m known other =
        get_or-set_other plan.starts (n - 1) (m - 1) start 0
        (λ same. other (let from = known.from in let too = number.from in omega (arith, same, from, too)))

    pub finish_stays : (m : ℕ) → IsAmongFirst (length plan.timings) m → m ≢ n → finish_of (work_in next) (starts_in next) m ≡ finish_of (work_in plan) (starts_in plan) m
    finish_stays m known other =
        let there : m - 1 ≢ n - 1 = λ same. other (let from = known.from in let too = number.from in omega (arith, same, from, too)) in
        let timing = ap (λ (t : Timing). t.cost) (other_timing m there) in
        let begins = start_stays m known other in
        omega (arith, timing, begins)

    -- the message itself starts and runs as is told
    pub start_is : length plan.starts ≡ length plan.timings → starts_in next n ≡ start
    start_is long = get_or-set_same plan.starts (n - 1) start 0 (let within = within_timings in omega (arith, within, long))

    pub finish_is : length plan.starts ≡ length plan.timings → finish_of (work_in next) (starts_in next) n ≡ start + cost
    finish_is long =
        let timing = ap (λ (t : Timing). t.cost) (same_timing within_timings n refl) in
        let begins = start_is long in
        omega (arith, timing, begins)
