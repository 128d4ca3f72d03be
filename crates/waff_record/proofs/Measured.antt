-- A trace that is the same but for its costs is the same work but for its costs.
use Rattle.std.proofs.Common.{◌≡◌, ℕ, zero, suc, ◌+◌, ◌-◌, ◌<◌, ◌≤◌, List, [], ◌++◌, length, get_or, inl, inr, arith, sym, ◌∙◌, ap, ap₂}
use Rattle.std.proofs.lemmas.Bool.{cases_lt}
use Rattle.std.proofs.lemmas.List.{ext_get_or, get_or-map, get_or_past, length-map}
use Rattle.std.proofs.lemmas.List.FromFn.{get_or-map-range_with_len}
use Rattle.waff_model.specs.Messages.{Arrivals}
use Rattle.waff_model.specs.declared.message.Message.{Message}
use Rattle.waff_plan.specs.Clients.{one_before}
use Rattle.waff_plan.specs.Timetable.{Timetable, clients_of, floor_of, message_of, no_message, timing_at, timings_of, with_cost, work_of_messages}
use Rattle.waff_plan.specs.Timing.{awaits_by, await_of, no_timing, timing_of}
use Rattle.waff_plan.specs.Work.{Await, IsAmongFirst}
use Rattle.waff_plan.specs.declared.timing.Awaited.TheVariants.{Every}
use Rattle.waff_plan.specs.declared.timing.Timing.{Timing}
use Rattle.waff_plan.proofs.TimingLemmas.{length-timings_of}
use Rattle.waff_record.specs.Ran.{AreTimingsOf}
use Rattle.waff_record.specs.Rounded.{HasOtherCosts}
use Rattle.waff_record.specs.Runs.{IsMeasured, IsSameButCost, IsToldTrace}

floor_alike : (message other : Message) → IsSameButCost message other → (follows : ℕ) → floor_of other follows ≡ floor_of message follows
floor_alike message other same zero = let release = same.release in let think = same.think in omega (arith, release, think)
floor_alike message other same (suc n) = same.release

module _ (trace measured : Arrivals) (is : IsMeasured trace measured) where
  same_at : (k : ℕ) → k < length trace.messages → IsSameButCost (message_of trace.messages (k + 1)) (message_of measured.messages (k + 1))
  same_at k within = is.each (k + 1) (record { from = omega arith; to = omega (arith, within) })

  client_at : (messages : List Message) (k : ℕ) → k < length messages → get_or (clients_of messages) k [] ≡ (message_of messages (k + 1)).client
  client_at messages k within =
      let here : k + 1 - 1 ≡ k = omega arith in
      get_or-map (λ (message : Message). message.client) messages k no_message [] within ∙ ap (λ i. (get_or messages i no_message).client) (sym here)

  clients_alike : clients_of measured.messages ≡ clients_of trace.messages
  clients_alike =
      ext_get_or [] (clients_of measured.messages) (clients_of trace.messages)
      (length-map measured.messages (λ (message : Message). message.client) ∙ (is.count ∙ sym (length-map trace.messages (λ (message : Message). message.client))))
      (λ k within.
      let many = length-map measured.messages (λ (message : Message). message.client) in
      let count = is.count in
      let short : k < length trace.messages = omega (arith, within, many, count) in
      client_at measured.messages k (omega (arith, short, count)) ∙ ((same_at k short).client ∙ sym (client_at trace.messages k short)))

  timing_there : (messages : List Message) (m : ℕ) → m - 1 < length messages → timing_of (timings_of messages) m ≡ timing_at messages (m - 1 + 1)
  timing_there messages m within = get_or-map-range_with_len (timing_at messages) 1 (length messages) (m - 1) (m - 1 + 1) no_timing within (omega arith)

  timing_past : (messages : List Message) (m : ℕ) → length messages ≤ m - 1 → timing_of (timings_of messages) m ≡ no_timing
  timing_past messages m past = get_or_past (timings_of messages) (m - 1) no_timing (omega (arith, past, length-timings_of messages))

  -- what is the same of all timings that differ in their costs alone
  alike : {A : Type 0} (of : Timing → A) → ((k : ℕ) → k < length trace.messages → of (timing_at measured.messages (k + 1)) ≡ of (timing_at trace.messages (k + 1)))
      → (m : ℕ) → of (timing_of (timings_of measured.messages) m) ≡ of (timing_of (timings_of trace.messages) m)
  alike of same m =
      let count = is.count in
      elim (cases_lt (m - 1) (length trace.messages)) [
        | inl within ↦
            ap of (timing_there measured.messages m (omega (arith, within, count))) ∙ (same (m - 1) within ∙ ap of (sym (timing_there trace.messages m within)))
        | inr past ↦ ap of (timing_past measured.messages m (omega (arith, past, count)) ∙ sym (timing_past trace.messages m past))
      ]

  follows_alike : (n : ℕ) → one_before (clients_of measured.messages) n ≡ one_before (clients_of trace.messages) n
  follows_alike n = ap (λ cs. one_before cs n) clients_alike

  pub measured_costs : HasOtherCosts (work_of_messages trace.messages) (work_of_messages measured.messages)
  measured_costs = record {
    count = length-timings_of measured.messages ∙ (is.count ∙ sym (length-timings_of trace.messages));
    floor = alike (λ (t : Timing). t.floor) (λ k within.
        floor_alike (message_of trace.messages (k + 1)) (message_of measured.messages (k + 1)) (same_at k within) (one_before (clients_of measured.messages) (k + 1))
        ∙ ap (floor_of (message_of trace.messages (k + 1))) (follows_alike (k + 1)));
    awaits = alike (awaits_by Every) (λ k within. ap₂ (λ xs ys. xs ++ ys) (ap₂ await_of (follows_alike (k + 1)) (same_at k within).think) (same_at k within).after);
  }

-- the timings that are told of messages are those of the trace that has their costs
pub timings_told : (trace measured : Arrivals) (plan : Timetable) → AreTimingsOf trace.messages plan.timings → IsToldTrace trace plan measured
    → plan.timings ≡ timings_of measured.messages
timings_told trace measured plan are is =
    let count = is.measured.count in
    let many = length-timings_of measured.messages in
    ext_get_or no_timing plan.timings (timings_of measured.messages) (are.count ∙ (sym count ∙ sym many))
    (λ k within.
    let short : k < length trace.messages = omega (arith, within, are.count) in
    let among : IsAmongFirst (length trace.messages) (k + 1) = record { from = omega arith; to = omega (arith, short) } in
    let same = is.measured.each (k + 1) among in
    let one : get_or plan.timings k no_timing ≡ with_cost (timing_at trace.messages (k + 1)) (timing_of plan.timings (k + 1)).cost
    = ap (λ i. get_or plan.timings i no_timing) (place k) ∙ are.each (k + 1) among in
    let follows = follows_alike trace measured is.measured (k + 1) in
    let before = one_before (clients_of measured.messages) (k + 1) in
    let costs = is.costs (k + 1) among in
    let floors : floor_of (message_of trace.messages (k + 1)) (one_before (clients_of trace.messages) (k + 1)) ≡ floor_of (message_of measured.messages (k + 1)) before
    = ap (floor_of (message_of trace.messages (k + 1))) (sym follows) ∙ sym (floor_alike (message_of trace.messages (k + 1)) (message_of measured.messages (k + 1)) same before) in
    let other : get_or (timings_of measured.messages) k no_timing ≡ timing_at measured.messages (k + 1)
    = get_or-map-range_with_len (timing_at measured.messages) 1 (length measured.messages) k (k + 1) no_timing (omega (arith, short, count)) (omega arith) in
    one
    ∙ (fields _ _ _ _ _ _ _ _ _ _ (sym costs) floors (sym follows) (sym same.think) (sym same.after) ∙ sym other))
  where
    place : (k : ℕ) → k ≡ k + 1 - 1
    place k = omega arith

    fields : (cost floor follows think : ℕ) (after : List Await) (cost' floor' follows' think' : ℕ) (after' : List Await) → cost ≡ cost' → floor ≡ floor'
        → follows ≡ follows' → think ≡ think' → after ≡ after'
        → ◌≡◌ {A = Timing} (record { cost = cost; floor = floor; follows = follows; think = think; after = after })
        (record { cost = cost'; floor = floor'; follows = follows'; think = think'; after = after' })
    fields cost floor follows think after cost' floor' follows' think' after' a b c d e = cc
