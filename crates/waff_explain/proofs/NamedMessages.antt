-- The messages that a verdict names are messages of the trace.
use Rattle.std.proofs.Common.{◌≡◌, ◌≢◌, ℕ, ◌≤◌, List, length, Bool, true, false, arith, subst}
use Rattle.waff_model.specs.Messages.{Arrivals, IsTrace}
use Rattle.waff_model.specs.Numbers.{IsAmongFirst}
use Rattle.waff_model.specs.Versions.{has_clients}
use Rattle.waff_model.specs.declared.message.Message.{Message}
use Rattle.waff_assign.specs.Order.{Relation}
use Rattle.waff_plan.specs.Timetable.{client_work_of_messages, timings_of, work_of_messages}
use Rattle.waff_plan.specs.Timing.{await_of, timing_of}
use Rattle.waff_plan.specs.Work.{IsNumber, Work}
use Rattle.waff_plan.proofs.AwaitLemmas.{awaited_right}
use Rattle.waff_plan.proofs.FollowLemmas.{awaited_some}
use Rattle.waff_plan.proofs.TimingLemmas.{are_timings, length-timings_of}
use Rattle.waff_check.specs.Faults.{OverlapsWhere, StartsHeld, StartsUnissued}
use Rattle.waff_check.specs.Listed.{list_work_of}
use Rattle.waff_check.specs.Verdicts.{Claim, IsFound, PairOverlaps, pairs_of_claim, start_in, version_of, work_of_claim}
use Rattle.waff_check.specs.declared.verdict.Verdict.{Verdict}

-- what is found is found of this verdict
pub found_as : (claim : Claim) (v this : Verdict) → v ≡ this → IsFound claim v → IsFound claim this
found_as claim v this is found = subst (λ w. IsFound claim w) is found

-- a number of a message of the work of a trace is one of its messages
pub is_named : (messages : List Message) (n : ℕ) → IsNumber (work_of_messages messages) n → IsAmongFirst (length messages) n
is_named messages n is = record { from = is.from; to = omega (arith, is.to, length-timings_of messages) }

ordered : (clients : Bool) (before : Relation) (work : Work) (start : ℕ → ℕ) (i j : ℕ)
    → OverlapsWhere clients before work start i j → before i j
ordered false before work start i j overlaps = overlaps.ordered
ordered true before work start i j overlaps = overlaps.ordered

-- the two messages of an overlap
pub pair_is_named : (claim : Claim) (first second : ℕ)
    → length claim.instance.assigned ≡ length claim.instance.trace.messages
    → PairOverlaps claim first second
    → IsAmongFirst (length claim.instance.trace.messages) first × IsAmongFirst (length claim.instance.trace.messages) second
pair_is_named claim first second lengths overlaps =
    let pair =
    ordered (has_clients (version_of claim)) (pairs_of_claim claim) (work_of_claim claim) (start_in claim) first second overlaps in (
      record { from = pair.from; to = omega (arith, pair.earlier, pair.to, lengths) },
      record { from = omega (arith, pair.from, pair.earlier); to = omega (arith, pair.to, lengths) },
    )

-- a message that starts before its client issues it follows one
pub follows_one : (messages : List Message) (start : ℕ → ℕ) (n : ℕ) → StartsUnissued (client_work_of_messages messages) start n
    → 1 ≤ (timing_of (timings_of messages) n).follows
follows_one messages start n unissued =
    let timing = timing_of (timings_of messages) n in
    let some : timing.follows ≢ 0 = awaited_some timing.follows timing.think unissued.awaited unissued.held.awaits in
    omega (arith, some)

-- and a message of the list of another one
pub listed_is_named : (trace : Arrivals) → IsTrace trace → (start : ℕ → ℕ) (n i : ℕ) → StartsHeld (list_work_of (timings_of trace.messages)) start n i
    → IsAmongFirst (length trace.messages) i
listed_is_named trace is start n i held =
    let timing = timing_of (timings_of trace.messages) n in
    let earlier = (are_timings trace is).earlier i n (awaited_right (await_of timing.follows timing.think) timing.after i held.awaits) in
    record { from = earlier.from; to = omega (arith, earlier.earlier, earlier.to, length-timings_of trace.messages) }
