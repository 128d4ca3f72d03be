-- The work of the messages of a trace, and the order of their needs.
use Rattle.std.proofs.Common.{◌≡◌, ℕ, ◌-◌, List, length, All, arith}
use Rattle.waff_model.specs.declared.message.Message.{Message}
use Rattle.waff_model.specs.Messages.{Arrivals, IsTrace}
use Rattle.waff_plan.specs.Work.{Work}
use Rattle.waff_plan.specs.Obeys.{IsEarlier}
use Rattle.waff_plan.proofs.FollowLemmas.{gap_limit}
use Rattle.waff_plan.proofs.TimingLemmas.{are_timings, length-timings_of}
use Rattle.waff_plan.specs.Timing.{IsTiming, no_timing, timing_of, work_of}
use Rattle.waff_plan.specs.Timetable.{timings_of}
use Rattle.waff_plan.specs.declared.timing.Awaited.TheVariants.{Every}
use Rattle.waff_plan.specs.declared.timing.Timing.{Timing}
use Rattle.waff_order.specs.Needs.{IsNeed, AreLists}
use Rattle.waff_order.proofs.NeedLemmas.{need_within}
use Rattle.waff_list.specs.Progress.{work_of_messages, IsSmall}

pub count_is : (messages : List Message) → (work_of_messages messages).count ≡ length messages
count_is = length-timings_of

-- small timings are those of small work
pub small_timings : (timings : List Timing) → All IsTiming timings → IsSmall (work_of timings)
small_timings timings small = record {
  some_cost = λ m number. let t = small (m - 1) no_timing (omega (arith, number.from, number.to)) in t.some_cost;
  cost = λ m number. let t = small (m - 1) no_timing (omega (arith, number.from, number.to)) in t.cost;
  floor = λ m number. let t = small (m - 1) no_timing (omega (arith, number.from, number.to)) in t.floor;
  gap = λ i m number. gap_limit Every (timing_of timings m) i (small (m - 1) no_timing (omega (arith, number.from, number.to)));
}

-- the messages of a trace are small
pub trace_is_small : (trace : Arrivals) → IsTrace trace → IsSmall (work_of_messages trace.messages)
trace_is_small trace is_trace = small_timings (timings_of trace.messages) (are_timings trace is_trace).small

-- a need comes earlier
pub needs_earlier : (needs : List (List ℕ)) (work : Work) → AreLists needs → length needs ≡ work.count → (i j : ℕ) → IsNeed needs i j → IsEarlier work i j
needs_earlier needs work lists same i j need =
    record { from = lists.from i j need; earlier = lists.earlier i j need; to = omega (arith, same, need_within needs i j need) }
