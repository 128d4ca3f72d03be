-- What messages await by their lists alone.
use Rattle.std.specs.Prelude.{List, length}
use Rattle.waff_plan.specs.Timing.{timing_of}
use Rattle.waff_plan.specs.Work.{Work}
use Rattle.waff_plan.specs.declared.timing.Timing.{Timing}

-- the work of messages with these timings, of which each awaits those of its list alone
abbrev pub list_work_of : List Timing → Work
list_work_of timings = record {
  count = length timings;
  cost = λ m. (timing_of timings m).cost;
  floor = λ m. (timing_of timings m).floor;
  awaits = λ m. (timing_of timings m).after;
}
