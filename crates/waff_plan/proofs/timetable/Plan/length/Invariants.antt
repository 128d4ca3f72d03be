use Rattle.std.proofs.Common.{◌≡◌, ◌+◌, ◌-◌, ◌^◌, ◌<◌, map}
use Rattle.std.specs.List.{range_with_len}
use Rattle.waff_plan.specs.Work.{finish_of, greatest}
use Rattle.waff_plan.specs.Timetable.{work_in, starts_in}
use Rattle.waff_model.specs.declared.limits.TheConstants.{MAX_TICK}
use Rattle.waff_plan.proofs.timetable.Plan.length.Given as goal

abbrev pub invariant-loop-n : goal.invariant-loop-n
invariant-loop-n l = record {
  greatest_is : l.length ≡ greatest (map (finish_of (work_in l.self) (starts_in l.self)) (range_with_len 1 (l.n - 1)));
  small : l.length < MAX_TICK + 2 ^ 32;
}
