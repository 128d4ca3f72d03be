use Rattle.std.proofs.Common.{◌≡◌, ℕ, ◌<◌, length, get_or, vec_capacity}
use Rattle.waff_plan.specs.Timetable.{starts_in, work_in}
use Rattle.waff_figures.specs.Members.{count_before}
use Rattle.waff_figures.specs.Parts.{ArePartFigures, no_part, part_where}
use Rattle.waff_figures.specs.Tally.{is_in}
use Rattle.waff_figures.proofs.parts.parts_of.Given as goal

abbrev pub invariant-loop-g : goal.invariant-loop-g
invariant-loop-g l = record {
  many : length l.parts.items ≡ l.g;
  room : vec_capacity l.parts ≡ l.grouped.count;
  from : l.from ≡ count_before l.grouped.groups.now (length l.grouped.plan.now.timings) l.g;
  each : (i : ℕ) → i < l.g
      → ArePartFigures (work_in l.grouped.plan.now) (starts_in l.grouped.plan.now) (part_where (work_in l.grouped.plan.now) (is_in l.grouped.groups.now i))
      (get_or l.parts.items i no_part);
}
