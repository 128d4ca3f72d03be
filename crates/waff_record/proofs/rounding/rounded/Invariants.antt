use Rattle.std.proofs.Common.{◌≡◌, ◌<◌, ◌≤◌, ℕ, List, length}
use Rattle.waff_plan.specs.ByStart.{started_at}
use Rattle.waff_plan.specs.Table.{IsTable}
use Rattle.waff_plan.specs.Timetable.{starts_in, work_in}
use Rattle.waff_plan.specs.Work.{finish_of}
use Rattle.waff_plan.proofs.Noted.{AreNoted}
use Rattle.waff_record.specs.Ran.{AreTimingsOf, course_run, ticks_run}
use Rattle.waff_record.specs.Rounded.{HasOtherCosts, IsTold}
use Rattle.waff_record.specs.declared.rounding.TheConstants.{MAX_RUN}
use Rattle.waff_record.proofs.Pass.{AreFree}
use Rattle.waff_record.proofs.rounding.rounded.Given as goal

abbrev pub invariant-loop-place : goal.invariant-loop-place
invariant-loop-place l = record {
  noted : List ℕ;
  are_noted : AreNoted l.began.items (λ i. Unit {0}) l.place noted;
  version : l.plan.version ≡ l.run.case.trace.now.version;
  long : length l.plan.starts ≡ length l.plan.timings;
  costs : HasOtherCosts (ticks_run l.run) (work_in l.plan);
  told : (p : ℕ) → p < l.place
      → IsTold (course_run l.run) l.run.tick l.run.turns.now (work_in l.plan) (starts_in l.plan) (started_at l.began.items p).number;
  timings : AreTimingsOf l.run.case.trace.now.messages l.plan.timings;
  timely : (p : ℕ) → p < l.place → finish_of (work_in l.plan) (starts_in l.plan) (started_at l.began.items p).number ≤ MAX_RUN;
  table : IsTable (finish_of (work_in l.plan) (starts_in l.plan)) noted l.table;
  free : AreFree l.run.turns.now (finish_of (work_in l.plan) (starts_in l.plan)) noted l.run.workers l.free.items;
  seats : length l.free.items ≡ l.run.workers;
  tree : l.table.tree ≡ l.run.case.tree.now;
  assigned : l.table.assigned ≡ l.run.case.assigned.now;
}
