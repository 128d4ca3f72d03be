use Rattle.std.proofs.Common.{◌≡◌, ℕ, List, length, option_map}
use Rattle.waff_plan.specs.ByStart.{walk_of}
use Rattle.waff_plan.specs.Serving.{started_before}
use Rattle.waff_plan.specs.Table.{IsTable}
use Rattle.waff_plan.specs.Timetable.{work_in, starts_in}
use Rattle.waff_plan.specs.Waits.{IsWait}
use Rattle.waff_plan.specs.Work.{finish_of}
use Rattle.waff_plan.proofs.Noted.{AreNoted}
use Rattle.waff_plan.proofs.StartedLinks.{AreFirstLinks}
use Rattle.waff_plan.proofs.waits.waits.Given as goal

abbrev pub invariant-loop-place : goal.invariant-loop-place
invariant-loop-place l = record {
  noted : List ℕ;
  are_noted : AreNoted (walk_of (length l.plan.timings) (option_map (λ list. list.items) l.started)) (λ i. Unit {0}) l.place noted;
  count : length l.waits.items ≡ length l.plan.timings;
  waits : AreFirstLinks (IsWait l.since (started_before l.plan.version l.tree l.assigned (starts_in l.plan)) (work_in l.plan) (starts_in l.plan)) (walk_of (length l.plan.timings) (option_map (λ list. list.items) l.started)) l.waits.items l.place;
  table : IsTable (finish_of (work_in l.plan) (starts_in l.plan)) noted l.table;
  tree : l.table.tree ≡ l.tree;
  assigned : l.table.assigned ≡ l.assigned;
}
