use Rattle.std.proofs.Common.{◌≡◌, ℕ, List}
use Rattle.waff_model.specs.Versions.{has_clients}
use Rattle.waff_plan.specs.Timetable.{timings_of}
use Rattle.waff_plan.specs.Turns.{HoldsWaits, is_by_issue, turns_in}
use Rattle.waff_waits.specs.Waits.{WhoWaits}
use Rattle.waff_plan.proofs.IssueLoop.{IsGoing}
use Rattle.waff_plan.proofs.unlimited.linked_plan.Given as goal

abbrev pub invariant-loop-m : goal.invariant-loop-m
invariant-loop-m l = record {
  order : List ℕ;
  waits : WhoWaits;
  going : IsGoing l.case.tree.now l.case.assigned.now l.plan order l.links.items l.left (turns_in l.turns) waits l.table;
  holds : HoldsWaits l.turns waits;
  version : l.plan.version ≡ l.case.trace.now.version;
  timings : l.plan.timings ≡ timings_of l.case.trace.now.messages;
  tree : l.table.tree ≡ l.case.tree.now;
  assigned : l.table.assigned ≡ l.case.assigned.now;
  by : is_by_issue l.turns ≡ has_clients l.plan.version;
}

abbrev pub decreases-loop-m : goal.decreases-loop-m
decreases-loop-m l = l.left
