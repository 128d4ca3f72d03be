use Rattle.std.proofs.Common.{◌≡◌, length}
use Rattle.waff_list.specs.Planning.{AreIssuing, IsPlanned, placed_in}
use Rattle.waff_list.specs.Telling.{basis_of}
use Rattle.waff_list.proofs.planner.issue_all.Given as goal

abbrev pub invariant-loop-m : goal.invariant-loop-m
invariant-loop-m l = record {
  basis : basis_of l.waiting.service ≡ basis_of l.initial.waiting.service;
  placed : placed_in l.progress ≡ placed_in l.initial.progress;
  begun : IsPlanned l.task (basis_of l.waiting.service) l.progress l.now 1 l.now;
  kept : AreIssuing l.task l.progress l.waiting l.progress.issues l.now;
}

abbrev pub decreases-loop-m : goal.decreases-loop-m
decreases-loop-m l = length l.progress.issues
