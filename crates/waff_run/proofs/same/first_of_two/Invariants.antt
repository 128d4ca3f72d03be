use Rattle.std.proofs.Common.{◌≡◌, ◌≤◌, Some, length, drop}
use Rattle.std.specs.List.{list_any}
use Rattle.waff_run.specs.Same.{are_one_file, is_same_file}
use Rattle.waff_run.specs.declared.same.Identity.{Identity}
use Rattle.waff_run.proofs.Again.{IsFirstFrom}
use Rattle.waff_run.proofs.same.first_of_two.Given as goal

abbrev pub invariant-loop-at : goal.invariant-loop-at
invariant-loop-at l = record {
  within : l.at ≤ length l.files;
  seen : (file : Identity) → list_any (λ key. is_same_file file key.now) l.behind.keys ≡ list_any (are_one_file (Some file)) (drop l.at l.files);
  first : IsFirstFrom l.files l.at l.first;
}

abbrev pub decreases-loop-at : goal.decreases-loop-at
decreases-loop-at l = l.at
