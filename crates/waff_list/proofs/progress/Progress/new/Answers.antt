use Rattle.std.proofs.Common.{◌≡◌, ℕ, [], List, length, map, ap, ◌∙◌, subst}
use Rattle.std.specs.declared.cmp.Reverse.{Reverse}
use Rattle.std.proofs.lemmas.List.{nil_from_length}
use Rattle.std.proofs.lemmas.List.Sorted.{length_permutation}
use Rattle.waff_plan.specs.Pending.{AreFirst}
use Rattle.waff_plan.specs.Timing.{work_of}
use Rattle.waff_plan.specs.Work.{issue_of}
use Rattle.waff_plan.specs.declared.timing.Timing.{Timing}
use Rattle.waff_list.proofs.progress.Progress.new.Goals as goal

pub first_issues-requires : goal.first_issues-requires
first_issues-requires c = rw c.as_slice.ensures.value (record { few = c.args.task.now.few })

pub returns-clause-issues : goal.returns-clause-issues
returns-clause-issues c =
    subst (λ (ts : List Timing). AreFirst (work_of ts) (issue_of (work_of ts)) c.in_ok-first_issues.field-0) c.as_slice.ensures.value c.in_ok-first_issues.ensures

pub returns-clause-finishes : goal.returns-clause-finishes
returns-clause-finishes c =
    let none : map (λ (r : Reverse (ℕ × ℕ)). r.0) c.new.result.items ≡ [] = ap (λ (xs : List (Reverse (ℕ × ℕ))). map (λ (r : Reverse (ℕ × ℕ)). r.0) xs) c.new.ensures.items in
    nil_from_length c.of.result (length_permutation (map (λ (r : Reverse (ℕ × ℕ)). r.0) c.new.result.items) c.of.result c.of.ensures ∙ ap length none)
