use Rattle.std.proofs.Common.{ℕ, List, sym, subst}
use Rattle.waff_plan.specs.Timing.{HasIssue}
use Rattle.waff_list.specs.Issuing.{IsOpened}
use Rattle.waff_list.proofs.progress.Progress.start.Goals as goal

pub admit-requires-clause-issued : goal.admit-requires-clause-issued
admit-requires-clause-issued c =
    subst (λ (xs : List ℕ). (d : ℕ) → IsOpened c.args.self.now.awaits c.args.m d → HasIssue c.args.task.now.timings.items xs d) (sym c.as_slice.ensures.value) c.requires.issued
