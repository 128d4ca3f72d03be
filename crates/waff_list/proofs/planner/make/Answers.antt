use Rattle.std.proofs.Common.{sym, subst}
use Rattle.waff_plan.specs.Timing.{work_of}
use Rattle.waff_list.specs.Planning.{Fits}
use Rattle.waff_list.proofs.IssueBeginning.{begun_at_first, issuing_at_first}
use Rattle.waff_list.proofs.planner.make.Goals as goal

pub go_on-done-requires-clause-begun : goal.go_on-done-requires-clause-begun
go_on-done-requires-clause-begun c =
    let task = c.args.task.now in
    let made = c.in_ok-progress.ensures in
    let none = c.in_ok-waiting.ensures in
    begun_at_first task c.in_ok-progress.progress c.in_ok-waiting.waiting none.waits (subst (λ s. Fits s (work_of task.timings.items)) (sym none.service) c.requires.fits)
    made.starts made.order made.finishes made.idle made.issues made.awaits made.seats

pub go_on-done-requires-clause-kept : goal.go_on-done-requires-clause-kept
go_on-done-requires-clause-kept c =
    let task = c.args.task.now in
    let made = c.in_ok-progress.ensures in
    let none = c.in_ok-waiting.ensures in
    issuing_at_first task c.in_ok-progress.progress c.in_ok-waiting.waiting none.waits (subst (λ s. Fits s (work_of task.timings.items)) (sym none.service) c.requires.fits)
    made.starts made.order made.finishes made.idle made.issues made.awaits
