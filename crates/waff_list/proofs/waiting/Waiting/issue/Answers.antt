use Rattle.std.proofs.Common.{◌∷◌, sym, ◌∙◌, subst}
use Rattle.std.specs.List.Sorted.{IsPermutation}
use Rattle.std.proofs.lemmas.Bool.{false≢true}
use Rattle.waff_plan.specs.Timing.{HasIssue, start_of, work_of}
use Rattle.waff_waits.specs.Waits.{WhoWaits}
use Rattle.waff_list.specs.Planning.{AreIssuing, IsLearnt}
use Rattle.waff_list.specs.Telling.{key_in, priority_in}
use Rattle.waff_list.specs.declared.service.Service.{Service}
use Rattle.waff_list.proofs.Issuing.{awaited_count, issuing_bound, issuing_ready, next_issue, next_new}
use Rattle.waff_list.proofs.waiting.Waiting.issue.Goals as goal
use Rattle.waff_list.proofs.waiting.Waiting.issue.Goals.{In_ok-is_free}

pub issue-requires-clause-known : goal.issue-requires-clause-known
issue-requires-clause-known c =
    let k = c.requires.kept in
    (k.issued, k.waiting.needs, k.waiting.known, next_new c.args.task.now c.args.progress.now c.args.self.now c.args.now c.args.m c.requires.tick c.requires.begun c.requires.due k c.requires.first)

pub issue-requires-clause-many : goal.issue-requires-clause-many
issue-requires-clause-many c =
    awaited_count c.args.task.now c.args.progress.now c.args.self.now c.args.now c.args.m c.requires.tick c.requires.begun c.requires.due c.requires.kept c.requires.first

-- what is learnt, in the planner's own values
learnt : (c : In_ok-is_free) → IsLearnt c.issue.new.self (work_of c.args.task.now.timings.items) c.requires.kept.issued c.requires.kept.waiting.needs c.args.m c.args.self.now.waits c.issue.new.waits
learnt c =
    let k = c.requires.kept in
    c.in_ok-is_free.ensures.learnt k.issued k.waiting.needs k.waiting.known
    (next_new c.args.task.now c.args.progress.now c.args.self.now c.args.now c.args.m c.requires.tick c.requires.begun c.requires.due k c.requires.first)

pub returns-then-not-is_free-clause-kept : goal.returns-then-not-is_free-clause-kept
returns-then-not-is_free-clause-kept c =
    let told = c.in_ok-is_free.ensures in
    issuing_bound c.args.task.now c.args.progress.now c.args.self.now c.args.now c.args.m c.requires.tick c.requires.begun c.requires.due c.requires.kept c.requires.first
    c.issue.new.self c.issue.new.waits told.fits told.basis (learnt (goal.at.returns-then-not-is_free-clause-kept c).In_ok-is_free)
    (λ none. false≢true (sym c.if-not-is_free.true ∙ told.none.1 none))

pub push-requires : goal.push-requires
push-requires c = record {
  issued = subst (λ xs. HasIssue c.args.task.now.timings.items xs c.args.m) (sym c.as_slice.ensures.value)
      (next_issue c.args.task.now c.args.progress.now c.args.self.now c.args.now c.args.m c.requires.tick c.requires.begun c.requires.due c.requires.kept c.requires.first);
}

pub returns-clause-kept : goal.returns-clause-kept
returns-clause-kept c =
    let task = c.args.task.now in
    let p = c.args.progress.now in
    let m = c.args.m in
    let told = c.in_ok-is_free.ensures in
    let pushed = c.in_ok-push.ensures in
    let ready = c.push.new.self.ready in
    let first : IsPermutation ((priority_in task m, (key_in c.issue.new.self (work_of task.timings.items) (start_of p.starts.items) m, m)) ∷ c.args.self.now.ready) ready
    = subst (λ xs. IsPermutation ((priority_in task m, (key_in c.issue.new.self (work_of task.timings.items) (start_of xs) m, m)) ∷ c.args.self.now.ready) ready) c.as_slice.ensures.value pushed.ready in
    let is = issuing_ready task p c.args.self.now c.args.now m c.requires.tick c.requires.begun c.requires.due c.requires.kept c.requires.first
    c.issue.new.self c.issue.new.waits told.fits told.basis (learnt (goal.at.returns-clause-kept c).In_ok-is_free) ready first (told.none.0 c.if-not-is_free.false) in
    subst (λ (s : Service). AreIssuing task p (record { service = s; waits = c.push.new.self.waits; ready = ready }) p.issues c.args.now) (sym pushed.service)
    (subst (λ (u : WhoWaits). AreIssuing task p (record { service = c.issue.new.self; waits = u; ready = ready }) p.issues c.args.now) (sym pushed.waits) is)
