use Rattle.std.proofs.Common.{IfSome, subst}
use Rattle.std.proofs.lemmas.Result.{IfOk-weaker}
use Rattle.waff_plan.specs.Timing.{start_of, work_of}
use Rattle.waff_figures.specs.Sweep.{AreNeedsOf}
use Rattle.waff_figures.proofs.PlanLemmas.{served_in_order}
use Rattle.waff_figures.proofs.sweep.planned_for.Goals as goal

pub returns-in-Some-clause-follows : goal.returns-in-Some-clause-follows
returns-in-Some-clause-follows c =
    let case = c.args.case in
    let needs = subst (λ known. IfSome known (λ needs. AreNeedsOf case needs.now)) c.in-Some.is c.requires.needs in
    IfOk-weaker c.list_plan_by.result _ _
    (λ made follows.
    let work = work_of made.plan.timings in
    let start = start_of made.plan.starts in
    served_in_order case.trace.now.version needs.no_clients c.args.rule case.tree.now case.assigned.now work c.args.k start
    (c.needs_make_the_same_plans.ensures case.tree.now case.assigned.now c.in-Some.needs.now work c.args.rule c.args.k start needs.are follows))
    (rw c.number.ensures.number at c.list_plan_by.ensures.follows)
