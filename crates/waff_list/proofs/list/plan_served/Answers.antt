use Rattle.std.proofs.Common.{List, refl, sym, subst}
use Rattle.waff_plan.specs.Timing.{start_of, work_of}
use Rattle.waff_plan.specs.declared.timing.Timing.{Timing}
use Rattle.waff_list.specs.Planning.{Fits}
use Rattle.waff_list.specs.Services.{ArePriorities, IsPlanIn}
use Rattle.waff_list.specs.Telling.{basis_of, priority_in}
use Rattle.waff_list.proofs.Services.{fits_of, plan_in}
use Rattle.waff_list.proofs.list.plan_served.Goals as goal

pub make-requires : goal.make-requires
make-requires c = record {
  fits = subst (λ (ts : List Timing). Fits c.args.service (work_of ts)) (sym c.in_ok-task.ensures.timings)
      (fits_of c.args.service c.args.trace.now.version c.args.trace.now.messages c.requires.serves c.new.ensures.are);
  fresh = c.requires.fresh;
}

pub returns : goal.returns
returns c =
    let task = c.in_ok-task.task in
    let start = start_of c.in_ok-made.made.starts.items in
    let made = c.in_ok-made.ensures.made in
    let basis = basis_of c.args.service in
    let ranked = subst (λ (ts : List Timing). ArePriorities c.args.rule basis (work_of ts) (priority_in task)) (sym c.in_ok-task.ensures.timings) c.in_ok-task.ensures.priorities in
    let plan = subst (λ k. IsPlanIn c.args.rule basis (work_of task.timings.items) k start) c.in_ok-task.ensures.workers
    (plan_in c.args.rule basis (work_of task.timings.items) task.workers start (priority_in task) ranked made.plan) in
    rw (c.new-2.ensures, c.new-plan.ensures.version, c.new-plan.ensures.timings, c.new-plan.ensures.starts, c.timings.ensures, c.version.ensures) (record {
      version = refl;
      timings = c.in_ok-task.ensures.timings;
      workers = refl;
      follows = plan;
      seated = made.seated;
      order = made.listed;
    })
