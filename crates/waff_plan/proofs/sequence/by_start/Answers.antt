use Rattle.std.proofs.Common.{◌≡◌, ℕ, List, length, sym, ◌∙◌, ap, subst}
use Rattle.std.proofs.lemmas.Result.{IfOk-weaker}
use Rattle.waff_plan.specs.ByStart.{AreByStart}
use Rattle.waff_plan.specs.Timetable.{starts_in, work_in}
use Rattle.waff_plan.specs.Timing.{start_of}
use Rattle.waff_plan.specs.Work.{Work}
use Rattle.waff_plan.proofs.sequence.by_start.Goals as goal

pub returns : goal.returns
returns c =
    let plan = c.args.plan.now in
    let ticks = c.starts.result.now in
    IfOk-weaker c.by_tick.result (λ started. (work : Work) → work.count ≡ length ticks → AreByStart work (start_of ticks) started.items)
    (λ started. AreByStart (work_in plan) (starts_in plan) started.items)
    (λ started are. subst (λ (xs : List ℕ). AreByStart (work_in plan) (start_of xs) started.items) c.starts.ensures
    (are (work_in plan) (sym c.len-messages.ensures.table.lengths ∙ ap length (sym c.starts.ensures))))
    c.by_tick.ensures
