use Rattle.std.proofs.Common.{◌≡◌, ◌++◌, drop, length, take, get_or, Some, None, IfSome, arith, ap, subst, ◌∙◌}
use Rattle.std.proofs.Math.Seq.{take-append_seam}
use Rattle.std.proofs.lemmas.Result.{IfOk-weaker}
use Rattle.waff_assign.specs.Case.{instance_of}
use Rattle.waff_plan.specs.Planned.{planned_starts, planned_work}
use Rattle.waff_plan.specs.Work.{length_of}
use Rattle.waff_figures.specs.Sweep.{IsListed}
use Rattle.waff_figures.specs.declared.figures.Figures.{Figures}
use Rattle.waff_figures.proofs.SweepLemmas.{listed_of_each}
use Rattle.waff_figures.proofs.sweep.figures_by.Goals as goal

pub returns : goal.returns
returns g c =
    let unlimited = c.args.unlimited.now in
    let workers = c.args.workers.now in
    let instance = instance_of unlimited.case in
    let shortest = length_of (planned_work unlimited) (planned_starts unlimited) in
    let made = c.for_each_mut.new.s in
    let kept = c.for_each_mut.auto.s in
    let count : length made ≡ length workers
    = omega (arith, kept, ap length c.as_mut_slice.ensures.value, c.as_mut_slice.ensures.len, c.in_ok-made.ensures.len, c.len.ensures.count) in
    let len : c.in_ok-made.made.len ≡ length made = omega (arith, count, c.in_ok-made.ensures.len, c.len.ensures.count) in
    let back : c.as_slice.result.now ≡ made
    = c.as_slice.ensures.value ∙ ap (λ n. take n (made ++ drop (length made) c.in_ok-made.made.items)) len ∙ take-append_seam made _ in
    IfOk-weaker c.all_made.result _ _
    (λ listed same.
    listed_of_each c.args.rule instance shortest workers made listed.items (same ∙ back) count
    (λ i inside.
    let at = (c.for_each_mut.ensures i None (omega (arith, kept, inside))).1 in
    subst (λ place. IfSome place (λ (figures : Figures). figures.workers ≡ Some (get_or workers i 0))) at.left at.call.0)
    (λ i inside.
    let at = (c.for_each_mut.ensures i None (omega (arith, kept, inside))).1 in
    subst (λ place. IfSome place (IsListed c.args.rule instance shortest)) at.left at.call.1))
    c.all_made.ensures
