use Rattle.std.proofs.Common.{Ok, ◌∙◌, ap, subst}
use Rattle.waff_line.specs.Machine.{Course, Steps}
use Rattle.waff_line.specs.declared.event.Event.TheVariants.{Begin}
use Rattle.waff_run.proofs.Keeping.{kept_begun}
use Rattle.waff_run.proofs.Reached.{begun_step, reaches_more}
use Rattle.waff_run.proofs.going.Going.begin.Goals as goal

pub invariant_of-self : goal.invariant_of-self
invariant_of-self g c =
    let line = c.self.inside.line in
    let m = c.in-Ok-Some.message in
    let is = c.in-Ok-Some.is ∙ ap Ok c.in-Ok-Some.field-0-is in
    let step = begun_step line c.begin.new.self c.args.worker m c.begin.result c.begin.ensures.begun is in (
      c.begin.ensures.course ∙ c.self.invariant.0,
      reaches_more g.C.RunOf.course line c.begin.new.self c.self.invariant.0 c.self.invariant.1 (Begin c.args.worker m) step,
      kept_begun g.S.Store.log g.C.RunOf.course g.C.RunOf.asking line.state c.begin.new.self.state c.self.inside.hands.items c.take_hand.new.hands.items m
          c.self.invariant.2 c.args.worker
          (subst (λ (course : Course). Steps course line.state (Begin c.args.worker m) c.begin.new.self.state) c.self.invariant.0 step)
          c.take_hand.ensures.out,
    )
