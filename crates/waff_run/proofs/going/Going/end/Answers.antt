use Rattle.std.proofs.Common.{◌∙◌, ap, subst}
use Rattle.waff_line.specs.Lined.{LineValue}
use Rattle.waff_line.specs.Machine.{Course, Steps}
use Rattle.waff_line.specs.declared.event.Event.TheVariants.{End}
use Rattle.waff_run.proofs.Keeping.{kept_ended}
use Rattle.waff_run.proofs.Reached.{reaches_ended}
use Rattle.waff_run.proofs.going.Going.end.Goals as goal

pub invariant_of-self : goal.invariant_of-self
invariant_of-self g c =
    let line = c.self.inside.line in
    let m = c.performed.inside.message in (
      c.end.ensures.course ∙ c.self.invariant.0,
      reaches_ended g.C.RunOf.course line c.end.new.self c.self.invariant.0 c.self.invariant.1 m c.args.now c.end.ensures.ended c.end.ensures.not_running,
      kept_ended g.S.Store.log g.C.RunOf.course g.C.RunOf.asking line.state c.end.new.self.state c.self.inside.hands.items c.put_hand.new.hands.items m
          c.self.invariant.2 c.args.now c.performed.inside.hand c.performed.invariant.0 c.performed.invariant.1
          (λ running.
          subst (λ (course : Course). Steps course line.state (End m c.args.now) c.end.new.self.state) c.self.invariant.0
          (c.end.ensures.ended running))
          (λ rests. ap (λ (l : LineValue). l.state) (c.end.ensures.not_running rests)) c.put_hand.ensures.back c.put_hand.ensures.there,
    )
