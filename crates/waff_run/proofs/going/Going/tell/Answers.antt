use Rattle.std.proofs.Common.{◌∙◌, map, option_map}
use Rattle.waff_line.specs.declared.event.Event.TheVariants.{Tell}
use Rattle.waff_run.proofs.Keeping.{hands_told}
use Rattle.waff_run.proofs.Reached.{reaches_more}
use Rattle.waff_run.proofs.going.Going.tell.Goals as goal

pub invariant_of-self : goal.invariant_of-self
invariant_of-self g c = (
  c.tell.ensures.course ∙ c.self.invariant.0,
  reaches_more g.C.RunOf.course c.self.inside.line c.tell.new.self c.self.invariant.0 c.self.invariant.1 (Tell c.args.now) c.tell.ensures.told,
  hands_told g.C.RunOf.course g.C.RunOf.asking c.self.inside.line.state c.tell.new.self.state (map (option_map g.S.Store.log) c.self.inside.hands.items)
      c.self.invariant.2 c.args.now c.tell.ensures.told,
)
