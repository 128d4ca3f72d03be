use Rattle.std.proofs.Common.{◌∙◌, ap, map, option_map}
use Rattle.waff_line.specs.Machine.{Course, opening}
use Rattle.waff_run.proofs.Keeping.{hands_opening}
use Rattle.waff_run.proofs.Reached.{reaches_opening}
use Rattle.waff_run.proofs.going.Going.of.Goals as goal

pub invariant_of-result : goal.invariant_of-result
invariant_of-result g c = (
  c.requires.same,
  reaches_opening g.C.RunOf.course c.args.line c.requires.same c.requires.opening,
  hands_opening g.C.RunOf.course g.C.RunOf.asking c.args.line.state (map (option_map g.S.Store.log) c.args.hands.items)
      (c.requires.opening ∙ ap (λ (course : Course). opening course) c.requires.same) c.requires.count c.requires.fresh,
)
