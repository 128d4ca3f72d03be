use Rattle.std.proofs.Common.{◌∙◌, ap, Ok, sym}
use Rattle.waff_read.proofs.HierarchyLemmas.{layout_read, layout_refused}
use Rattle.waff_read.proofs.hierarchy.layout_of.Goals as goal

pub returns-in-Ok : goal.returns-in-Ok
returns-in-Ok c =
    layout_read c.args.format c.args.kind c.args.tree c.args.spaces.now c.args.maps.now c.in-Ok.ensures.accepted ∙ ap Ok (sym c.in-Ok.ensures.kept)

pub returns-in_default : goal.returns-in_default
returns-in_default c =
    layout_refused c.args.format c.args.kind c.args.tree c.args.spaces.now c.args.maps.now c.in-Err.e c.in-Err.ensures.refused c.in_default.not-Memory
