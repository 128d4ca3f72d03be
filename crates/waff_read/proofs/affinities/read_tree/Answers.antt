use Rattle.std.proofs.Common.{◌∙◌, ap, sym, Ok, length}
use Rattle.waff_read.proofs.AffinityLemmas.{is_filled, tree_of-filled}
use Rattle.waff_read.proofs.affinities.read_tree.Goals as goal

pub returns-in-Ok-build : goal.returns-in-Ok-build
returns-in-Ok-build c =
    let filled = is_filled (length c.args.rows.now) c.is_empty.result c.is_empty.ensures c.if-is_empty.false in
    tree_of-filled c.args.format c.args.rows.now filled ∙ c.in-Ok.ensures ∙ ap Ok (sym c.in-Ok-build.ensures.kept)

pub returns-in-Err : goal.returns-in-Err
returns-in-Err c =
    let filled = is_filled (length c.args.rows.now) c.is_empty.result c.is_empty.ensures c.if-is_empty.false in
    rw (tree_of-filled c.args.format c.args.rows.now filled) c.in-Err.ensures
