use Rattle.waff_model.specs.TreeRefusal.{node_of}
use Rattle.waff_read.proofs.AffinityLemmas.{new_name}
use Rattle.waff_read.proofs.affinities.add_row.Goals as goal

pub push-requires : goal.push-requires
push-requires c =
    new_name c.args.tree.now (node_of c.name_of-name.result.now c.parent_of-parent.result) c.args.names.now c.in-Ok.ensures.accepted c.requires.names
