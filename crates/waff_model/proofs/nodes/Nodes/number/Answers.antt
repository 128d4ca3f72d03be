use Rattle.std.proofs.Common.{sym, ◌∙◌, ap}
use Rattle.waff_model.proofs.NodeEntries.{number_of-nodes_of}
use Rattle.waff_model.specs.Tree.{number_of}
use Rattle.waff_model.proofs.nodes.Nodes.number.Goals as goal

pub returns-clause-found : goal.returns-clause-found
returns-clause-found c =
    c.get_index_of.ensures.index ∙ sym (number_of-nodes_of _ c.args.name.now) ∙ ap (λ tree. number_of tree c.args.name.now) c.self.view_is
