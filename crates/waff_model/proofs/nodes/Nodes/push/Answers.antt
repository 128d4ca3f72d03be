use Rattle.std.proofs.Common.{◌≡◌, None}
use Rattle.waff_model.specs.Tree.{number_of}
use Rattle.waff_model.specs.Nodes.{nodes_of}
use Rattle.std.specs.Prelude.{string_bytes}
use Rattle.waff_model.proofs.NodeEntries.{nodes_of-insert_entry}
use Rattle.waff_model.proofs.nodes.Nodes.push.Goals as goal

pub returns-clause-added : goal.returns-clause-added
returns-clause-added c =
    let absent : number_of (nodes_of c.self.inside.parents.entries) (string_bytes c.in_ok-key.key) ≡ None =
    rw (c.self.view_is, c.in_ok-key.ensures.ok) c.requires in
    rw (c.in_ok-insert.ensures.entries, ← c.self.view_is, ← c.in_ok-key.ensures.ok)
    (nodes_of-insert_entry c.self.inside.parents.entries c.in_ok-key.key c.args.parent absent)
