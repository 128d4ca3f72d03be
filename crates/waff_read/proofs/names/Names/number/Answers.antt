use Rattle.std.proofs.Common.{sym, ◌∙◌, ap, position}
use Rattle.std.specs.Prelude.{string_bytes}
use Rattle.std.specs.Str.{bytes_eq}
use Rattle.waff_model.proofs.NodeEntries.{position-map}
use Rattle.waff_read.proofs.names.Names.number.Goals as goal

pub returns-clause-found : goal.returns-clause-found
returns-clause-found c =
    let name = c.args.name.now in
    c.get_index_of.ensures.index
    ∙ sym (position-map (bytes_eq name) string_bytes c.self.inside.names.keys)
    ∙ ap (position (bytes_eq name)) c.self.view_is
