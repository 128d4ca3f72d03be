use Rattle.std.proofs.Common.{position, sym, ◌∙◌, ap}
use Rattle.std.specs.Str.{bytes_eq}
use Rattle.waff_model.proofs.NodeEntries.{position-map}
use Rattle.waff_model.proofs.distinct_names.DistinctNames.place.Goals as goal

pub returns-clause-place : goal.returns-clause-place
returns-clause-place c =
    let is_name = bytes_eq c.args.name.now in
    c.get_index_of.ensures.index ∙ sym (position-map is_name (λ x. x.now) c.self.inside.names.keys) ∙ ap (position is_name) c.self.view_is
