use Rattle.std.proofs.Common.{map, sym, ◌∙◌, ap}
use Rattle.std.proofs.lemmas.Slice.Eq.{bytes_eq-Decides}
use Rattle.waff_model.specs.DistinctNames.{with_name}
use Rattle.waff_model.proofs.DistinctNameLemmas.{name_at, names_inserted}
use Rattle.waff_model.proofs.distinct_names.DistinctNames.put.Goals as goal

pub returns-clause-names : goal.returns-clause-names
returns-clause-names c =
    ap (map (λ x. x.now)) c.in_ok-place.ensures.keys ∙ names_inserted c.self.inside.names.keys c.args.name
    ∙ ap (λ names. with_name names c.args.name.now) c.self.view_is

pub returns-clause-at : goal.returns-clause-at
returns-clause-at c =
    let (key, there, same) = c.in_ok-place.ensures.stored in
    name_at c.insert_full.new.self.keys c.in_ok-place.place key there ∙ sym ((bytes_eq-Decides c.args.name.now key.now).0 same)
