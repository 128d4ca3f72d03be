use Rattle.std.proofs.Common.{◌<◌, ◌≤◌, length, arith, sym, ◌∙◌, ap, subst}
use Rattle.std.proofs.lemmas.List.{get_or_default, take_all}
use Rattle.waff_model.specs.DistinctNames.{distinct_names}
use Rattle.waff_figures.specs.ByName.{labels_of}
use Rattle.waff_figures.proofs.NameLemmas.{labels_length, place_tells}
use Rattle.waff_figures.proofs.names.names_of.Goals as goal

pub returns-clause-names : goal.returns-clause-names
returns-clause-names c =
    let messages = c.args.trace.now.messages in
    let places = c.in_ok-places.places.items in
    let full : length (labels_of c.args.label messages) ≤ length places
    = omega (arith, labels_length c.args.label messages, c.in_ok-places.ensures.count) in
    c.in_ok-places.ensures.numbered.distinct ∙ ap distinct_names (take_all (length places) (labels_of c.args.label messages) full)

pub returns-clause-known : goal.returns-clause-known
returns-clause-known c = λ k d low.
    let names = c.places_of.new.names in
    let places = c.in_ok-places.places.items in
    subst (λ place. place < length names) (sym (get_or_default places k d 0 low)) (c.in_ok-places.ensures.numbered.within k low)

pub returns-clause-each : goal.returns-clause-each
returns-clause-each c = λ g m low from to.
    place_tells (labels_of c.args.label c.args.trace.now.messages) c.places_of.new.names c.in_ok-places.places.items
    c.in_ok-places.ensures.numbered g m low from (omega (arith, to, c.in_ok-places.ensures.count))
