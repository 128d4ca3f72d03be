-- The space on the shelf has the name, and the table has the names of the spaces.
use Rattle.std.proofs.Common.{◌≡◌, ◌<◌, ◌∙◌, Some, ap, arith, length, sym, position}
use Rattle.std.proofs.lemmas.Slice.Eq.{bytes_eq-Decides}
use Rattle.std.specs.Str.{bytes_eq}
use Rattle.waff_model.specs.Layout.{space_named}
use Rattle.waff_read.proofs.SpaceLemmas.{called_is_name, found_by_name, place_of_name}
use Rattle.waff_read.proofs.space_table.SpaceTable.find.Goals as goal

pub returns-in-Some-clause-found : goal.returns-in-Some-clause-found
returns-in-Some-clause-found c =
    let name = c.args.name.now in
    let there = c.number.ensures.found ∙ (ap (position (bytes_eq name)) c.self.invariant.1 ∙ (place_of_name c.self.inside.layout.now.spaces name ∙ ap (λ spaces. space_named spaces name) c.self.view_is)) in
    sym c.in-Some.is ∙ there

pub returns-in-None-clause-found : goal.returns-in-None-clause-found
returns-in-None-clause-found c =
    let name = c.args.name.now in
    let there = c.number.ensures.found ∙ (ap (position (bytes_eq name)) c.self.invariant.1 ∙ (place_of_name c.self.inside.layout.now.spaces name ∙ ap (λ spaces. space_named spaces name) c.self.view_is)) in
    sym c.in-None.is ∙ there

pub returns-then-eq-clause-found : goal.returns-then-eq-clause-found
returns-then-eq-clause-found c =
    let layout = c.self.inside.layout.now in
    let name = c.args.name.now in
    let space = c.index-space.result.now in
    let inside : space < length layout.spaces = omega (arith, c.if-space-space_count.true, c.space_count.ensures.count) in
    let same : c.space_name.result.now ≡ name = (bytes_eq-Decides c.space_name.result.now name).0 (sym c.eq.ensures ∙ c.if-eq.true) in
    rw (← c.self.view_is) (sym (found_by_name layout c.self.invariant.0 name space inside (c.space_name.ensures ∙ ap Some same)))

pub returns-then-eq-clause-named : goal.returns-then-eq-clause-named
returns-then-eq-clause-named c =
    let layout = c.self.inside.layout.now in
    let name = c.args.name.now in
    let space = c.index-space.result.now in
    let inside : space < length layout.spaces = omega (arith, c.if-space-space_count.true, c.space_count.ensures.count) in
    let same : c.space_name.result.now ≡ name = (bytes_eq-Decides c.space_name.result.now name).0 (sym c.eq.ensures ∙ c.if-eq.true) in
    called_is_name layout c.self.invariant.0 name space (found_by_name layout c.self.invariant.0 name space inside (c.space_name.ensures ∙ ap Some same))

pub returns-in-Some-clause-named : goal.returns-in-Some-clause-named
returns-in-Some-clause-named c =
    let layout = c.self.inside.layout.now in
    let name = c.args.name.now in
    called_is_name layout c.self.invariant.0 name c.in-Some.s
    (sym (c.in-Some.ensures.found ∙ (ap (position (bytes_eq name)) c.self.invariant.1 ∙ place_of_name layout.spaces name)))
