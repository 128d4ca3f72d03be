use Rattle.std.proofs.Common.{◌<◌, ◌≤◌, get_or, Contains, arith, subst}
use Rattle.std.proofs.lemmas.List.Elements.{Contains-get_or}
use Rattle.waff_order.specs.Needs.{IsNeed}
use Rattle.waff_core.proofs.order.may_stand.Goals as goal

pub are_marked-requires : goal.are_marked-requires
are_marked-requires c = λ k d within.
    let i = get_or c.of.result.now k d in
    let needs = c.args.needs.now in
    let listed = subst (λ xs. Contains xs i) c.of.ensures.needs (Contains-get_or c.of.result.now k d within) in
    let need : IsNeed needs i c.args.n = record { from = omega arith; listed = listed } in
    let from : 1 ≤ i = c.len.ensures.lists.from i c.args.n need in
    let early : i < c.args.n = c.len.ensures.lists.earlier i c.args.n need in
    (from, omega (arith, early, c.requires))
