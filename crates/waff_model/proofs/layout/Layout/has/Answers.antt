use Rattle.std.proofs.Common.{◌≡◌, ◌<◌, ◌↔◌, IsTrue, length, nat_lt, ltb-true, ltb-false, get_or, ap, subst, sym, ◌∙◌, arith, rules}
use Rattle.waff_model.specs.Layout.{Hierarchy, size_at}
use Rattle.waff_model.proofs.OwnerLemmas.{space_below, space_read}
use Rattle.waff_model.proofs.layout.Layout.has.Goals as goal

pub returns-in-Some : goal.returns-in-Some
returns-in-Some c =
    let spaces = c.self.inside.spaces.items in
    let s = c.args.cell.space in
    let space = c.in-Some.space.now in
    let same = c.deref.ensures.value in
    let within = ltb-true s (length spaces) (sym (ap (λ xs. nat_lt s (length xs)) same) ∙ sym c.in-Some.ensures.lookup.0) in
    let read : space ≡ get_or spaces s space = c.in-Some.ensures.lookup.1 ∙ ap (λ xs. get_or xs s space) same in
    let size : size_at spaces s ≡ c.size.result = (space_read spaces s within space read).size ∙ sym c.size.ensures in
    subst (λ (layout : Hierarchy). IsTrue (nat_lt c.args.cell.index c.size.result) ↔ c.args.cell.index < size_at layout.spaces s)
    c.self.view_is (rw size (search rules))

pub returns-in-None : goal.returns-in-None
returns-in-None c =
    let same = ap length c.deref.ensures.value ∙ ap (λ (layout : Hierarchy). length layout.spaces) c.self.view_is in
    let past = ltb-false c.args.cell.space (length c.deref.result.now) (sym c.in-None.ensures.lookup.0) in
    (λ yes. cc, λ is. absurd (omega (arith, past, same, space_below c.args.self.now.spaces c.args.cell.space c.args.cell.index is)))
