use Rattle.std.proofs.Common.{◌≡◌, length, arith, ap, sym, ◌∙◌}
use Rattle.waff_order.proofs.Parts.{length-parts}
use Rattle.waff_order.proofs.lists.Lists.of.Goals as goal

pub bounds-from-requires-clause-number : goal.bounds-from-requires-clause-number
bounds-from-requires-clause-number g c =
    let long : length c.as_slice-2.result.now ≡ length c.args.self.now
    = ap length c.as_slice-2.ensures.value ∙ sym (length-parts c.self.inside.all.items 0 c.self.inside.ends.items) ∙ ap length c.self.view_is in
    let number = c.requires.number in
    record { from = number.from; to = omega (arith, long, number.to) }
