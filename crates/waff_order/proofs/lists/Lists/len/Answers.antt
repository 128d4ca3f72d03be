use Rattle.std.proofs.Common.{◌≡◌, length, arith, ap, sym, ◌∙◌}
use Rattle.waff_order.proofs.Parts.{length-parts}
use Rattle.waff_order.proofs.lists.Lists.len.Goals as goal

pub returns : goal.returns
returns g c =
    let same : length c.self.inside.ends.items ≡ length c.args.self.now
    = sym (length-parts c.self.inside.all.items 0 c.self.inside.ends.items) ∙ ap length c.self.view_is in
    omega (arith, same, c.len.ensures)
