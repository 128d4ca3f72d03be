use Rattle.std.proofs.Common.{length, sum_by, arith, ap}
use Rattle.waff_order.proofs.Parts.{sum_by-parts}
use Rattle.waff_order.proofs.lists.Lists.total.Goals as goal

pub returns : goal.returns
returns g c =
    let whole = sum_by-parts c.self.inside.all.items 0 c.self.inside.ends.items c.self.invariant in
    let view = ap (sum_by length) c.self.view_is in
    omega (arith, whole, view)
