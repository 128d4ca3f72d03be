use Rattle.std.proofs.Common.{◌≡◌, ◌-◌, suc, arith}
use Rattle.waff_order.proofs.Parts.{part_at}
use Rattle.waff_order.proofs.lists.bounds.Goals as goal

pub returns : goal.returns
returns g c =
    let next : suc (c.args.n - 1 - 1) ≡ c.args.n - 1 = omega arith in
    part_at c.args.all.now 0 c.args.ends.now (c.args.n - 1 - 1) (c.args.n - 1) next (omega arith) c.requires.cuts
