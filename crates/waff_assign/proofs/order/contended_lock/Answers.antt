use Rattle.waff_assign.specs.Order.{held_of}
use Rattle.waff_assign.proofs.Contentions.{first_of_uses}
use Rattle.waff_assign.proofs.order.contended_lock.Goals as goal

pub returns : goal.returns
returns c =
    first_of_uses (held_of c.args.assigned.now c.args.i) (held_of c.args.assigned.now c.args.j) c.first_contended.result
    (rw (← c.uses.ensures, ← c.uses-2.ensures) c.first_contended.ensures)
