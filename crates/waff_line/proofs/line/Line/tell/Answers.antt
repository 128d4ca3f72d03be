use Rattle.waff_line.proofs.Going.{stands_told}
use Rattle.waff_line.proofs.line.Line.tell.Goals as goal

pub invariant_of-self : goal.invariant_of-self
invariant_of-self c = stands_told c.self.inside.queue c.self.inside.notes c.self.invariant c.args.now c.tell.new.self c.tell.ensures
