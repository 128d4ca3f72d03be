use Rattle.std.proofs.Common.{arith}
use Rattle.waff_line.specs.Noted.{state_of}
use Rattle.waff_line.proofs.Noting.{noted_later}
use Rattle.waff_line.proofs.notes.Notes.tell.Goals as goal

pub invariant_of-self : goal.invariant_of-self
invariant_of-self c =
    noted_later (state_of c.self.inside.clock c.self.inside.turns.items) c.self.inside.runs.items c.self.invariant c.max-self-inside.result (omega (arith, c.max-self-inside.ensures))
