use Rattle.std.proofs.Common.{false, refl}
use Rattle.waff_line.proofs.Noting.{begun_noted, begun_shown}
use Rattle.waff_line.proofs.notes.Notes.begin.Goals as goal

pub invariant_of-self : goal.invariant_of-self
invariant_of-self c =
    begun_noted c.self.inside.clock c.self.inside.turns.items c.self.inside.runs.items c.args.self.now c.self.view_is c.self.invariant
    c.args.worker c.args.m c.requires
    (record { start = c.self.inside.clock; finish = 0; worker = c.args.worker; after = c.args.after; late = c.args.late; ended = false }) refl

pub returns : goal.returns
returns c =
    begun_shown c.self.inside.clock c.self.inside.turns.items c.self.inside.runs.items c.args.self.now c.self.view_is c.self.invariant
    c.args.worker c.args.m c.requires
    (record { start = c.self.inside.clock; finish = 0; worker = c.args.worker; after = c.args.after; late = c.args.late; ended = false }) refl
