use Rattle.std.proofs.Common.{ap, sym, ◌∙◌, arith}
use Rattle.waff_line.specs.Machine.{IsRunning, Turn}
use Rattle.waff_line.proofs.Going.{stands_ended}
use Rattle.waff_line.proofs.line.Line.end.Goals as goal

pub invariant_of-self : goal.invariant_of-self
invariant_of-self c =
    let worker = ap (λ (t : Turn). t.worker) c.turn-turn.ensures.turn in
    let some = c.if-turn-eq0.false in
    let running : IsRunning c.self.inside.notes.0 c.args.m
    = record { begun = omega (arith, worker, some); runs = sym (ap (λ (t : Turn). t.ended) c.turn-turn.ensures.turn) ∙ c.if-turn.false } in
    stands_ended c.self.inside.queue c.self.inside.notes c.self.invariant c.end.new.self c.end.ensures.case c.end.ensures.timings c.end.ensures.tick c.args.m c.args.now
    running c.end.new.notes c.end.ensures.ended c.end.ensures.queue
