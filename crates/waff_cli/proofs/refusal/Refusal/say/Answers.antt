use Rattle.std.proofs.Common.{sym, subst}
use Rattle.waff_io.specs.Writing.{WritesOrFails}
use Rattle.waff_cli.specs.Refusals.{refusal_text}
use Rattle.waff_cli.proofs.refusal.Refusal.say.Goals as goal

pub returns-in-Memory : goal.returns-in-Memory
returns-in-Memory g c =
    subst (λ refusal. WritesOrFails (g.E.ErrorStream.holds c.args.err.now) (g.E.ErrorStream.holds c.write_pieces-in-Memory.new.stream)
    (g.E.ErrorStream.failed c.write_pieces-in-Memory.new.stream) (refusal_text refusal) c.write_pieces-in-Memory.result)
    (sym c.in-Memory.is) c.write_pieces-in-Memory.ensures
