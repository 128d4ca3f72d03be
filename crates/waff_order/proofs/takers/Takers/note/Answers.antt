use Rattle.std.proofs.Common.{sym, subst}
use Rattle.std.proofs.lemmas.Result.{on_ok_weaker}
use Rattle.waff_order.specs.Takers.{AreTouched}
use Rattle.waff_order.proofs.takers.Takers.note.Goals as goal

pub returns-then-is_root-clause-touched : goal.returns-then-is_root-clause-touched
returns-then-is_root-clause-touched c =
    rw c.if-is_root.true (on_ok_weaker c.note_used.result
    (λ h states are touched. h states are (subst (AreTouched c.args.m states) (sym c.clear.ensures.items) touched))
    c.note_used.ensures.touched)

pub returns-else-is_root-clause-touched : goal.returns-else-is_root-clause-touched
returns-else-is_root-clause-touched c = rw c.if-is_root.false c.note_used-else-is_root.ensures.touched
