use Rattle.std.proofs.Common.{◌+◌, refl, sym, ◌∙◌, subst}
use Rattle.std.proofs.lemmas.Bool.{false≢true}
use Rattle.waff_record.specs.Left.{AreLeftOf}
use Rattle.waff_record.proofs.LeftOf.{left_more, left_same}
use Rattle.waff_record.proofs.left.note_left.Goals as goal

pub returns-in_ok-push : goal.returns-in_ok-push
returns-in_ok-push c = λ old.
    subst (AreLeftOf c.args.turns.now c.args.tick (c.args.at + 1)) (sym c.in_ok-push.ensures.items)
    (left_more c.args.turns.now c.args.tick c.args.at (c.args.at + 1) c.args.kept.now.items refl (c.is_left.ensures.0 c.if-is_left.true) old)

pub returns-else-is_left : goal.returns-else-is_left
returns-else-is_left c =
    left_same c.args.turns.now c.args.tick c.args.at c.args.kept.now.items
    (λ left. false≢true (sym c.if-is_left.false ∙ c.is_left.ensures.1 left))
