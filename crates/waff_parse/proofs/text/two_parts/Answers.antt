-- There is a third part.
use Rattle.waff_parse.proofs.TextLaws.{parts-not-two}
use Rattle.waff_parse.proofs.text.two_parts.Goals as goal

pub returns-in_default-Some : goal.returns-in_default-Some
returns-in_default-Some c =
    parts-not-two c.args.at c.args.text.now c.cut.result.0.now c.in-Some.others.now c.cut-2.result.0.now c.in_default-Some.field-0-1.now
    (rw c.in-Some.is at c.cut.ensures) (rw c.in_default-Some.is-1 at c.cut-2.ensures)
