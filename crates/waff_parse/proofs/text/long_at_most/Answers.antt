-- The longer number is greater; of as many digits the first that differ tell.
use Rattle.waff_parse.proofs.NumberOrder.{lengths_tell}
use Rattle.waff_parse.proofs.text.long_at_most.Goals as goal

pub returns-then-first-second : goal.returns-then-first-second
returns-then-first-second c =
    lengths_tell c.args.first.now c.args.second.now c.requires.first c.requires.second c.if-first-second.true
