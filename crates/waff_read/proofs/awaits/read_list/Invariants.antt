use Rattle.std.proofs.Common.{◌≡◌, length}
use Rattle.waff_read.proofs.AwaitLaws.{Rest, Whole}
use Rattle.waff_read.proofs.awaits.read_list.Given as goal

-- the messages so far and those of the pieces left are those of all pieces
abbrev pub invariant-loop-piece : goal.invariant-loop-piece
invariant-loop-piece l = Rest l.before l.own l.text l.list.items (length l.yielded) ≡ Whole l.own l.text
