-- An operation is kept as long as there is room.
use Rattle.std.proofs.Common.{[], ◌∷◌, ◌∙◌, arith}
use Rattle.waff_read.proofs.OpsLaws.{kept-none, kept-one}
use Rattle.waff_read.proofs.ops.keep.Goals as goal

pub returns-then-most-len : goal.returns-then-most-len
returns-then-most-len c = kept-none c.args.most c.args.list.now (c.args.op ∷ []) (omega (arith, c.len.ensures)) c.requires

pub returns : goal.returns
returns c = c.in_ok-push.ensures.pushed ∙ kept-one c.args.most c.args.list.now c.args.op (omega (arith, c.len.ensures))
