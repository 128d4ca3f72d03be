-- What was kept tells whether there are too many, and is all where there are not.
use Rattle.std.proofs.Common.{◌∙◌, sym, arith}
use Rattle.waff_read.proofs.OpsLaws.{ops_of-few, ops_of-many}
use Rattle.waff_read.proofs.ops.read_ops.Goals as goal

pub returns-then-most-len : goal.returns-then-most-len
returns-then-most-len c =
    ops_of-many c.args.version c.args.spaces.now c.args.most c.args.text.now c.in_ok-list.list (sym c.is_empty.ensures ∙ c.if-is_empty.false)
    (sym c.in_ok-list.ensures) (omega (arith, c.len.ensures))

pub returns : goal.returns
returns c =
    ops_of-few c.args.version c.args.spaces.now c.args.most c.args.text.now c.in_ok-list.list (sym c.is_empty.ensures ∙ c.if-is_empty.false)
    (sym c.in_ok-list.ensures) (omega (arith, c.len.ensures))
