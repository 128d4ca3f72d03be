use Rattle.std.proofs.Common.{rules, ◌≡◌, length, arith}
use Rattle.waff_record.proofs.Alike.{same_all, same_more}
use Rattle.waff_record.proofs.cut.are_same.Goals as goal

pub loop-at-preserved : goal.loop-at-preserved
loop-at-preserved c =
    let same : c.get.result ≡ c.get-in-loop-at.result = search rules in
    same_more c.args.ops.now c.args.other.now c.loop-at.at c.get.result c.get-in-loop-at.result c.loop-at.invariant c.get.ensures c.get-in-loop-at.ensures same

pub returns : goal.returns
returns c =
    let count : length c.args.ops.now ≡ length c.args.other.now = omega (arith, c.len.ensures, c.len-2.ensures, c.if-len.false) in
    same_all c.args.ops.now c.args.other.now count (λ i less. c.loop-at.invariant i (omega (arith, less, c.loop-at-test.false, c.len-at-end.ensures)))
