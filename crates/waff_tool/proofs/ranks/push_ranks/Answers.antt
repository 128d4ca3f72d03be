use Rattle.std.proofs.Common.{string_bytes}
use Rattle.waff_tool.proofs.RankLemmas.{ranks_further}
use Rattle.waff_tool.proofs.ranks.push_ranks.Goals as goal

pub loop-i-preserved : goal.loop-i-preserved
loop-i-preserved c =
    ranks_further c.args.ranks.now c.loop-i.i _ (string_bytes c.args.text.now) (string_bytes c.loop-i.text) (string_bytes c.push_ranked.new.text)
    c.loop-i-test.true c.loop-i.invariant c.in_ok-push_ranked.ensures
