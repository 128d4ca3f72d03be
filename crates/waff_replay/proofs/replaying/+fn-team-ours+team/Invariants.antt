use Rattle.std.proofs.Common.{length}
use Rattle.waff_replay.proofs.replaying.+fn-team-ours+team.Given as goal

abbrev pub decreases-ours : goal.decreases-ours
decreases-ours g l = length l.others.items

abbrev pub decreases-team : goal.decreases-team
decreases-team g l = length l.others.items
