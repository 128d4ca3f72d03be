-- Each part is halved once less.
use Rattle.std.proofs.Common.{◌+◌, ◌*◌}
use Rattle.waff_assign.proofs.gathering.+gathering.Given as goal

abbrev pub decreases-back : goal.decreases-back
decreases-back g l = 2 * l.halvings

abbrev pub decreases-front : goal.decreases-front
decreases-front g l = 2 * l.halvings

abbrev pub decreases-gather_halves : goal.decreases-gather_halves
decreases-gather_halves g l = 2 * l.halvings + 1
