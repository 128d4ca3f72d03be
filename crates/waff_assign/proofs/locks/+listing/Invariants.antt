-- Each part is halved once less.
use Rattle.std.proofs.Common.{◌+◌, ◌*◌}
use Rattle.waff_assign.proofs.locks.+listing.Given as goal

abbrev pub decreases-back : goal.decreases-back
decreases-back g l = 2 * l.halvings

abbrev pub decreases-front : goal.decreases-front
decreases-front g l = 2 * l.halvings

abbrev pub decreases-list_halves : goal.decreases-list_halves
decreases-list_halves g l = 2 * l.halvings + 1
