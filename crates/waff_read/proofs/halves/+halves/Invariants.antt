-- Each part is halved once less.
use Rattle.std.proofs.Common.{◌+◌, ◌*◌}
use Rattle.waff_read.proofs.halves.+halves.Given as goal

abbrev pub decreases-back : goal.decreases-back
decreases-back g l = 2 * l.halvings

abbrev pub decreases-front : goal.decreases-front
decreases-front g l = 2 * l.halvings

abbrev pub decreases-read_halves : goal.decreases-read_halves
decreases-read_halves g l = 2 * l.halvings + 1
