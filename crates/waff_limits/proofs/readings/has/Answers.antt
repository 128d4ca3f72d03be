use Rattle.std.proofs.Common.{◌∙◌}
use Rattle.waff_limits.proofs.Searching.{found}
use Rattle.waff_limits.proofs.readings.has.Goals as goal

pub returns : goal.returns
returns c =
    c.is_ok.ensures.value
    ∙ found c.args.cells.now c.args.cell c.binary_search.result c.binary_search.ensures.position c.binary_search.ensures.bound c.requires.sorted
