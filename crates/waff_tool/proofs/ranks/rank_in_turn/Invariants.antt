use Rattle.std.proofs.Common.{ℕ, List, take}
use Rattle.std.specs.List.{AllZip}
use Rattle.waff_tool.specs.Ranks.{AreRead, IsRanked}
use Rattle.waff_tool.proofs.ranks.rank_in_turn.Given as goal

abbrev pub invariant-loop-layout : goal.invariant-loop-layout
invariant-loop-layout g l =
    (files : List (List ℕ)) → AreRead files l.layouts → AllZip (IsRanked l.rule l.trace l.k) (take l.layout-index files) l.ranks.items
