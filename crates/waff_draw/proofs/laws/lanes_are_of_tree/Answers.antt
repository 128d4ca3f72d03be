use Rattle.waff_draw.proofs.UsedLemmas.{below_is_used, used_is_below}
use Rattle.waff_draw.proofs.laws.lanes_are_of_tree.Goals as goal

pub returns : goal.returns
returns c tree assigned is b =
    (used_is_below tree assigned b is.rooted, λ has. below_is_used tree assigned has.0 b is.rooted has.1 has.2 has.3)
