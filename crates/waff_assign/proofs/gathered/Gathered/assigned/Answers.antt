use Rattle.std.proofs.Common.{◌≡◌, arith, length, sym, ◌∙◌, ap}
use Rattle.waff_assign.proofs.Helds.{helds_count}
use Rattle.waff_assign.proofs.gathered.Gathered.assigned.Goals as goal

pub new-requires-clause-few : goal.new-requires-clause-few
new-requires-clause-few c =
    let inside = c.self.inside in
    let many : length c.args.self ≡ length inside.affinities.items = ap length (sym c.self.view_is) ∙ helds_count inside.affinities.items inside.uses.items inside.ends.items in
    omega arith
