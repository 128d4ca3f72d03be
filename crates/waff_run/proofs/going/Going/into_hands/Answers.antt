use Rattle.std.proofs.Common.{◌≡◌, map, option_map, rules, subst}
use Rattle.waff_line.specs.Laws.{AreAllEnded}
use Rattle.waff_line.specs.Lined.{LineValue}
use Rattle.waff_run.proofs.Keeping.{hands_asked}
use Rattle.waff_run.proofs.going.Going.into_hands.Goals as goal

pub returns : goal.returns
returns g c = λ all.
    let same : c.args.self ≡ c.self.inside.line = search rules in
    hands_asked g.C.RunOf.course g.C.RunOf.asking c.self.inside.line.state (map (option_map g.S.Store.log) c.self.inside.hands.items) c.self.invariant.2
    (subst (λ (line : LineValue). AreAllEnded g.C.RunOf.course line.state) same all)
