use Rattle.std.proofs.Common.{◌≡◌, length, rules}
use Rattle.waff_run.proofs.Keeping.{all_silent}
use Rattle.waff_run.proofs.store.silent_hands.Goals as goal

pub returns : goal.returns
returns c =
    let long : length c.loop-at.hands.items ≡ c.args.count = search rules in
    all_silent c.loop-at.hands.items c.args.count long c.loop-at.invariant.1
