use Rattle.std.proofs.Common.{◌-◌, take, vec_len}
use Rattle.std.proofs.lemmas.List.Elements.{All-same, All-take}
use Rattle.waff_board.specs.Tokens.{IsOf}
use Rattle.waff_replay.proofs.replaying.replay.Goals as goal

pub team-requires-clause-others : goal.team-requires-clause-others
team-requires-clause-others g c κs within =
    let others = c.in-Ok.others in
    let n = vec_len others - 1 in
    let Of = IsOf c.in-Ok.board in
    All-same Of c.pop.new.self.items (take n others.items) c.pop.ensures.rest (All-take Of n others.items c.in-Ok.ensures.of)
