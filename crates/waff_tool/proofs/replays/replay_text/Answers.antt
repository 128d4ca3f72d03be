use Rattle.std.proofs.Common.{inr, refl, string_bytes}
use Rattle.waff_inputs.proofs.Delivering.{delivers}
use Rattle.waff_tool.specs.ReplayText.{IsReplayText, RefusesReplay}
use Rattle.waff_tool.proofs.replays.replay_text.Goals as goal

pub returns : goal.returns
returns g c =
    delivers (λ text. string_bytes text) (λ text. IsReplayText c.args.hierarchy.now c.args.trace.now text)
    (RefusesReplay c.args.hierarchy.now c.args.trace.now) _ _ tt c.made_replay_text.result c.deliver.result c.made_replay_text.ensures (inr (inr refl))
    c.deliver.ensures
