use Rattle.std.proofs.Common.{◌≡◌, take}
use Rattle.waff_record.specs.Drift.{last_finish}
use Rattle.waff_record.proofs.drift.last_finish.Given as goal

abbrev pub invariant-loop-at : goal.invariant-loop-at
invariant-loop-at l = l.last ≡ last_finish (take l.at l.turns)
