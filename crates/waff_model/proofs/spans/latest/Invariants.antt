use Rattle.std.proofs.Common.{◌≡◌, ◌≤◌, length, take}
use Rattle.waff_model.specs.Later.{latest_of}
use Rattle.waff_model.proofs.spans.latest.Given as goal

abbrev pub invariant-loop-value : goal.invariant-loop-value
invariant-loop-value g l = (l.value-index ≤ length l.values) × (l.latest ≡ latest_of g.T.Later.join (take l.value-index l.values))
