use Rattle.std.proofs.Common.{◌≡◌, ◌-◌, map, take}
use Rattle.waff_run.specs.Texts.{syncs_by}
use Rattle.waff_run.proofs.running.syncs_of.Given as goal

abbrev pub invariant-loop-m : goal.invariant-loop-m
invariant-loop-m l = l.syncs.items ≡ map (syncs_by l.settings) (take (l.m - 1) l.trace.messages)
