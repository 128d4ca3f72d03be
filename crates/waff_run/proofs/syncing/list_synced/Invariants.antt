use Rattle.std.proofs.Common.{◌≡◌, flat_map, take}
use Rattle.waff_run.specs.Syncing.{cells_synced, files_with}
use Rattle.waff_run.proofs.syncing.list_synced.Given as goal

abbrev pub invariant-loop-at : goal.invariant-loop-at
invariant-loop-at l = l.files.items ≡ files_with l.places (flat_map (cells_synced l.which) (take l.at l.ops))
