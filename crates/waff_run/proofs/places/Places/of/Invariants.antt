use Rattle.std.proofs.Common.{◌≡◌, ◌*◌, ◌≤◌, take}
use Rattle.waff_run.specs.Places.{files_of, striped_from}
use Rattle.waff_run.proofs.places.Places.of.Given as goal

abbrev pub invariant-loop-s : goal.invariant-loop-s
invariant-loop-s l = record {
  made : l.spaces.items ≡ striped_from 0 (take l.s l.layout.spaces);
  count : l.files ≡ files_of (take l.s l.layout.spaces);
  few : l.files ≤ 256 * l.s;
}
