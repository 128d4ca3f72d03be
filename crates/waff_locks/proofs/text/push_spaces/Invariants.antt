use Rattle.std.proofs.Common.{◌≡◌, ◌++◌, map, take, string_bytes}
use Rattle.waff_plan_text.specs.Lines.{text_of}
use Rattle.waff_locks.specs.LocksText.{space_row}
use Rattle.waff_locks.proofs.text.push_spaces.Given as goal

abbrev pub invariant-loop-one : goal.invariant-loop-one
invariant-loop-one l =
    string_bytes l.text ≡ string_bytes l.initial.text ++ text_of (map (space_row l.what l.layout.spaces) (take l.one-index l.spaces))
