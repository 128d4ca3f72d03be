use Rattle.std.proofs.Common.{◌≡◌, ◌-◌, ◌++◌, map, string_bytes}
use Rattle.std.specs.List.{range_with_len}
use Rattle.waff_plan_text.specs.Lines.{text_of}
use Rattle.waff_tool.specs.NeedsText.{needs_row}
use Rattle.waff_tool.proofs.needs.push_needs_rows.Given as goal

abbrev pub invariant-loop-n : goal.invariant-loop-n
invariant-loop-n l =
    string_bytes l.text ≡ string_bytes l.initial.text
    ++ text_of (map (needs_row l.needs) (range_with_len 1 (l.n - 1)))
