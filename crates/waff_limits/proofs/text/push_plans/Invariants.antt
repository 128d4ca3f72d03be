use Rattle.std.proofs.Common.{◌≡◌, ◌++◌, map, take, string_bytes}
use Rattle.waff_plan_text.specs.Lines.{text_of}
use Rattle.waff_limits.specs.Limits.{planned_row}
use Rattle.waff_limits.proofs.text.push_plans.Given as goal

abbrev pub invariant-loop-figures : goal.invariant-loop-figures
invariant-loop-figures l =
    string_bytes l.text ≡ string_bytes l.initial.text ++ text_of (map planned_row (take l.figures-index l.listed))
