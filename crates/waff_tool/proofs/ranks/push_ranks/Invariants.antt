use Rattle.std.proofs.Common.{◌≡◌, ◌++◌, take, string_bytes}
use Rattle.waff_plan_text.specs.Lines.{text_of}
use Rattle.waff_tool.specs.Ranks.{rank_rows}
use Rattle.waff_tool.proofs.ranks.push_ranks.Given as goal

abbrev pub invariant-loop-i : goal.invariant-loop-i
invariant-loop-i l = string_bytes l.text ≡ string_bytes l.initial.text ++ text_of (rank_rows 1 (take l.i l.ranks))
