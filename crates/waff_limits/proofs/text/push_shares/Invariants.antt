use Rattle.std.proofs.Common.{◌≡◌, ◌++◌, map, take, string_bytes}
use Rattle.waff_plan_text.specs.Lines.{text_of}
use Rattle.waff_limits.specs.Limits.{work_row}
use Rattle.waff_limits.proofs.text.push_shares.Given as goal

abbrev pub invariant-loop-k : goal.invariant-loop-k
invariant-loop-k l =
    string_bytes l.text ≡ string_bytes l.initial.text ++ text_of (map (work_row l.total) (take l.k-index l.workers))
