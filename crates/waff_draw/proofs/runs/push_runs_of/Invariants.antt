use Rattle.std.proofs.Common.{◌≡◌, ◌∷◌, ◌++◌, drop, string_bytes}
use Rattle.waff_draw.specs.Runs.{bars_in_order, outlines}
use Rattle.waff_draw.proofs.runs.push_runs_of.Given as goal

-- what is appended, and the outlines of the run with what is left of the chain, are those of all
abbrev pub invariant-loop-n : goal.invariant-loop-n
invariant-loop-n l =
    string_bytes l.text ++ outlines (l.run ∷ bars_in_order l.chart l.kind (drop l.n-index l.chain))
    ≡ string_bytes l.initial.text ++ outlines (bars_in_order l.chart l.kind l.chain)
