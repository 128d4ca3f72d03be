use Rattle.std.proofs.Common.{◌≡◌, drop, fold, length, max}
use Rattle.waff_draw.specs.Frames.{longest_in}
use Rattle.waff_draw.specs.Scene.{coloured_in}
use Rattle.waff_draw.proofs.frame.longest.Given as goal

abbrev pub invariant-loop-place : goal.invariant-loop-place
invariant-loop-place l =
    fold (λ longest name. max longest (length name)) l.longest (drop l.place (coloured_in l.chart)) ≡ longest_in l.chart
