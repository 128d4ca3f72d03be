-- The messages of a run in the order in which they began.
use Rattle.std.specs.Prelude.{◌≡◌, List, Vec, length, map}
use Rattle.std.specs.Global.{Global}
use Rattle.waff_plan.specs.ByStart.{AreByStart}
use Rattle.waff_plan.specs.Timing.{start_of}
use Rattle.waff_plan.specs.Work.{Work}
use Rattle.waff_plan.specs.declared.sequence.Started.{Started}
use Rattle.waff_line.specs.declared.turn.Turn.{Turn}

-- messages that have turns, each once, by the starts of their turns
abbrev pub AreBegun : List Turn → List Started → Type 0
AreBegun turns began =
    (work : Work) → work.count ≡ length turns
    → AreByStart work (start_of (map (λ turn. turn.start) turns)) began

abbrev pub IsBegun : List Turn → Vec Started Global → Type 0
IsBegun turns began = AreBegun turns began.items
