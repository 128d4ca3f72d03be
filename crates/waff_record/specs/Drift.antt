-- Whether what is told of a run is longer than the run was.
use Rattle.std.specs.Prelude.{ℕ, ◌-◌, ◌*◌, ◌/◌, ◌&&◌, List, Option, Some, None, count_by, map, nat_lt, if◌then◌else◌}
use Rattle.waff_plan.specs.Work.{greatest}
use Rattle.waff_line.specs.declared.turn.Turn.{Turn}

-- the greatest finish of turns, 0 where there is none
abbrev pub last_finish : List Turn → ℕ
last_finish turns = greatest (map (λ turn. turn.finish) turns)

-- where a length that is told is more than a hundredth longer than the one that was measured, by how many per cent it is,
-- rounded down
abbrev pub drift_of : ℕ → ℕ → Option ℕ
drift_of told measured =
    if nat_lt 0 measured && nat_lt (measured * 101) (told * 100)
    then Some ((told - measured) * 100 / measured)
    else None

-- how many turns were shorter than a tick of so many nanoseconds
abbrev pub short_turns : ℕ → List Turn → ℕ
short_turns tick turns = count_by (λ turn. nat_lt (turn.finish - turn.start) tick) turns
