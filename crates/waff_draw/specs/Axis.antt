-- The axis: round numbers of ticks.
use Rattle.std.specs.Prelude.{ℕ, ◌+◌, ◌-◌, ◌*◌, ◌/◌, ◌^◌, max, nat_le, List, [], ◌∷◌, ◌++◌}
use Rattle.std.specs.Prelude.{if◌then◌else◌}
use Rattle.std.specs.List.{flat_map, range_with_len}

-- round numbers, as far as plans may be long: 1, 2 and 5 times each power of ten
abbrev pub round_numbers : List ℕ
round_numbers =
    flat_map (λ n. 10 ^ n ∷ 2 * 10 ^ n ∷ 5 * 10 ^ n ∷ []) (range_with_len 0 15) ++ 10 ^ 15 ∷ []

-- the first of the steps of which ten reach the length, and the length itself where none does
abbrev pub first_step : ℕ → List ℕ → ℕ
first_step length [] = max length 1
first_step length (step ∷ steps) =
    if nat_le length (10 * step) then step else first_step length steps

-- the least round number of which ten steps reach the length
abbrev pub step_of : ℕ → ℕ
step_of length = first_step length round_numbers

-- the least multiple of a step that is not below a tick
abbrev pub multiple_from : ℕ → ℕ → ℕ
multiple_from step tick = (tick + step - 1) / step * step

-- line i of the axis of so many ticks from this one on, counted from 0
abbrev pub line_at : ℕ → ℕ → ℕ → ℕ
line_at from span i = multiple_from (step_of span) from + i * step_of span
