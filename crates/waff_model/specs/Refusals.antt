-- Checks in a row, the first of which that holds refuses.
use Rattle.std.specs.Prelude.{Bool, List, [], ◌∷◌, Option, Some, None, if◌then◌else◌}

-- what a list of checks, each with its refusal, refuses: the refusal of the first check that holds
abbrev pub first_refusal : {E : Type 0} → List (Bool × E) → Option E
first_refusal [] = None
first_refusal (check ∷ more) = if check.0 then Some check.1 else first_refusal more
