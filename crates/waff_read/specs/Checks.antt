-- Checks as readings of nothing.
use Rattle.std.specs.Prelude.{Option, Some, None, Result, Ok, Err}

-- a check that is passed where there is no refusal
abbrev pub passed : {E : Type 0} → Option E → Result (Unit {0}) E
passed None = Ok tt
passed (Some refusal) = Err refusal
