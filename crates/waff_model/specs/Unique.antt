-- What is told in one way alone.
use Rattle.std.specs.Prelude.{◌≡◌}

-- two things of which this holds are equal
abbrev pub AtMostOne : {A : Type 0} → (A → Type 0) → Type 0
AtMostOne {A} holds = (one other : A) → holds one → holds other → one ≡ other
