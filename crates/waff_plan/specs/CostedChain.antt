-- A chain with its cost and its release.
use Rattle.std.specs.Prelude.{ℕ, List}

pub record CostedChain : Type 0 where
  pub messages : List ℕ
  pub cost : ℕ
  pub release : ℕ
