-- How often a number is listed.
use Rattle.std.specs.Prelude.{◌≡◌, ℕ, List, Contains, count_by, ◌==◌}

-- how often m is listed
abbrev pub times : ℕ → List ℕ → ℕ
times m xs = count_by (λ x. x == m) xs

-- a list of all that pass a test, each once
pub record AreEach (Passes : ℕ → Type 0) (xs : List ℕ) : Type 0 where
  pub only : (x : ℕ) → Contains xs x → Passes x
  pub each : (x : ℕ) → Passes x → times x xs ≡ 1
