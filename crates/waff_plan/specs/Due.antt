-- Messages that are due, each with its tick: the tick, and the number of the message.
use Rattle.std.specs.Prelude.{◌≡◌, ℕ, ◌<◌, ◌≤◌, ◌⊎◌, List, ◌∷◌, Contains, IsPermutation}

-- r is due before s, or at the same tick with the lower number, or is s
abbrev pub IsDueFirst : ℕ × ℕ → ℕ × ℕ → Type 0
IsDueFirst r s = (r.0 < s.0) ⊎ ((r.0 ≡ s.0) × (r.1 ≤ s.1))

-- r, the first of those that are due, has left them
pub record LeavesDue (old : List (ℕ × ℕ)) (r : ℕ × ℕ) (new : List (ℕ × ℕ)) : Type 0 where
  pub rest : IsPermutation old (r ∷ new)
  pub least : (s : ℕ × ℕ) → Contains new s → IsDueFirst r s
