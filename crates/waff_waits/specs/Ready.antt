-- The messages that are ready, each with its priority and the key by which it is served.
use Rattle.std.specs.Prelude.{◌≡◌, ℕ, ◌<◌, ◌≤◌, ◌⊎◌, List, ◌∷◌, map, All, Contains}
use Rattle.std.specs.List.Sorted.{IsPermutation}

-- r, which is taken before all others, has left those that are ready: it has the highest priority,
-- of these the lowest key, and of these the lowest number
pub record LeavesTaker (old : List (ℕ × (ℕ × ℕ))) (r : ℕ × (ℕ × ℕ))
    (new : List (ℕ × (ℕ × ℕ))) : Type 0 where
  pub rest : IsPermutation old (r ∷ new)
  pub first : (s : ℕ × (ℕ × ℕ)) → Contains new s → (s.0 < r.0) ⊎ ((r.0 ≡ s.0)
      × ((r.1.0 < s.1.0) ⊎ ((r.1.0 ≡ s.1.0) × (r.1.1 ≤ s.1.1))))

-- each is kept with its priority and its key
abbrev pub AreRanked : (ℕ → ℕ) → (ℕ → ℕ) → List (ℕ × (ℕ × ℕ)) → Type 0
AreRanked priority key ranks =
    All (λ r. (r.0 ≡ priority r.1.1) × (r.1.0 ≡ key r.1.1)) ranks

-- the messages of those that are ready
abbrev pub ranked_in : List (ℕ × (ℕ × ℕ)) → List ℕ
ranked_in ranks = map (λ r. r.1.1) ranks
