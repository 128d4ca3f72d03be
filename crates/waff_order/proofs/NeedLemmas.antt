-- Needs of one more message, and paths through needs.
use Rattle.std.proofs.Common.{◌≡◌, ℕ, zero, suc, ◌+◌, ◌-◌, ◌≤◌, ◌⊎◌, inl, inr, List, [], ◌∷◌, ◌++◌, length, Contains, arith, sym, subst}
use Rattle.std.proofs.lemmas.Bool.{cases_eq, cases_lt}
use Rattle.std.proofs.lemmas.List.{get_or_past, get_or_push, get_or_append_left, length_push}
use Rattle.waff_model.proofs.Members.{in_none}
use Rattle.waff_assign.specs.Order.{PathBy, Path}
use Rattle.waff_order.specs.Needs.{needs_of, IsNeed}

-- a need is one of a message that has a list
pub need_within : (needs : List (List ℕ)) (i j : ℕ) → IsNeed needs i j → j ≤ length needs
need_within needs i j h =
    elim (cases_lt (j - 1) (length needs)) [
      | inl below ↦ omega (arith, h.from)
      | inr past ↦ absurd (in_none i (subst (λ xs. Contains xs i) (get_or_past needs (j - 1) [] past) h.listed))
    ]

-- a need stays one
pub need_kept : (needs : List (List ℕ)) (more : List ℕ) (i j : ℕ) → IsNeed needs i j → IsNeed (needs ++ more ∷ []) i j
need_kept needs more i j h =
    let same = get_or_append_left needs (more ∷ []) [] (j - 1) (omega (arith, h.from, need_within needs i j h)) in
    record { from = h.from; listed = subst (λ xs. Contains xs i) (sym same) h.listed }

-- the needs of the next message
pub need_new : (needs : List (List ℕ)) (more : List ℕ) (n i : ℕ) → length needs ≡ n → Contains more i → IsNeed (needs ++ more ∷ []) i (n + 1)
need_new needs more n i count listed =
    let same : needs_of (needs ++ more ∷ []) (n + 1) ≡ more = get_or_push needs more [] (n + 1 - 1) (omega arith) in
    record { from = omega arith; listed = subst (λ xs. Contains xs i) (sym same) listed }

-- a need is one of before, or of the next message
pub need_cases : (needs : List (List ℕ)) (more : List ℕ) (n i j : ℕ) → length needs ≡ n → IsNeed (needs ++ more ∷ []) i j
    → IsNeed needs i j ⊎ ((j ≡ n + 1) × Contains more i)
need_cases needs more n i j count h =
    let to : j ≤ length needs + 1 = omega (arith, need_within (needs ++ more ∷ []) i j h, length_push needs more) in
    elim (cases_eq j (n + 1)) [
      | inl last ↦ inr (last, subst (λ xs. Contains xs i) (get_or_push needs more [] (j - 1) (omega arith)) h.listed)
      | inr other ↦
          let same = get_or_append_left needs (more ∷ []) [] (j - 1) (omega (arith, h.from)) in
          inl (record { from = h.from; listed = subst (λ xs. Contains xs i) same h.listed })
    ]

-- a path stays one where the pairs do
path_by_weaker : (fewer more : ℕ → ℕ → Type 0) → ((i j : ℕ) → fewer i j → more i j) → (n i j : ℕ) → PathBy fewer n i j → PathBy more n i j
path_by_weaker fewer more weaker zero i j h = weaker i j h
path_by_weaker fewer more weaker (suc n) i j (m, first, rest) = (m, weaker i m first, path_by_weaker fewer more weaker n m j rest)

pub path_weaker : (fewer more : ℕ → ℕ → Type 0) → ((i j : ℕ) → fewer i j → more i j) → (i j : ℕ) → Path fewer i j → Path more i j
path_weaker fewer more weaker i j (n, h) = (n, path_by_weaker fewer more weaker n i j h)

-- one pair is a path
pub path_one : (before : ℕ → ℕ → Type 0) (i j : ℕ) → before i j → Path before i j
path_one before i j h = (0, h)

path_by_join : (before : ℕ → ℕ → Type 0) (n i m j : ℕ) → PathBy before n i m → Path before m j → Path before i j
path_by_join before zero i m j first (k, rest) = (suc k, (m, first, rest))
path_by_join before (suc n) i m j (next, first, rest) last =
    let joined = path_by_join before n next m j rest last in
    (suc joined.0, (next, first, joined.1))

-- two paths, one after the other
pub path_join : (before : ℕ → ℕ → Type 0) (i m j : ℕ) → Path before i m → Path before m j → Path before i j
path_join before i m j (n, first) last = path_by_join before n i m j first last
