-- Lists of affinities in which none stands twice.
use Rattle.std.proofs.Common.{◌≡◌, ◌⊎◌, inl, inr, ℕ, zero, suc, List, [], ◌∷◌, Contains, refl, sym, subst, ⊎_elim, arith}
use mathlib.Core.Logic.{dite}
use native.Mathlib.Decide.{ℕ_discrete}
use Rattle.waff_model.proofs.Members.{in_cases, in_first, in_none, in_rest}
use Rattle.waff_core.specs.Job.{StandOnce}

-- a stands in the list, or not
pub decide_in : (list : List ℕ) (a : ℕ) → Contains list a ⊎ ¬ Contains list a
decide_in [] a = inr (in_none a)
decide_in (first ∷ rest) a = dite (ℕ_discrete first a)
    (λ same. inl (subst (λ b. Contains (first ∷ rest) b) same (in_first first rest)))
    (λ other. ⊎_elim {C = Contains (first ∷ rest) a ⊎ ¬ Contains (first ∷ rest) a}
    (λ (there : Contains rest a). inl (in_rest first rest a there))
    (λ (gone : ¬ Contains rest a). inr (λ within. ⊎_elim {C = ⊥} other gone (in_cases first rest a within)))
    (decide_in rest a))

-- where none stands twice, the first does not stand in the rest, and none stands twice there
pub once_first : (first : ℕ) (rest : List ℕ) → StandOnce (first ∷ rest) → ¬ Contains rest first
once_first first rest once (k, within, is) = once 0 (suc k) first (omega arith) (omega (arith, within)) (sym is)

pub once_rest : (first : ℕ) (rest : List ℕ) → StandOnce (first ∷ rest) → StandOnce rest
once_rest first rest once i j d before within = once (suc i) (suc j) d (omega (arith, before)) (omega (arith, within))
