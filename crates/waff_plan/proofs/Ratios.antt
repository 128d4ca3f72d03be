-- What is within Graham's bound is within a constant ratio of every worker plan.
use Rattle.std.proofs.Common.{◌≡◌, ℕ, ◌+◌, ◌-◌, ◌*◌, ◌≤◌, inl, inr, List, [], ◌∷◌, arith, refl, ap, ◌∙◌, mul-zero}
use Rattle.std.proofs.Math.Nat.{mul-le-mul_left, mul-le-mul_right}
use Rattle.waff_assign.specs.Order.{Relation}
use Rattle.waff_plan.specs.Work.{Work, IsAwaited, IsNumber, gap_of, length_of, total_of}
use Rattle.waff_plan.specs.Chain.{IsChain, chain_cost, chain_release, gaps_after}
use Rattle.waff_plan.proofs.Chains.{chains_are_within_length, first_is_number}
use Rattle.waff_plan.proofs.Followings.{gap_or_awaited}
use Rattle.waff_plan.proofs.Ticks.{total_is_within_workers}
use Rattle.waff_plan.specs.Bound.{BoundIsWithinTwice, BoundIsWithinRatio}

twice : (k length total release cost other : ℕ) → k * length ≤ total + k * release + (k - 1) * cost → total ≤ k * other
    → release + cost ≤ other → k * length ≤ 2 * k * other
twice k length total release cost other bound work chain =
    let less : k - 1 ≤ k = omega arith in
    omega (arith, mul-le-mul_left k chain, mul-le-mul_right cost less)

ratio : (k length total cost other : ℕ) → 1 ≤ k → k * length ≤ total + (k - 1) * cost → total ≤ k * other
    → cost ≤ other → k * length ≤ (2 * k - 1) * other
ratio k length total cost other some bound work chain =
    let part : (k - 1) * cost ≤ (k - 1) * other = mul-le-mul_left (k - 1) chain in
    let split : 2 * k - 1 ≡ k + (k - 1) = omega arith in
    let whole : (2 * k - 1) * other ≡ (k + (k - 1)) * other = ap (λ n. n * other) split in
    omega arith

pub bound_is_within_twice : (before : Relation) (work : Work) → BoundIsWithinTwice before work
bound_is_within_twice before work k start chain is_chain bound other plan =
    twice k (length_of work start) (total_of work) (chain_release work chain) (chain_cost work chain) (length_of work other) bound
    (total_is_within_workers before work k other plan)
    (chains_are_within_length before work chain other is_chain plan.obeys)

-- where no message is awaited with a gap, no chain has gaps
no_gap : (work : Work) → ((i m : ℕ) → IsAwaited (work.awaits m) i → gap_of work i m ≡ 0) → (i m : ℕ) → gap_of work i m ≡ 0
no_gap work none i m = elim (gap_or_awaited i (work.awaits m)) [
  | inl zero ↦ zero
  | inr awaited ↦ none i m awaited
]

no_gaps : (work : Work) → ((i m : ℕ) → IsAwaited (work.awaits m) i → gap_of work i m ≡ 0) → (m : ℕ) (rest : List ℕ) → gaps_after work m rest ≡ 0
no_gaps work none m [] = refl
no_gaps work none m (next ∷ rest) = omega (arith, no_gap work none m next, no_gaps work none next rest)

-- where no message has a release either, no chain has one
no_release : (before : Relation) (work : Work) → ((m : ℕ) → IsNumber work m → work.floor m ≡ 0)
    → ((i m : ℕ) → IsAwaited (work.awaits m) i → gap_of work i m ≡ 0)
    → (chain : List ℕ) → IsChain before work chain → chain_release work chain ≡ 0
no_release before work none no_gap [] h = refl
no_release before work none no_gap (m ∷ rest) h =
    omega (arith, none m (first_is_number before work m rest h), no_gaps work no_gap m rest)

pub bound_is_within_ratio : (before : Relation) (work : Work) → BoundIsWithinRatio before work
bound_is_within_ratio before work k start chain some is_chain bound none no_gap other plan =
    let zero_release : chain_release work chain ≡ 0 = no_release before work none no_gap chain is_chain in
    let nothing : k * chain_release work chain ≡ 0 = ap (λ n. k * n) zero_release ∙ mul-zero k in
    let within : chain_release work chain + chain_cost work chain ≤ length_of work other
    = chains_are_within_length before work chain other is_chain plan.obeys in
    let b : k * length_of work start ≤ total_of work + k * chain_release work chain + (k - 1) * chain_cost work chain = bound in
    ratio k (length_of work start) (total_of work) (chain_cost work chain) (length_of work other) some
    (omega (arith, b, nothing)) (total_is_within_workers before work k other plan) (omega (arith, within))
