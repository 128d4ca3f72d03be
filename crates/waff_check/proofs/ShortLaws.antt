-- Whether a plan is as short as any can be.
use Rattle.std.proofs.Common.{◌≡◌, ◌↔◌, ◌+◌, Bool, IsTrue, subst}
use Rattle.waff_plan.specs.Totals.{totals_of}
use Rattle.waff_plan.specs.Work.{length_of}
use Rattle.waff_plan.specs.declared.totals.Totals.{Totals}
use Rattle.waff_check.specs.Verdicts.{Claim, ReachesLength, chain_in, lower_bound_in, start_in, work_of_claim, workers_in}

module _ (claim : Claim) (totals : Totals) (is : totals ≡ totals_of (workers_in claim) (work_of_claim claim) (start_in claim) (chain_in claim)) (told : Bool) where
  -- a test of the totals tells whether the chain reaches the length
  pub reach_tells : (IsTrue told ↔ (totals.release + totals.cost ≡ totals.length)) → IsTrue told ↔ ReachesLength claim
  reach_tells = subst (λ (t : Totals). IsTrue told ↔ (t.release + t.cost ≡ t.length)) is

  -- and one of the length whether it is the least of all
  pub least_tells : (IsTrue told ↔ (totals.length ≡ lower_bound_in claim)) → IsTrue told ↔ (length_of (work_of_claim claim) (start_in claim) ≡ lower_bound_in claim)
  least_tells = subst (λ (t : Totals). IsTrue told ↔ (t.length ≡ lower_bound_in claim)) is
