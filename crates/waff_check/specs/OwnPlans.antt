-- The verdicts on plans that tell what they are.
use Rattle.std.specs.Prelude.{◌≡◌, ℕ, ◌+◌, ◌⊎◌, Bool, false, true, List, length, Option, Some, None}
use Rattle.waff_model.specs.Versions.{has_clients}
use Rattle.waff_model.specs.declared.message.Version.{Version}
use Rattle.waff_assign.specs.Instance.{Instance, before_in}
use Rattle.waff_plan.specs.Apart.{AreApart}
use Rattle.waff_plan.specs.Bound.{IsWithinBound}
use Rattle.waff_plan.specs.Chain.{IsChain, chain_cost, chain_release}
use Rattle.waff_plan.specs.Instances.{served_first, started_first, work_of_instance}
use Rattle.waff_plan.specs.Obeys.{AwaitsEarlier, Obeys}
use Rattle.waff_plan.specs.Work.{length_of}
use Rattle.waff_plan.specs.Workers.{IsWorkerPlan}
use Rattle.waff_plan_text.specs.Laws.{plan_told}
use Rattle.waff_plan_text.specs.Spelling.{no_worker}
use Rattle.waff_check.specs.Promises as promises
use Rattle.waff_check.specs.Promises.{AreOneAtATime}
use Rattle.waff_check.specs.Verdicts.{Claim, IsVerdict, claim_of}
use Rattle.waff_check.specs.declared.verdict.Verdict.{Verdict}
use Rattle.waff_check.specs.declared.verdict.Verdict.TheVariants as verdict

-- the claim of a plan that tells these starts, workers and chain as they are
abbrev pub claim_told : Instance → Option ℕ → (ℕ → ℕ) → (ℕ → Option ℕ) → List ℕ → Claim
claim_told instance workers start worker chain =
    claim_of instance (plan_told instance.trace.version instance.tree instance.assigned
    (work_of_instance instance) workers start worker chain)

-- the check finds no fault in a plan
pub record IsAccepted (claim : Claim) : Type 0 where
  pub verdict : Verdict
  pub is_verdict : IsVerdict claim verdict
  pub no_fault : promises.Accepts verdict

-- a plan is found as short as it can be: shortest, or where messages have clients tight
abbrev pub IsFoundShortWhere : Bool → Claim → Type 0
IsFoundShortWhere false claim = IsVerdict claim verdict.Shortest
IsFoundShortWhere true claim = IsVerdict claim verdict.Shortest ⊎ IsVerdict claim verdict.Tight

abbrev pub IsFoundShort : Version → Claim → Type 0
IsFoundShort version claim = IsFoundShortWhere (has_clients version) claim

-- a plan without workers that obeys the order of its version, with a chain whose release and cost are
-- its length, is found as short as it can be
abbrev pub OwnPlanIsShortest : Instance → (ℕ → ℕ) → List ℕ → Type 0
OwnPlanIsShortest instance start chain =
    length instance.assigned ≡ length instance.trace.messages → AwaitsEarlier (work_of_instance instance)
    → Obeys (served_first instance start) (work_of_instance instance) start
    → IsChain (started_first instance start) (work_of_instance instance) chain
    → chain_release (work_of_instance instance) chain + chain_cost (work_of_instance instance) chain
    ≡ length_of (work_of_instance instance) start
    → IsFoundShort instance.trace.version (claim_told instance None start no_worker chain)

-- a worker plan for k with its workers, within the bound by a chain, is found as short as it can be or
-- within the bound
abbrev pub OwnPlanIsWithinBound : Instance → ℕ → (ℕ → ℕ) → (ℕ → Option ℕ) → List ℕ → Type 0
OwnPlanIsWithinBound instance k start worker chain =
    length instance.assigned ≡ length instance.trace.messages → AwaitsEarlier (work_of_instance instance)
    → IsWorkerPlan (served_first instance start) (work_of_instance instance) k start
    → AreOneAtATime (work_of_instance instance) start worker k
    → IsChain (started_first instance start) (work_of_instance instance) chain
    → IsWithinBound (work_of_instance instance) k start chain
    → IsFoundShort instance.trace.version (claim_told instance (Some k) start worker chain)
    ⊎ IsVerdict (claim_told instance (Some k) start worker chain) verdict.WithinBound

-- a worker plan for k with its workers and a chain, which obeys in the order of its chains, and in which no two messages
-- that exclude each other run at a common tick, is accepted
abbrev pub OwnPlanIsAccepted : Instance → ℕ → (ℕ → ℕ) → (ℕ → Option ℕ) → List ℕ → Type 0
OwnPlanIsAccepted instance k start worker chain =
    length instance.assigned ≡ length instance.trace.messages → AwaitsEarlier (work_of_instance instance)
    → IsWorkerPlan (started_first instance start) (work_of_instance instance) k start
    → AreApart (before_in instance) (work_of_instance instance) start
    → AreOneAtATime (work_of_instance instance) start worker k
    → IsChain (started_first instance start) (work_of_instance instance) chain
    → IsAccepted (claim_told instance (Some k) start worker chain)
