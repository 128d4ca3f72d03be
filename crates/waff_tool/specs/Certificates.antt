-- A plan with its printed chain, and what the chain shows of the plan.
use Rattle.std.specs.Prelude.{◌≡◌, ◌↔◌, ℕ, ◌+◌, ◌≤◌, List, None, Option, Some}
use Rattle.waff_assign.specs.Instance.{Instance}
use Rattle.waff_plan.specs.Instances.{served_first, started_first, work_of_instance}
use Rattle.waff_plan.specs.Work.{length_of}
use Rattle.waff_plan.specs.Obeys.{Obeys, IsLeast}
use Rattle.waff_plan.specs.Chain.{IsChain, IsPrinted, chain_cost, chain_release}
use Rattle.waff_plan.specs.Workers.{running}
use Rattle.waff_plan.specs.Bound.{IsWithinBound, IsWithinTwice, IsWithinRatio}
use Rattle.waff_plan.specs.Laws.{ChainsAreWithinLength}
use Rattle.waff_plan.specs.ServesAs.{ServesAs}
use Rattle.waff_list.specs.declared.rule.Rule.{Rule}
use Rattle.waff_figures.specs.Sweep.{IsPlanOf}

-- the plans that serve as the one with these starts does are those that obey the order of its chains
abbrev pub AlikeObey : Instance → (ℕ → ℕ) → Type 0
AlikeObey instance start =
    (other : ℕ → ℕ)
    → ServesAs instance.tree instance.assigned (work_of_instance instance) start other
    ↔ Obeys (started_first instance start) (work_of_instance instance) other

-- the least plan in the order in which it is to serve messages, with its printed chain: no plan that
-- obeys the order of its chains, so none that serves alike, is shorter, as the chain shows, whose release
-- plus cost is the length; that of every chain is at most the length of every plan that obeys so
pub record IsCertified (instance : Instance) (start : ℕ → ℕ) (chain : List ℕ) : Type 0 where
  pub least : IsLeast (served_first instance start) (work_of_instance instance) start
  pub printed : IsPrinted (started_first instance start) (work_of_instance instance) start chain
  pub alike : AlikeObey instance start
  pub shortest : (other : ℕ → ℕ)
      → Obeys (started_first instance start) (work_of_instance instance) other
      → length_of (work_of_instance instance) start ≤ length_of (work_of_instance instance) other
  pub is_chain : IsChain (started_first instance start) (work_of_instance instance) chain
  pub as_long : chain_release (work_of_instance instance) chain
      + chain_cost (work_of_instance instance) chain
      ≡ length_of (work_of_instance instance) start
  pub certificate : ChainsAreWithinLength (started_first instance start) (work_of_instance instance)

-- the plan by this rule for k workers, with its printed chain: at most k messages run at each tick,
-- and whatever the rule the plan is within the list bound of the chain, so at most twice as long as
-- any worker plan for k that obeys the order of its chains, so any that serves alike, or 2 - 1/k times
-- where no message has a release or awaits another with a gap
pub record IsBounded (rule : Rule) (instance : Instance) (k : ℕ) (start : ℕ → ℕ)
    (chain : List ℕ) : Type 0 where
  pub list : IsPlanOf rule instance k start
  pub obeys : Obeys (served_first instance start) (work_of_instance instance) start
  pub at_once : (t : ℕ) → running (work_of_instance instance) start t ≤ k
  pub printed : IsPrinted (started_first instance start) (work_of_instance instance) start chain
  pub is_chain : IsChain (started_first instance start) (work_of_instance instance) chain
  pub alike : AlikeObey instance start
  pub bound : IsWithinBound (work_of_instance instance) k start chain
  pub twice : IsWithinTwice (started_first instance start) (work_of_instance instance) k start
  pub ratio : IsWithinRatio (started_first instance start) (work_of_instance instance) k start

-- the plan by this rule for this number of workers, or the least plan, whatever the rule, where there
-- is no number; with its printed chain
abbrev pub IsChained : Rule → Instance → Option ℕ → (ℕ → ℕ) → List ℕ → Type 0
IsChained rule instance None start chain = IsCertified instance start chain
IsChained rule instance (Some k) start chain = IsBounded rule instance k start chain
