-- What a verdict without a fault implies.
use Rattle.std.specs.Prelude.{◌≡◌, ◌↔◌, ℕ, ◌<◌, ◌≤◌, Bool, false, true, Option, Some, None}
use Rattle.waff_model.specs.Versions.{has_clients}
use Rattle.waff_plan.specs.Apart.{AreApart}
use Rattle.waff_plan.specs.Bound.{IsWithinBound, IsWithinTwice, IsWithinRatio}
use Rattle.waff_plan.specs.Chain.{IsChain}
use Rattle.waff_plan.specs.Obeys.{Obeys}
use Rattle.waff_plan.specs.Rivals.{IsRival}
use Rattle.waff_plan.specs.ServesAs.{ServesAs}
use Rattle.waff_plan.specs.Work.{IsNumber, Work, length_of}
use Rattle.waff_plan.specs.Workers.{IsWorkerPlan}
use Rattle.waff_check.specs.Faults.{RunTogether}
use Rattle.waff_check.specs.Shifts.{IsOneOf}
use Rattle.waff_check.specs.Verdicts.{Claim, before_of, chain_in, pairs_of_claim, start_in}
use Rattle.waff_check.specs.Verdicts.{version_of, work_of_claim, worker_in, workers_in}
use Rattle.waff_check.specs.declared.verdict.Verdict.{Verdict}
use Rattle.waff_check.specs.declared.verdict.Verdict.TheVariants as verdict

-- a verdict that tells no fault
abbrev pub Accepts : Verdict → Type 0
Accepts verdict.Obeys = Unit {0}
Accepts verdict.Shortest = Unit {0}
Accepts verdict.Tight = Unit {0}
Accepts verdict.WithinBound = Unit {0}
Accepts _ = ⊥

-- each message has one of k workers, and no two messages of one worker run at a common tick
pub record AreOneAtATime (work : Work) (start : ℕ → ℕ)
    (worker : ℕ → Option ℕ) (k : ℕ) : Type 0 where
  pub each : (n : ℕ) → IsNumber work n → IsOneOf k (worker n)
  pub apart : (i j w : ℕ) → IsNumber work i → IsNumber work j
      → i < j → worker i ≡ Some w → worker j ≡ Some w → RunTogether work start i j → ⊥

-- for how many workers no plan is shorter than a shortest one: where messages have clients for as
-- many as it has, else without a limit on them, since it is as long as a chain
abbrev pub limit_where : Bool → Claim → Option ℕ
limit_where false claim = None
limit_where true claim = workers_in claim

abbrev pub limit_of : Claim → Option ℕ
limit_of claim = limit_where (has_clients (version_of claim)) claim

-- the plans that serve as this one does
abbrev pub ServesAlike : Claim → (ℕ → ℕ) → Type 0
ServesAlike claim other =
    ServesAs claim.instance.tree claim.instance.assigned (work_of_claim claim) (start_in claim) other

-- within a bound for k workers, by this chain: so within twice the length of every worker plan for
-- k that serves in the same order, and within 2k - 1 parts of k where no message has a release, a think time or a gap
pub record IsWithin (claim : Claim) (k : ℕ) : Type 0 where
  pub workers : workers_in claim ≡ Some k
  pub bound : IsWithinBound (work_of_claim claim) k (start_in claim) (chain_in claim)
  pub twice : IsWithinTwice (before_of claim) (work_of_claim claim) k (start_in claim)
  pub ratio : IsWithinRatio (before_of claim) (work_of_claim claim) k (start_in claim)

-- where no fault is told: the starts obey the order of the plan, and no two messages that exclude each
-- other run at a common tick; the plans that serve as it does are those that obey its order; with k
-- workers they are a worker plan for k, and the messages run on the workers one at a time; and the
-- chain of the text is a chain. Of a shortest plan, no plan that obeys is shorter; of a tight one, none
-- that serves as it does; of one within the bound, the bound
pub record Promises (claim : Claim) (v : Verdict) : Type 0 where
  pub obeys : Accepts v → Obeys (before_of claim) (work_of_claim claim) (start_in claim)
  pub apart : Accepts v → AreApart (pairs_of_claim claim) (work_of_claim claim) (start_in claim)
  pub serves : Accepts v → (other : ℕ → ℕ)
      → ServesAlike claim other ↔ Obeys (before_of claim) (work_of_claim claim) other
  pub worker_plan : Accepts v → (k : ℕ) → workers_in claim ≡ Some k
      → IsWorkerPlan (before_of claim) (work_of_claim claim) k (start_in claim)
  pub one_at_a_time : Accepts v → (k : ℕ) → workers_in claim ≡ Some k
      → AreOneAtATime (work_of_claim claim) (start_in claim) (worker_in claim.plan) k
  pub chain : Accepts v → IsChain (before_of claim) (work_of_claim claim) (chain_in claim)
  pub shortest : v ≡ verdict.Shortest → (other : ℕ → ℕ)
      → IsRival (limit_of claim) claim.instance other
      → length_of (work_of_claim claim) (start_in claim) ≤ length_of (work_of_claim claim) other
  pub tight : v ≡ verdict.Tight → (other : ℕ → ℕ) → ServesAlike claim other
      → length_of (work_of_claim claim) (start_in claim) ≤ length_of (work_of_claim claim) other
  pub bound : v ≡ verdict.WithinBound → (k : ℕ) × IsWithin claim k
