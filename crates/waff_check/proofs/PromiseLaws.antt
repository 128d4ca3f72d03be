-- What follows from a verdict without a fault.
use Rattle.std.proofs.Common.{◌≡◌, ◌↔◌, ℕ, ◌≤◌, true, Option, Some, IfSome, arith, inl, inr, subst}
use Rattle.std.proofs.lemmas.Bool.{cases_lt}
use Rattle.waff_model.specs.Versions.{has_clients}
use Rattle.waff_model.specs.declared.message.Version.{Version}
use Rattle.waff_model.specs.declared.message.Version.TheVariants.{V1, V2, V3, V4}
use Rattle.waff_model.specs.Tree.{IsTree}
use Rattle.waff_plan.specs.Apart.{AreApart}
use Rattle.waff_plan.specs.Bound.{IsWorkers}
use Rattle.waff_plan.specs.Chain.{IsChain}
use Rattle.waff_plan.specs.Obeys.{AwaitsEarlier, Obeys}
use Rattle.waff_plan.specs.Rivals.{IsRivalWhere}
use Rattle.waff_plan.specs.Serving.{started_before}
use Rattle.waff_plan.specs.Work.{length_of}
use Rattle.waff_plan.specs.Workers.{IsWorkerPlan, running}
use Rattle.waff_plan.specs.Timetable.{timings_of}
use Rattle.waff_plan.proofs.Chains.{chains_are_within_length}
use Rattle.waff_plan.proofs.Ratios.{bound_is_within_ratio, bound_is_within_twice}
use Rattle.waff_plan.proofs.LowerBounds.{none_is_below}
use Rattle.waff_plan.proofs.TimingLemmas.{length-timings_of}
use Rattle.waff_check.specs.Faults.{HasWrongWorker, IsCrowded, NoneOf}
use Rattle.waff_plan_text.specs.Given.{IsGiven}
use Rattle.waff_check.specs.Promises.{Accepts, AreOneAtATime, IsWithin, Promises, ServesAlike, limit_where}
use Rattle.waff_check.specs.Verdicts.{Claim, IsClaim, IsFaultless, IsShortWhere, IsVerdict, ReachesLength, before_of, chain_in, lower_bound_in, pairs_of_claim, start_in, version_of, work_of_claim, worker_in, workers_in}
use Rattle.waff_check.specs.declared.verdict.Verdict.{Verdict}
use Rattle.waff_check.specs.declared.verdict.Verdict.TheVariants as verdict
use Rattle.waff_check.proofs.LinkLaws.{is-chain}
use Rattle.waff_check.proofs.ListLaws.{starts_issued}
use Rattle.waff_check.proofs.ServedLaws.{AllRun, none_together, order_is_kept}
use Rattle.waff_check.proofs.ServesLaws.{serves_where_obeys}
use Rattle.waff_check.proofs.ShiftLaws.{not-taken, seated-where-right}

-- a verdict that accepts has found no fault
faultless-of : (claim : Claim) (v : Verdict) → IsVerdict claim v → Accepts v → IsFaultless claim
faultless-of claim verdict.Obeys h a v less = h.free v (omega (arith, less))
faultless-of claim verdict.Shortest h a v less = h.free v less
faultless-of claim verdict.Tight h a v less = h.free v (omega (arith, less))
faultless-of claim verdict.WithinBound h a v less = h.free v (omega (arith, less))
faultless-of claim _ h a v less = absurd a

-- where messages have clients no plan that obeys is shorter than the lower bound
none-below : (claim : Claim) → IsClaim claim → AwaitsEarlier (work_of_claim claim) → IsGiven claim.plan → IsTree claim.instance.tree
    → (other : ℕ → ℕ) → IsRivalWhere true (workers_in claim) claim.instance other → lower_bound_in claim ≤ length_of (work_of_claim claim) other
none-below claim is earlier given tree =
    none_is_below (workers_in claim) claim.instance.tree claim.instance.assigned (work_of_claim claim) tree
    (omega (arith, is.lengths, length-timings_of claim.instance.trace.messages)) given.workers earlier

module _ (claim : Claim) (is : IsClaim claim) (run : AllRun (work_of_claim claim) claim.instance.assigned) (earlier : AwaitsEarlier (work_of_claim claim)) where
  obeys : IsFaultless claim → Obeys (before_of claim) (work_of_claim claim) (start_in claim)
  obeys good = record {
    issued = starts_issued (timings_of claim.instance.trace.messages) (start_in claim) (λ m. good (verdict.Early m) (omega arith))
        (λ m. good (verdict.Client m) (omega arith)) (λ m i. good (verdict.After m i) (omega arith));
    ordered = order_is_kept claim.instance.tree claim.instance.assigned (work_of_claim claim) (start_in claim) (version_of claim) run
        (λ i j. good (verdict.Overlap i j) (omega arith));
  }

  apart : IsFaultless claim → AreApart (pairs_of_claim claim) (work_of_claim claim) (start_in claim)
  apart good =
      none_together claim.instance.tree claim.instance.assigned (work_of_claim claim) (start_in claim) (version_of claim)
      (λ i j. good (verdict.Overlap i j) (omega arith))

  serves : IsFaultless claim → (other : ℕ → ℕ)
      → ServesAlike claim other ↔ Obeys (before_of claim) (work_of_claim claim) other
  serves good =
      serves_where_obeys claim.instance.tree claim.instance.assigned (work_of_claim claim) (start_in claim) run (version_of claim) (obeys good) (apart good)

  worker-plan : IsFaultless claim → (k : ℕ) → workers_in claim ≡ Some k → IsWorkerPlan (before_of claim) (work_of_claim claim) k (start_in claim)
  worker-plan good k e = record {
    obeys = obeys good;
    within = λ t. elim (cases_lt k (running (work_of_claim claim) (start_in claim) t)) [
      | inl lt ↦ (let crowd : IsCrowded (work_of_claim claim) (start_in claim) (workers_in claim) t = rw e lt in absurd (good (verdict.TooManyAt t) (omega arith) crowd))
      | inr le ↦ le
    ];
  }

  one-at-a-time : IsFaultless claim → (k : ℕ) → workers_in claim ≡ Some k
      → AreOneAtATime (work_of_claim claim) (start_in claim) (worker_in claim.plan) k
  one-at-a-time good k e =
      let work = work_of_claim claim in
      let start = start_in claim in
      let worker = worker_in claim.plan in
      let none = subst (λ w. NoneOf (HasWrongWorker work start worker w)) e (λ n. good (verdict.Worker n) (omega arith)) in
      record {
        each = seated-where-right work start worker k none;
        apart = λ i j w ni nj earlier wi wj together.
            not-taken work start worker k none j i w nj wj (record { from = ni.from; earlier = earlier; same = wi; together = together });
      }

  chain-of : IsGiven claim.plan → IsFaultless claim → IsChain (before_of claim) (work_of_claim claim) (chain_in claim)
  chain-of given good =
      let count = length-timings_of claim.instance.trace.messages in
      is-chain (before_of claim) (work_of_claim claim) (chain_in claim) (λ place. good (verdict.NotAChain place) (omega arith))
      (λ i d lt. let m = given.chain.each i d lt in record { from = m.from; to = omega (arith, m.to, count, is.rows) })

  -- where the chain reaches the length, no plan that serves as this one is shorter
  tight : IsGiven claim.plan → IsFaultless claim → ReachesLength claim → (other : ℕ → ℕ) → ServesAlike claim other
      → length_of (work_of_claim claim) (start_in claim) ≤ length_of (work_of_claim claim) other
  tight given good reach other s =
      let within = chains_are_within_length (before_of claim) (work_of_claim claim) (chain_in claim) other (chain-of given good) ((serves good other).0 s) in
      omega (arith, within, reach)

  shortest-in : (version : Version) → ((other : ℕ → ℕ) → IsRivalWhere true (workers_in claim) claim.instance other → lower_bound_in claim ≤ length_of (work_of_claim claim) other)
      → IsChain (started_before version claim.instance.tree claim.instance.assigned (start_in claim)) (work_of_claim claim) (chain_in claim)
      → IsShortWhere (has_clients version) claim → (other : ℕ → ℕ)
      → IsRivalWhere (has_clients version) (limit_where (has_clients version) claim) claim.instance other
      → length_of (work_of_claim claim) (start_in claim) ≤ length_of (work_of_claim claim) other
  shortest-in V1 least chain reach other o =
      omega (arith, chains_are_within_length (pairs_of_claim claim) (work_of_claim claim) (chain_in claim) other chain o, reach)
  shortest-in V2 least chain reach other o =
      omega (arith, chains_are_within_length (pairs_of_claim claim) (work_of_claim claim) (chain_in claim) other chain o, reach)
  shortest-in V3 least chain short other o = omega (arith, least other o, short)
  shortest-in V4 least chain short other o = omega (arith, least other o, short)

  some-workers : (w : Option ℕ) (k : ℕ) → w ≡ Some k → IfSome w IsWorkers → 1 ≤ k
  some-workers w k e h = let at = rw e at h in at.from

  bound : IsGiven claim.plan → IsVerdict claim verdict.WithinBound → (k : ℕ) × IsWithin claim k
  bound given h =
      let start = start_in claim in
      let chain = chain_in claim in
      let kept = h.found in
      let k = kept.0 in
      let linked = chain-of given (faultless-of claim verdict.WithinBound h tt) in
      let some = some-workers (workers_in claim) k kept.1 given.workers in (
        k,
        record {
          workers = kept.1;
          bound = kept.2;
          twice = bound_is_within_twice (before_of claim) (work_of_claim claim) k start chain linked kept.2;
          ratio = bound_is_within_ratio (before_of claim) (work_of_claim claim) k start chain some linked kept.2;
        },
      )

  pub promises : IsTree claim.instance.tree → IsGiven claim.plan → (v : Verdict) → IsVerdict claim v → Promises claim v
  promises tree given v h = record {
    obeys = λ a. obeys (faultless-of claim v h a);
    apart = λ a. apart (faultless-of claim v h a);
    serves = λ a. serves (faultless-of claim v h a);
    worker_plan = λ a. worker-plan (faultless-of claim v h a);
    one_at_a_time = λ a. one-at-a-time (faultless-of claim v h a);
    chain = λ a. chain-of given (faultless-of claim v h a);
    shortest = λ e.
        let short = subst (IsVerdict claim) e h in
        shortest-in (version_of claim) (none-below claim is earlier given tree) (chain-of given (faultless-of claim verdict.Shortest short tt)) short.found;
    tight = λ e.
        let reach = subst (IsVerdict claim) e h in
        tight given (faultless-of claim verdict.Tight reach tt) reach.found;
    bound = λ e. bound given (subst (IsVerdict claim) e h);
  }
