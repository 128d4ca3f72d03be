-- The least plan is the one in which each message starts as soon as it may.
use Rattle.std.proofs.Common.{ℕ, zero, suc, ◌≤◌, inl, inr, arith}
use Rattle.waff_assign.specs.Order.{Relation}
use Rattle.waff_plan.specs.Work.{Work, IsNumber, finish_of}
use Rattle.waff_plan.specs.Obeys.{IsLinked, IsForward, Obeys, IsLeast}
use Rattle.waff_plan.specs.AtOnce.{AllStartAtOnce}
use Rattle.waff_plan.proofs.Holding.{floor-le-issue, held-le, issue_sooner}
use Rattle.waff_plan.proofs.Chains.{least_is_earliest}

module _ (before : Relation) (work : Work) (start : ℕ → ℕ) (forward : IsForward before work) where
  module _ (all : AllStartAtOnce before work start) (other : ℕ → ℕ) (obeys : Obeys before work other) where
    -- of the first places no message starts later than in another plan
    no_later : (n m : ℕ) → IsNumber work m → forward.place m ≤ n → start m ≤ other m
    no_later zero m number place = absurd (omega (arith, forward.from m number, place))
    no_later (suc n) m number place =
        let sooner = λ (i : ℕ) (linked : IsLinked before work i m).
        let first = forward.first i m linked in
        let less : finish_of work start i ≤ finish_of work other i = omega (arith, no_later n i first (omega (arith, forward.earlier i m linked, place))) in less in
        (all m number).greatest (other m)
        (omega (
          arith,
          issue_sooner (finish_of work start) (finish_of work other) (work.floor m) (work.awaits m) (λ i awaited. sooner i (inr awaited)),
          obeys.issued m number,
        ))
        (λ i pair. omega (arith, sooner i (inl pair), obeys.ordered i m pair))

  pub least_from_at_once : AllStartAtOnce before work start → IsLeast before work start
  least_from_at_once all = record {
    obeys = record {
      issued = λ m number. (all m number).issued;
      ordered = λ i m pair. (all m (forward.second i m (inl pair))).finished i pair;
    };
    least = λ other obeys m number. no_later all other obeys (forward.place m) m number (omega arith);
  }

  pub at_once_from_least : IsLeast before work start → AllStartAtOnce before work start
  at_once_from_least least m number = record {
    issued = least.obeys.issued m number;
    finished = λ i pair. least.obeys.ordered i m pair;
    greatest = λ tick issued finished.
        least_is_earliest before work start forward least m number tick (omega (arith, floor-le-issue before work start m, issued))
        (λ i linked. held-le before work start i m tick issued (finished i) linked);
  }
