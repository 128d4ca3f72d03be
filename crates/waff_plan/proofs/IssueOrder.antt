-- The order of issue: it is total, a client's messages rise in it, and what it serves goes forward.
use Rattle.std.proofs.Common.{◌≡◌, ℕ, ◌<◌, ◌≤◌, ◌⊎◌, inl, inr, List, [], arith, ap}
use Rattle.std.proofs.lemmas.Bool.{cases_lt, cases_order}
use Rattle.waff_model.specs.Tree.{Node}
use Rattle.waff_plan.specs.Work.{Work, IsAwaited, IsNumber, issue_of}
use Rattle.waff_plan.specs.Obeys.{IsForward, AwaitsEarlier}
use Rattle.waff_plan.specs.Issues.{IsIssuedBefore, IsServedBefore}
use Rattle.waff_plan.specs.IssueLaws.{IssueIsArrival}
use Rattle.waff_model.specs.declared.message.Version.TheVariants.{V3}
use Rattle.waff_plan.proofs.NoClients.{issue_is_floor}
use Rattle.waff_plan.proofs.Places.{keyed_not_itself, keyed_on, one_is_keyed_first}
use Rattle.waff_plan.proofs.Orders.{follower_first, serves_forward, service_key}
use Rattle.waff_assign.specs.Held.{Held}

-- the order of issue is total
pub issued_not_itself : (work : Work) (start : ℕ → ℕ) (i : ℕ) → IsIssuedBefore work start i i → ⊥
issued_not_itself work start = keyed_not_itself (issue_of work start)

pub issued_on : (work : Work) (start : ℕ → ℕ) (i j k : ℕ) → IsIssuedBefore work start i j → IsIssuedBefore work start j k → IsIssuedBefore work start i k
issued_on work start = keyed_on (issue_of work start)

pub one_is_issued_first : (work : Work) (start : ℕ → ℕ) (i j : ℕ) → (i ≡ j) ⊎ (IsIssuedBefore work start i j ⊎ IsIssuedBefore work start j i)
one_is_issued_first work start = one_is_keyed_first (issue_of work start)

module _ (work : Work) (start : ℕ → ℕ) (issued : (m : ℕ) → IsNumber work m → issue_of work start m ≤ start m) (follows : AwaitsEarlier work) where
  -- along what is awaited issue rises: a message is issued before those that await it
  pub issue_rises : (i m : ℕ) → IsAwaited (work.awaits m) i → IsIssuedBefore work start i m
  issue_rises = follower_first [] [] work start (issue_of work start) issued follows ((service_key V3 work follows).rises start)

  -- what is served in the order of issue goes forward in that order
  pub IsServedBefore_forward : (tree : List Node) (assigned : List Held) → IsForward (IsServedBefore tree assigned work start) work
  IsServedBefore_forward tree assigned =
      serves_forward tree assigned work start (issue_of work start) issued follows ((service_key V3 work follows).rises start)

-- without clients, where releases do not fall, what is served in the order of issue is served in that of the trace
pub issue_is_arrival : (tree : List Node) (assigned : List Held) (work : Work) (start : ℕ → ℕ) → IssueIsArrival tree assigned work start
issue_is_arrival tree assigned work start same none rise i j = (
  λ served. record {
    from = served.first.from;
    earlier = lower served.precedes;
    to = omega (arith, served.second.to, same);
    excludes = served.excludes;
  },
  λ ordered. record {
    first = record { from = ordered.from; to = omega (arith, ordered.earlier, ordered.to, same) };
    second = record { from = omega (arith, ordered.from, ordered.earlier); to = omega (arith, ordered.to, same) };
    precedes = elim (cases_lt (issue_of work start i) (issue_of work start j)) [
      | inl sooner ↦ inl sooner
      | inr no_sooner ↦ inr (omega (arith, at i, at j, no_sooner, rise i j ordered.earlier), ordered.earlier)
    ];
    excludes = ordered.excludes;
  },
)
  where
    at : (m : ℕ) → issue_of work start m ≡ work.floor m
    at m = issue_is_floor work none start m

    lower : IsIssuedBefore work start i j → i < j
    lower (inl sooner) = elim (cases_order i j) [
      | inl one ↦ absurd (omega (arith, sooner, ap (issue_of work start) one))
      | inr (inl less) ↦ less
      | inr (inr more) ↦ absurd (omega (arith, sooner, at i, at j, rise j i more))
    ]
    lower (inr issued) = issued.1
