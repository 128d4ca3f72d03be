-- Work in which no message awaits another: a message is held back by those before it alone.
use Rattle.std.proofs.Common.{◌≡◌, ℕ, ◌≤◌, List, [], ◌∷◌, inl, inr, arith, refl, ap}
use Rattle.waff_assign.specs.Order.{Relation}
use Rattle.waff_plan.specs.Work.{Work, IsNumber, finish_of, issue_after, issue_of, gap_after, gap_of, holds_until}
use Rattle.waff_plan.specs.Obeys.{IsLinked, AwaitsNone, AwaitsEarlier, KeepsOrder, Obeys}
use Rattle.waff_plan.specs.Chain.{gaps_after, chain_release}
use Rattle.waff_plan.proofs.FollowLemmas.{none_awaited}

module _ (work : Work) (none : AwaitsNone work) where
  -- each awaits only earlier ones
  pub none_follows_earlier : AwaitsEarlier work
  none_follows_earlier i m awaited = absurd (none_awaited (work.awaits m) i (none m) awaited)

  -- a message that holds back another is before it
  pub linked_before : (before : Relation) (i m : ℕ) → IsLinked before work i m → before i m
  linked_before before i m (inl pair) = pair
  linked_before before i m (inr awaited) = absurd (none_awaited (work.awaits m) i (none m) awaited)

  -- there are no gaps
  pub gap_is_none : (i m : ℕ) → gap_of work i m ≡ 0
  gap_is_none i m = ap (gap_after i) (none m)

  -- a message holds back others until it has finished
  pub holds_is_finish : (start : ℕ → ℕ) (i m : ℕ) → holds_until work start m i ≡ finish_of work start i
  holds_is_finish start i m = omega (arith, gap_is_none i m)

  -- a message is issued at its release
  pub issue_is_floor : (start : ℕ → ℕ) (m : ℕ) → issue_of work start m ≡ work.floor m
  issue_is_floor start m =
      ap (issue_after (finish_of work start) (work.floor m)) (none m)

  -- the release of a chain is that of its first message
  pub gaps_are_none : (m : ℕ) (rest : List ℕ) → gaps_after work m rest ≡ 0
  gaps_are_none m [] = refl
  gaps_are_none m (next ∷ rest) = omega (arith, gap_is_none m next, gaps_are_none next rest)

  pub chain_release_is_first : (m : ℕ) (rest : List ℕ) → chain_release work (m ∷ rest) ≡ work.floor m
  chain_release_is_first m rest = omega (arith, gaps_are_none m rest)

  -- a plan obeys where each message starts no earlier than its release, and in order
  pub obeys_released : (before : Relation) (start : ℕ → ℕ) → ((m : ℕ) → IsNumber work m → work.floor m ≤ start m) → KeepsOrder before work start
      → Obeys before work start
  obeys_released before start released ordered = record {
    issued = λ m number. omega (arith, issue_is_floor start m, released m number);
    ordered = ordered;
  }
