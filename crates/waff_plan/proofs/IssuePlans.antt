-- There is one plan that is least in the order of a service key.
use Rattle.std.proofs.Common.{◌≡◌, ℕ, zero, suc, ◌+◌, ◌<◌, ◌≤◌, ◌⊎◌, inl, inr, List, arith, sym, ◌∙◌, subst}
use Rattle.std.proofs.lemmas.Bool.{cases_lt, cases_eq}
use Rattle.waff_model.specs.Tree.{Node}
use Rattle.waff_plan.specs.Work.{Work, IsNumber}
use Rattle.waff_plan.specs.Obeys.{IsLeast, IsLinked, AwaitsEarlier, StartsIssued}
use Rattle.waff_plan.specs.Order.{ComesBefore, IsServiceKey, Key, Serves}
use Rattle.waff_plan.specs.Unique.{AreSame}
use Rattle.waff_plan.proofs.Holding.{floor-le-issue, held_until, holds-same}
use Rattle.waff_plan.proofs.Chains.{least_is_earliest}
use Rattle.waff_plan.proofs.Orders.{follower_first, served_linked, serves_forward}
use Rattle.waff_assign.specs.Held.{Held}

-- message i is issued before a message with this number that is issued at the tick t
abbrev IsDue : (ℕ → ℕ) → ℕ → ℕ → ℕ → Type 0
IsDue key t k i = (key i < t) ⊎ ((key i ≡ t) × (i < k))

due_on : (key : ℕ → ℕ) (t k i m : ℕ) → ComesBefore key i m → IsDue key t k m → IsDue key t k i
due_on key t k i m (inl sooner) (inl early) = inl (omega (arith, sooner, early))
due_on key t k i m (inl sooner) (inr now) = inl (omega (arith, sooner, now.0))
due_on key t k i m (inr same) (inl early) = inl (omega (arith, same.0, early))
due_on key t k i m (inr same) (inr now) = inr (omega (arith, same.0, now.0), omega (arith, same.1, now.1))

due_at : (key : ℕ → ℕ) (t k i : ℕ) → ComesBefore key i k → key k ≡ t → IsDue key t k i
due_at key t k i (inl sooner) now = inl (omega (arith, sooner, now))
due_at key t k i (inr same) now = inr (omega (arith, same.0, now), same.1)

-- two plans start alike what is due in the one or the other
abbrev AgreeBefore : Work → Key → (ℕ → ℕ) → (ℕ → ℕ) → ℕ → ℕ → Type 0
AgreeBefore work key start other t k = (i : ℕ) → IsNumber work i → IsDue (key start) t k i ⊎ IsDue (key other) t k i → start i ≡ other i

turned : (work : Work) (key : Key) (start other : ℕ → ℕ) (t k : ℕ) → AgreeBefore work key start other t k → AgreeBefore work key other start t k
turned work key start other t k agree i number due = sym (agree i number (elim due [ inl a ↦ inr a | inr b ↦ inl b ]))

module _ (tree : List Node) (assigned : List Held) (work : Work) (key : Key) (follows : AwaitsEarlier work) (service : IsServiceKey work key) where
  -- what is due in one of the plans, or is the next message there, is issued at one tick in both
  due_issue : (start other : ℕ → ℕ) → StartsIssued work start → (t k : ℕ) → AgreeBefore work key start other t k
      → (m : ℕ) → ((i : ℕ) → ComesBefore (key start) i m → IsDue (key start) t k i) → key start m ≡ key other m
  due_issue start other issued t k agree m due = service.kept start other m (λ f follow.
      let earlier = follows f m follow in
      agree f (record { from = earlier.from; to = omega (arith, earlier.earlier, earlier.to) }) (inl (due f (follower_first tree assigned work start (key start) issued follows (service.rises start) f m follow))))

  -- the next message starts no later in a least plan than in another that agrees up to it
  next-le : (start other : ℕ → ℕ) → IsLeast (Serves tree assigned work (key start)) work start → IsLeast (Serves tree assigned work (key other)) work other → (t k : ℕ)
      → AgreeBefore work key start other t k → IsNumber work k → key start k ≡ t → start k ≤ other k
  next-le start other least other_least t k agree number now =
      let before = Serves tree assigned work (key start) in
      let other_before = Serves tree assigned work (key other) in
      let forward = serves_forward tree assigned work start (key start) least.obeys.issued follows (service.rises start) in
      let now_other : key start k ≡ key other k
      = due_issue start other least.obeys.issued t k agree k (λ i issued. due_at (key start) t k i issued now) in
      least_is_earliest before work start forward least k number (other k)
      (omega (arith, floor-le-issue other_before work other k, other_least.obeys.issued k number))
      (λ i linked.
      let first = forward.first i k linked in
      let issued = served_linked tree assigned work start (key start) least.obeys.issued follows (service.rises start) i k linked in
      let due = due_at (key start) t k i issued now in
      let same : start i ≡ other i = agree i first (inl due) in
      let same_i : key start i ≡ key other i
      = due_issue start other least.obeys.issued t k agree i (λ j sooner. due_on (key start) t k j i sooner due) in
      let there : IsLinked other_before work i k = elim linked [
        | inl served ↦ inl (record {
          first = served.first;
          second = served.second;
          precedes = issued_again i same_i now_other issued;
          excludes = served.excludes;
        })
        | inr follow ↦ inr follow
      ] in
      omega (arith, holds-same work start other i k same, held_until other_before work other other_least.obeys i k number there))
    where
      issued_again : (i : ℕ) → key start i ≡ key other i → key start k ≡ key other k
          → ComesBefore (key start) i k → ComesBefore (key other) i k
      issued_again i same_i same_k (inl sooner) = inl (omega (arith, same_i, same_k, sooner))
      issued_again i same_i same_k (inr same) = inr (omega (arith, same_i, same_k, same.0), same.1)

  module _ (start other : ℕ → ℕ) (least : IsLeast (Serves tree assigned work (key start)) work start) (other_least : IsLeast (Serves tree assigned work (key other)) work other) where
    next_same : (t k : ℕ) → AgreeBefore work key start other t k → IsNumber work k → key start k ≡ t → start k ≡ other k
    next_same t k agree number now =
        let same : key start k ≡ key other k
        = due_issue start other least.obeys.issued t k agree k (λ i issued. due_at (key start) t k i issued now) in
        omega (
          arith,
          next-le start other least other_least t k agree number now,
          next-le other start other_least least t k (turned work key start other t k agree) number (sym same ∙ now),
        )

    next_same_there : (t k : ℕ) → AgreeBefore work key start other t k → IsNumber work k → key other k ≡ t → start k ≡ other k
    next_same_there t k agree number now =
        let same : key other k ≡ key start k
        = due_issue other start other_least.obeys.issued t k (turned work key start other t k agree) k (λ i issued. due_at (key other) t k i issued now) in
        next_same t k agree number (sym same ∙ now)

    agree_more : (t k : ℕ) → AgreeBefore work key start other t k → AgreeBefore work key start other t (suc k)
    agree_more t k agree i number due = elim (cases_eq i k) [
      | inl here ↦ elim due [
        | inl (inl early) ↦ agree i number (inl (inl early))
        | inl (inr now) ↦ subst (λ x. IsNumber work x → key start x ≡ t → start x ≡ other x) (sym here) (next_same t k agree) number now.0
        | inr (inl early) ↦ agree i number (inr (inl early))
        | inr (inr now) ↦ subst (λ x. IsNumber work x → key other x ≡ t → start x ≡ other x) (sym here) (next_same_there t k agree) number now.0
      ]
      | inr there ↦ agree i number (elim due [
        | inl (inl early) ↦ inl (inl early)
        | inl (inr now) ↦ inl (inr (now.0, omega (arith, now.1, there)))
        | inr (inl early) ↦ inr (inl early)
        | inr (inr now) ↦ inr (inr (now.0, omega (arith, now.1, there)))
      ])
    ]

    agree_at : (t : ℕ) → AgreeBefore work key start other t 0 → (k : ℕ) → AgreeBefore work key start other t k
    agree_at t agree zero = agree
    agree_at t agree (suc k) = agree_more t k (agree_at t agree k)

    agree_before : (t : ℕ) → AgreeBefore work key start other t 0
    agree_before zero i number due = elim due [
      | inl (inl early) ↦ absurd (omega (arith, early))
      | inl (inr now) ↦ absurd (omega (arith, now.1))
      | inr (inl early) ↦ absurd (omega (arith, early))
      | inr (inr now) ↦ absurd (omega (arith, now.1))
    ]
    agree_before (suc t) i number due =
        let all = agree_at t (agree_before t) (work.count + 1) in
        all i number (elim due [
          | inl (inl early) ↦ inl (by_then start i number early)
          | inl (inr now) ↦ absurd (omega (arith, now.1))
          | inr (inl early) ↦ inr (by_then other i number early)
          | inr (inr now) ↦ absurd (omega (arith, now.1))
        ])
      where
        by_then : (plan : ℕ → ℕ) (i : ℕ) → IsNumber work i → key plan i < suc t → IsDue (key plan) t (work.count + 1) i
        by_then plan i number early = elim (cases_lt (key plan i) t) [
          | inl sooner ↦ inl sooner
          | inr now ↦ inr (omega (arith, early, now), omega (arith, number.to))
        ]

    -- two such plans start each message at the same tick
    pub least_by_key_is_one : AreSame work start other
    least_by_key_is_one m number = agree_before (key start m + 1) m number (inl (inl (omega arith)))
