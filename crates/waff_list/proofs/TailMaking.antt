-- The tails of messages while they are made, from the last message to the first. A message that has not had its turn holds the greatest
-- tail of those that it holds back, of the ones that have, each with the gap between them.
use Rattle.std.proofs.Common.{◌≡◌, ◌≢◌, ℕ, ◌+◌, ◌-◌, ◌*◌, ◌^◌, ◌<◌, ◌≤◌, ◌⊎◌, inl, inr, max, List, [], ◌∷◌, ◌++◌, length, get_or, set, take, Contains, arith, refl, sym, ◌∙◌, subst, get_or-set_same, get_or-set_other}
use Rattle.std.proofs.lemmas.Bool.{cases_eq, cases_lt, cases_order}
use Rattle.std.proofs.lemmas.List.{length-set, take_more}
use Rattle.std.proofs.lemmas.List.Elements.{Contains-append_left, Contains-push, Contains-push_cases}
use Rattle.waff_model.specs.Numbers.{IsAmongFirst}
use Rattle.waff_assign.specs.Order.{Relation}
use Rattle.waff_plan.specs.Work.{Await, Work, IsAwaited, IsNumber, gap_after, gap_of}
use Rattle.waff_plan.specs.Obeys.{AwaitsEarlier, IsEarlier}
use Rattle.waff_plan.proofs.Holding.{gap_other, gap_same}
use Rattle.waff_list.specs.ByIssue.{AreClientTails}
use Rattle.waff_list.specs.Tails.{tail_of, IsBeforeNone, AreTails, AreRaised}

module _ (before : Relation) (work : Work) (gap : ℕ → ℕ → ℕ) where
  -- what hangs on a message behind its cost, where this later one does
  abbrev behind : (ℕ → ℕ) → ℕ → ℕ → ℕ
  behind tail m later = gap m later + tail later

  -- the tail of message m is its cost, and the greatest of what hangs on it
  abbrev IsTail : (ℕ → ℕ) → ℕ → Type 0
  IsTail tail m = (IsBeforeNone before m × (tail m ≡ work.cost m)) ⊎ ((later : ℕ) × before m later × (tail m ≡ work.cost m + behind tail m later))

  -- the messages after message n have had their turns
  pub record AreTailsAfter (tail : ℕ → ℕ) (n : ℕ) : Type 0 where
    pub each : (m later : ℕ) → before m later → n < m → work.cost m + behind tail m later ≤ tail m
    pub one : (m : ℕ) → IsNumber work m → n < m → IsTail tail m
    pub best : (m later : ℕ) → before m later → m ≤ n → n < later → behind tail m later ≤ tail m
    pub best_one : (m : ℕ) → IsNumber work m → m ≤ n → (((later : ℕ) → before m later → later ≤ n) × (tail m ≡ 0))
        ⊎ ((later : ℕ) × before m later × (n < later) × (tail m ≡ behind tail m later))
    pub small : (m : ℕ) → IsNumber work m → tail m ≤ (work.count - n) * 2 ^ 33

  -- message n has had its turn
  pub record TakesTurn (old new : ℕ → ℕ) (n : ℕ) : Type 0 where
    pub here : new n ≡ old n + work.cost n
    pub later : (m : ℕ) → n < m → new m ≡ old m
    pub each : (m : ℕ) → before m n → behind new m n ≤ new m
    pub kept : (m : ℕ) → 1 ≤ m → m < n → old m ≤ new m
    pub one : (m : ℕ) → 1 ≤ m → m < n → (new m ≡ old m) ⊎ (before m n × (new m ≡ behind new m n))

module _ (before : Relation) (work : Work) (gap : ℕ → ℕ → ℕ) (forward : (i j : ℕ) → before i j → IsEarlier work i j) where
  -- no message has had its turn
  pub tails_none : (tail : ℕ → ℕ) → ((m : ℕ) → tail m ≡ 0) → AreTailsAfter before work gap tail work.count
  tails_none tail none = record {
    each = λ m later pair after. absurd (omega (arith, after, (forward m later pair).earlier, (forward m later pair).to));
    one = λ m number after. absurd (omega (arith, after, number.to));
    best = λ m later pair to after. absurd (omega (arith, after, (forward m later pair).to));
    best_one = λ m number to. inl ((λ later pair. (forward m later pair).to), none m);
    small = λ m number. omega (arith, none m);
  }

  module _ (old new : ℕ → ℕ) (n : ℕ) (number : IsNumber work n) (some : 1 ≤ work.cost n) (little : work.cost n < 2 ^ 32) (short : (i : ℕ) → gap i n < 2 ^ 32)
      (h : AreTailsAfter before work gap old n) (turn : TakesTurn before work gap old new n) where
    from : 1 ≤ n
    from = number.from

    to : n ≤ work.count
    to = number.to

    each_more : (m later : ℕ) → before m later → n - 1 < m → work.cost m + behind before work gap new m later ≤ new m
    each_more m later pair after =
        let earlier = (forward m later pair).earlier in
        let kept = turn.later later (omega (arith, after, earlier)) in
        elim (cases_eq m n) [
          | inl here ↦
              let is : new m ≡ old m + work.cost m = rw here turn.here in
              omega (arith, kept, is, h.best m later pair (omega (arith, here)) (omega (arith, here, earlier)))
          | inr other ↦
              let past : n < m = omega (arith, after, other) in
              omega (arith, kept, turn.later m past, h.each m later pair past)
        ]

    one_here : IsTail before work gap new n
    one_here = elim (h.best_one n number (omega arith)) [
      | inl (none, zero) ↦ inl ((λ later pair. absurd (omega (arith, (forward n later pair).earlier, none later pair))), omega (arith, zero, turn.here))
      | inr (later, pair, after, was) ↦ inr (later, pair, omega (arith, was, turn.here, turn.later later after))
    ]

    one_after : (m : ℕ) → IsNumber work m → n < m
        → IsTail before work gap new m
    one_after m m_number after = elim (h.one m m_number after) [
      | inl (none, was) ↦ inl (none, turn.later m after ∙ was)
      | inr (later, pair, was) ↦ inr (later, pair, omega (arith, was, turn.later m after, turn.later later (omega (arith, after, (forward m later pair).earlier))))
    ]

    one_more : (m : ℕ) → IsNumber work m → n - 1 < m
        → IsTail before work gap new m
    one_more m m_number after = elim (cases_eq m n) [
      | inl here ↦ subst (IsTail before work gap new) (sym here) one_here
      | inr other ↦ one_after m m_number (omega arith)
    ]

    best_more : (m later : ℕ) → before m later → m ≤ n - 1 → n - 1 < later → behind before work gap new m later ≤ new m
    best_more m later pair early after = elim (cases_eq later n) [
      | inl here ↦ subst (λ x. behind before work gap new m x ≤ new m) (sym here) (turn.each m (subst (λ x. before m x) here pair))
      | inr other ↦
          let past : n < later = omega (arith, after, other) in
          omega (arith, turn.later later past, h.best m later pair (omega (arith, early)) past, turn.kept m ((forward m later pair).from) (omega (arith, early)))
    ]

    best_one_more : (m : ℕ) → IsNumber work m → m ≤ n - 1
        → (((later : ℕ) → before m later → later ≤ n - 1) × (new m ≡ 0)) ⊎ ((later : ℕ) × before m later × (n - 1 < later) × (new m ≡ behind before work gap new m later))
    best_one_more m m_number early = elim (turn.one m m_number.from (omega arith)) [
      | inl kept ↦ elim (h.best_one m m_number (omega arith)) [
        | inl (none, zero) ↦ inl (
          (λ later pair. elim (cases_eq later n) [
            | inl here ↦ absurd (omega (arith, zero, kept, some, turn.here, turn.each m (subst (λ x. before m x) here pair)))
            | inr other ↦ omega (arith, other, none later pair)
          ]),
          omega arith,
        )
        | inr (later, pair, after, was) ↦ inr (later, pair, omega arith, omega (arith, kept, was, turn.later later after))
      ]
      | inr (pair, is) ↦ inr (n, pair, omega arith, is)
    ]

    small_more : (m : ℕ) → IsNumber work m → new m ≤ (work.count - (n - 1)) * 2 ^ 33
    small_more m m_number =
        let was = h.small m m_number in
        let most : (work.count - (n - 1)) * 2 ^ 33 ≡ (work.count - n) * 2 ^ 33 + 2 ^ 33 = omega arith in
        let here : new n ≤ (work.count - (n - 1)) * 2 ^ 33 = omega (arith, h.small n number, turn.here) in
        elim (cases_order m n) [
          | inl same ↦ rw same here
          | inr (inl early) ↦ elim (turn.one m m_number.from early) [ inl kept ↦ omega (arith, was, kept) | inr (_, is) ↦ omega (arith, is, h.small n number, turn.here, short m) ]
          | inr (inr after) ↦ omega (arith, was, turn.later m after)
        ]

    pub tails_more : AreTailsAfter before work gap new (n - 1)
    tails_more = record { each = each_more; one = one_more; best = best_more; best_one = best_one_more; small = small_more }

-- no message is raised
pub raised_none : (old : List ℕ) (IsHeld : ℕ → Type 0) (gap : ℕ → ℕ) (tail : ℕ) → ((m : ℕ) → IsHeld m → ⊥) → AreRaised old IsHeld gap tail old
raised_none old IsHeld gap tail none = record {
  count = refl;
  each = λ m held. absurd (none m held);
  kept = λ m. omega arith;
  one = λ m from. inl refl;
}

-- they are the same messages, with the same gaps
pub raised_same : (old new : List ℕ) (IsHeld IsOther : ℕ → Type 0) (gap other : ℕ → ℕ) (tail : ℕ) → ((m : ℕ) → IsHeld m → IsOther m)
    → ((m : ℕ) → IsOther m → IsHeld m) → ((m : ℕ) → other m ≡ gap m) → AreRaised old IsHeld gap tail new → AreRaised old IsOther other tail new
raised_same old new IsHeld IsOther gap other tail into back same h = record {
  count = h.count;
  each = λ m held. omega (arith, h.each m (back m held), same m);
  kept = h.kept;
  one = λ m from. elim (h.one m from) [
    | inl kept ↦ inl kept
    | inr (held, is) ↦ inr (into m held, omega (arith, is, same m))
  ];
}

-- the tail of one message more has been raised, which may have been before by another gap
module _ (old new : List ℕ) (IsHeld IsMore : ℕ → Type 0) (gap wider : ℕ → ℕ) (tail x least most : ℕ) (number : IsAmongFirst (length new) x)
    (into : (m : ℕ) → IsHeld m → IsMore m) (back : (m : ℕ) → IsMore m → IsHeld m ⊎ (m ≡ x)) (held : IsMore x)
    (same : (m : ℕ) → m ≢ x → wider m ≡ gap m) (widest : wider x ≡ max (gap x) least) (known : IsHeld x ⊎ (gap x ≤ least))
    (is : most ≡ least + tail) (h : AreRaised old IsHeld gap tail new) where
  abbrev after : List ℕ
  after = set new (x - 1) (max (tail_of new x) most)

  here : tail_of after x ≡ max (tail_of new x) most
  here = get_or-set_same new (x - 1) (max (tail_of new x) most) 0 (omega (arith, number.from, number.to))

  there : (m : ℕ) → m - 1 ≢ x - 1 → tail_of after m ≡ tail_of new m
  there m other = get_or-set_other new (x - 1) (m - 1) (max (tail_of new x) most) 0 other

  rises : (m : ℕ) → tail_of new m ≤ tail_of after m
  rises m = elim (cases_eq (m - 1) (x - 1)) [
    | inl same_place ↦ subst (λ i. get_or new i 0 ≤ get_or after i 0) (sym same_place) (omega (arith, here))
    | inr other ↦ omega (arith, there m other)
  ]

  each_here : wider x + tail ≤ tail_of after x
  each_here = elim known [
    | inl was ↦ omega (arith, h.each x was, here, widest, is)
    | inr less ↦ omega (arith, less, here, widest, is)
  ]

  each : (m : ℕ) → IsMore m → wider m + tail ≤ tail_of after m
  each m more = elim (cases_eq m x) [
    | inl is_x ↦ subst (λ y. wider y + tail ≤ tail_of after y) (sym is_x) each_here
    | inr other ↦ elim (back m more) [
      | inl was ↦ omega (arith, h.each m was, rises m, same m other)
      | inr is_x ↦ absurd (other is_x)
    ]
  ]

  raised_here : (tail_of after x ≡ tail_of old x) ⊎ (IsMore x × (tail_of after x ≡ wider x + tail))
  raised_here = elim (cases_lt (tail_of new x) most) [
    | inl less ↦ elim known [
      | inl was ↦ inr (held, omega (arith, less, here, widest, is, h.each x was))
      | inr short ↦ inr (held, omega (arith, less, here, widest, is, short))
    ]
    | inr enough ↦ elim (h.one x number.from) [
      | inl kept ↦ inl (omega (arith, here, enough, kept))
      | inr (_, raised) ↦ inr (held, omega (arith, here, enough, raised, widest, is))
    ]
  ]

  one : (m : ℕ) → 1 ≤ m → (tail_of after m ≡ tail_of old m) ⊎ (IsMore m × (tail_of after m ≡ wider m + tail))
  one m from = elim (cases_eq m x) [
    | inl is_x ↦ subst (λ y. (tail_of after y ≡ tail_of old y) ⊎ (IsMore y × (tail_of after y ≡ wider y + tail))) (sym is_x) raised_here
    | inr other ↦
        let still = there m (omega (arith, from, number.from, other)) in
        elim (h.one m from) [
          | inl kept ↦ inl (still ∙ kept)
          | inr (was, raised) ↦ inr (into m was, omega (arith, still, raised, same m other))
        ]
  ]

  pub raised_more : AreRaised old IsMore wider tail (set new (x - 1) (max (tail_of new x) most))
  raised_more = record {
    count = length-set new (x - 1) (max (tail_of new x) most) ∙ h.count;
    each = each;
    kept = λ m. omega (arith, h.kept m, rises m);
    one = one;
  }

-- of messages that are listed one more
module _ (old new messages : List ℕ) (tail at : ℕ) (inside : at < length messages) (number : IsAmongFirst (length new) (get_or messages at 0))
    (h : AreRaised old (Contains (take at messages)) (λ m. 0) tail new) where
  abbrev next : ℕ
  next = get_or messages at 0

  more : take (at + 1) messages ≡ take at messages ++ next ∷ []
  more = take_more messages at 0 inside

  back : (m : ℕ) → Contains (take (at + 1) messages) m → Contains (take at messages) m ⊎ (m ≡ next)
  back m listed = elim (Contains-push_cases (take at messages) next m (subst (λ xs. Contains xs m) more listed)) [
    | inl was ↦ inl was
    | inr is ↦ inr (sym is)
  ]

  pub raised_listed : AreRaised old (Contains (take (at + 1) messages)) (λ m. 0) tail (set new (get_or messages at 0 - 1) (max (tail_of new (get_or messages at 0)) tail))
  raised_listed =
      raised_more old new (Contains (take at messages)) (Contains (take (at + 1) messages)) (λ m. 0) (λ m. 0) tail next 0 tail number
      (λ m was. subst (λ xs. Contains xs m) (sym more) (Contains-append_left (take at messages) (next ∷ []) m was))
      back (subst (λ xs. Contains xs next) (sym more) (Contains-push (take at messages) next))
      (λ m other. refl) (omega arith) (inr (omega arith)) (omega arith) h

-- a message that is not awaited is so with no gap
awaited_or_none : (awaits : List Await) (m : ℕ) → IsAwaited awaits m ⊎ (gap_after m awaits ≡ 0)
awaited_or_none [] m = inr refl
awaited_or_none (a ∷ rest) m = elim (cases_eq a.message m) [
  | inl same ↦ inl (inl same)
  | inr other ↦ elim (awaited_or_none rest m) [
    | inl awaited ↦ inl (inr awaited)
    | inr none ↦ inr (omega (arith, none, gap_other a m other))
  ]
]

-- of messages that are awaited one more, with its gap
pub raised_awaited : (old new : List ℕ) (a : Await) (rest : List Await) (tail most : ℕ) → IsAmongFirst (length new) a.message → most ≡ a.gap + tail
    → AreRaised old (IsAwaited rest) (λ m. gap_after m rest) tail new
    → AreRaised old (IsAwaited (a ∷ rest)) (λ m. gap_after m (a ∷ rest)) tail (set new (a.message - 1) (max (tail_of new a.message) most))
raised_awaited old new a rest tail most number is h =
    raised_more old new (IsAwaited rest) (IsAwaited (a ∷ rest)) (λ m. gap_after m rest) (λ m. gap_after m (a ∷ rest)) tail a.message a.gap most number
    (λ m was. inr was) back (inl refl) (λ m other. omega (arith, gap_other a m (λ same. other (sym same)))) (omega (arith, gap_same a a.message refl))
    (elim (awaited_or_none rest a.message) [ inl awaited ↦ inl awaited | inr none ↦ inr (omega (arith, none)) ]) is h
  where
    back : (m : ℕ) → IsAwaited (a ∷ rest) m → IsAwaited rest m ⊎ (m ≡ a.message)
    back m (inl same) = inr (sym same)
    back m (inr more) = inl more

-- a message that has its cost, and the messages that it holds back raised to what then hangs on it, has had its turn
module _ (before : Relation) (work : Work) (gap : ℕ → ℕ → ℕ) (forward : (i j : ℕ) → before i j → IsEarlier work i j)
    (old new : List ℕ) (n tail : ℕ) (number : IsAmongFirst (length old) n) (sum : tail ≡ tail_of old n + work.cost n)
    (h : AreRaised (set old (n - 1) tail) (λ m. before m n) (λ m. gap m n) tail new) where
  set_here : tail_of (set old (n - 1) tail) n ≡ tail
  set_here = get_or-set_same old (n - 1) tail 0 (omega (arith, number.from, number.to))

  set_other : (m : ℕ) → 1 ≤ m → m ≢ n → tail_of (set old (n - 1) tail) m ≡ tail_of old m
  set_other m m_from other = get_or-set_other old (n - 1) (m - 1) tail 0 (omega (arith, m_from, number.from, other))

  tail_is : tail_of new n ≡ tail
  tail_is = elim (h.one n number.from) [
    | inl kept ↦ kept ∙ set_here
    | inr (pair, _) ↦ absurd (omega (arith, (forward n n pair).earlier))
  ]

  is_later : (m : ℕ) → n < m → tail_of new m ≡ tail_of old m
  is_later m after = elim (h.one m (omega (arith, after))) [
    | inl kept ↦ kept ∙ set_other m (omega (arith, after)) (omega (arith, after))
    | inr (pair, _) ↦ absurd (omega (arith, after, (forward m n pair).earlier))
  ]

  pub takes_turn : TakesTurn before work gap (tail_of old) (tail_of new) n
  takes_turn = record {
    here = tail_is ∙ sum;
    later = is_later;
    each = λ m pair. omega (arith, h.each m pair, tail_is);
    kept = λ m m_from early. rw (set_other m m_from (omega (arith, early))) at (h.kept m);
    one = λ m m_from early. elim (h.one m m_from) [
      | inl kept ↦ inl (kept ∙ set_other m m_from (omega (arith, early)))
      | inr (pair, is) ↦ inr (pair, omega (arith, is, tail_is))
    ];
  }

-- all have had their turns: over needs, with no gaps
pub tails_over : (before : Relation) (work : Work) → ((i j : ℕ) → before i j → IsEarlier work i j)
    → (tail : ℕ → ℕ) → AreTailsAfter before work (λ i m. 0) tail 0 → AreTails before work tail
tails_over before work forward tail h = record {
  each = λ m later pair. omega (arith, h.each m later pair (omega (arith, (forward m later pair).from)));
  one = λ m number. elim (h.one m number (omega (arith, number.from))) [
    | inl none ↦ inl none
    | inr (later, pair, is) ↦ inr (later, pair, omega (arith, is))
  ];
}

-- and of what messages await
pub tails_of_clients : (work : Work) → AwaitsEarlier work → (tail : ℕ → ℕ) → AreTailsAfter (λ i m. IsAwaited (work.awaits m) i) work (gap_of work) tail 0 → AreClientTails work tail
tails_of_clients work earlier tail h = record {
  each = λ m later number awaited. h.each m later awaited (omega (arith, (earlier m later awaited).from));
  one = λ m number. elim (h.one m number (omega (arith, number.from))) [
    | inl (none, is) ↦ inl ((λ later later_number awaited. none later awaited), is)
    | inr (later, awaited, is) ↦ let before = earlier m later awaited in inr (later, record { from = omega (arith, before.from, before.earlier); to = before.to }, awaited, is)
  ];
}
