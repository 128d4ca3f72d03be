-- Of the first n messages that have something the first by a key.
use Rattle.std.proofs.Common.{◌≡◌, ℕ, zero, suc, ◌⊎◌, inl, inr, sym, subst, arith}
use Rattle.std.proofs.lemmas.Bool.{cases_eq}
use Rattle.waff_plan.specs.Order.{ComesBefore}
use Rattle.waff_plan.specs.Work.{IsAmongFirst}
use Rattle.waff_plan.proofs.Places.{keyed_on, one_is_keyed_first}

-- message m has it, and is the first of the first n that have
pub record IsFirstOf (has : ℕ → Type 0) (key : ℕ → ℕ) (n m : ℕ) : Type 0 where
  pub number : IsAmongFirst n m
  pub here : has m
  pub first : (i : ℕ) → IsAmongFirst n i → has i → (m ≡ i) ⊎ ComesBefore key m i

-- none of the first n has it
abbrev pub HasNone : (ℕ → Type 0) → ℕ → Type 0
HasNone has n = (i : ℕ) → IsAmongFirst n i → has i → ⊥

last_or_earlier : (n i : ℕ) → IsAmongFirst (suc n) i → (i ≡ suc n) ⊎ IsAmongFirst n i
last_or_earlier n i number = elim (cases_eq i (suc n)) [
  | inl last ↦ inl last
  | inr other ↦ inr (record { from = number.from; to = omega (arith, number.to, other) })
]

module _ (has : ℕ → Type 0) (key : ℕ → ℕ) where
  -- one message more, which comes later where it has it
  kept : (n m : ℕ) → (has (suc n) → ComesBefore key m (suc n)) → IsFirstOf has key n m → IsFirstOf has key (suc n) m
  kept n m later is = record {
    number = record { from = is.number.from; to = omega (arith, is.number.to) };
    here = is.here;
    first = λ i number there. elim (last_or_earlier n i number) [
      | inl last ↦ inr (subst (ComesBefore key m) (sym last) (later (subst has last there)))
      | inr earlier ↦ is.first i earlier there
    ];
  }

  -- one message more, which has it and comes before all others that have
  taken : (n : ℕ) → has (suc n) → ((i : ℕ) → IsAmongFirst n i → has i → ComesBefore key (suc n) i) → IsFirstOf has key (suc n) (suc n)
  taken n here before = record {
    number = record { from = omega arith; to = omega arith };
    here = here;
    first = λ i number there. elim (last_or_earlier n i number) [
      | inl last ↦ inl (sym last)
      | inr earlier ↦ inr (before i earlier there)
    ];
  }

  none_more : (n : ℕ) → (has (suc n) → ⊥) → HasNone has n → HasNone has (suc n)
  none_more n not none i number there = elim (last_or_earlier n i number) [
    | inl last ↦ not (subst has last there)
    | inr earlier ↦ none i earlier there
  ]

  -- the earlier of the first so far and of one more
  one_of_two : (n m : ℕ) → has (suc n) → IsFirstOf has key n m → (k : ℕ) × IsFirstOf has key (suc n) k
  one_of_two n m here is = elim (one_is_keyed_first key (suc n) m) [
    | inl same ↦ absurd (omega (arith, is.number.to, same))
    | inr (inl sooner) ↦ (
      suc n,
      taken n here (λ i earlier there. elim (is.first i earlier there) [
        | inl same ↦ subst (ComesBefore key (suc n)) same sooner
        | inr before ↦ keyed_on key (suc n) m i sooner before
      ]),
    )
    | inr (inr later) ↦ (m, kept n m (λ _. later) is)
  ]

  -- where it can be told of each message, none of the first n has it, or there is the first
  pub none_or_first : ((m : ℕ) → has m ⊎ (has m → ⊥)) → (n : ℕ) → HasNone has n ⊎ ((m : ℕ) × IsFirstOf has key n m)
  none_or_first tell zero = inl (λ i number there. omega (arith, number.from, number.to))
  none_or_first tell (suc n) = elim (tell (suc n)) [
    | inr not ↦ elim (none_or_first tell n) [
      | inl none ↦ inl (none_more n not none)
      | inr found ↦ inr (found.0, kept n found.0 (λ here. absurd (not here)) found.1)
    ]
    | inl here ↦ elim (none_or_first tell n) [
      | inl none ↦ inr (suc n, taken n here (λ i earlier there. absurd (none i earlier there)))
      | inr found ↦ inr (one_of_two n found.0 here found.1)
    ]
  ]
