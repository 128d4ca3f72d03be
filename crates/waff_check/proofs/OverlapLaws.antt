-- Overlaps by the place of their first message.
use Rattle.std.proofs.Common.{◌≡◌, ◌↔◌, ℕ, ◌+◌, ◌-◌, ◌<◌, ◌≤◌, Bool, false, true, IsTrue, Some, None, arith, subst, inl, inr}
use Rattle.std.proofs.lemmas.Bool.{cases_lt}
use Rattle.waff_assign.specs.Case.{pairs_of}
use Rattle.waff_assign.specs.Order.{Relation}
use Rattle.waff_plan.specs.Apart.{AreApart}
use Rattle.waff_plan.specs.Obeys.{IsAmong, KeepsOrder}
use Rattle.waff_plan.specs.Planned.{planned_starts, planned_work}
use Rattle.waff_plan.specs.Work.{Work, finish_of}
use Rattle.waff_plan.specs.declared.planned.Planned.{Planned}
use Rattle.waff_check.specs.Faults.{IsFirstPair, IsLeastOf, Overlaps, OverlapsWhere}
use Rattle.waff_check.specs.Searches.{AreAtOddsWhere, HasOverlap, IsFirstPlace, NoneAmong, planned_clients, planned_overlaps}

-- a pair that overlaps is one, and is at odds
pub overlap_parts : (clients : Bool) (before : Relation) (work : Work) (start : ℕ → ℕ) (i j : ℕ) → OverlapsWhere clients before work start i j
    → before i j × AreAtOddsWhere clients work start i j
overlap_parts false before work start i j h = (h.ordered, h.early)
overlap_parts true before work start i j h = (h.ordered, h.together)

pub overlap_from : (clients : Bool) (before : Relation) (work : Work) (start : ℕ → ℕ) (i j : ℕ) → before i j → AreAtOddsWhere clients work start i j
    → OverlapsWhere clients before work start i j
overlap_from false before work start i j pair early = record { ordered = pair; early = early }
overlap_from true before work start i j pair together = record { ordered = pair; together = together }

-- none of the first messages overlaps where they keep the order, or are apart
abbrev pub NoneOfFirst : Bool → Relation → Work → (ℕ → ℕ) → ℕ → Type 0
NoneOfFirst clients before work start count = (i j : ℕ) → i ≤ count → OverlapsWhere clients before work start i j → ⊥

none_late : (before : Relation) (work : Work) (start : ℕ → ℕ) (count : ℕ) → KeepsOrder (IsAmong count before) work start
    → (i j : ℕ) → i ≤ count → Overlaps before work start i j → ⊥
none_late before work start count order i j within overlap =
    omega (arith, order i j (record { ordered = overlap.ordered; within = within }), overlap.early)

order_kept : (before : Relation) (work : Work) (start : ℕ → ℕ) (count : ℕ) → ((i j : ℕ) → i ≤ count → Overlaps before work start i j → ⊥)
    → KeepsOrder (IsAmong count before) work start
order_kept before work start count none i j among = elim (cases_lt (start j) (finish_of work start i)) [
  | inl early ↦ absurd (none i j among.within (record { ordered = among.ordered; early = early }))
  | inr late ↦ late
]

-- what a test of the first messages tells
pub order_tells : (before : Relation) (work : Work) (start : ℕ → ℕ) (count : ℕ) (kept : Bool) → (IsTrue kept ↔ KeepsOrder (IsAmong count before) work start)
    → IsTrue kept ↔ NoneOfFirst false before work start count
order_tells before work start count kept told =
    (λ t. none_late before work start count (told.0 t), λ none. told.1 (order_kept before work start count none))

pub apart_tells : (before : Relation) (work : Work) (start : ℕ → ℕ) (count : ℕ) (kept : Bool) → (IsTrue kept ↔ AreApart (IsAmong count before) work start)
    → IsTrue kept ↔ NoneOfFirst true before work start count
apart_tells before work start count kept told = (
  λ t i j within pair. told.0 t i j (record { ordered = record { ordered = pair.ordered; within = within }; together = pair.together }),
  λ none. told.1 (λ i j pair. none i j pair.ordered.within (record { ordered = pair.ordered.ordered; together = pair.together })),
)

-- an overlap is one of a pair of messages
pub pair_of : (planned : Planned) (i j : ℕ) → planned_overlaps planned i j → pairs_of planned.case i j
pair_of planned i j h =
    (overlap_parts (planned_clients planned) (pairs_of planned.case) (planned_work planned) (planned_starts planned) i j h).0

module _ (planned : Planned) (kept : ℕ) where
  abbrev Pair : ℕ → ℕ → Type 0
  Pair = planned_overlaps planned

  -- a message that has an overlap is none of the first
  past-kept : NoneAmong planned kept → (i j : ℕ) → Pair i j → kept < i
  past-kept none i j h = elim (cases_lt kept i) [
    | inl lt ↦ lt
    | inr le ↦ absurd (none i j le h)
  ]

  -- an overlap stands at the place of its first message
  has-overlap : (i j : ℕ) → kept < i → Pair i j → HasOverlap planned (kept + (i - kept - 1))
  has-overlap i j past h =
      let same : i ≡ kept + (i - kept - 1) + 1 = omega arith in
      (j, subst (λ n. Pair n j) same h)

  -- where there is no place there is no overlap
  pub no-overlap : NoneAmong planned kept → IsFirstPlace (λ i. HasOverlap planned (kept + i)) ((planned_work planned).count - kept) None
      → (i j : ℕ) → Pair i j → ⊥
  no-overlap first none i j h =
      let past : kept < i = past-kept first i j h in
      let pair = pair_of planned i j h in
      let earlier : i < j = pair.earlier in
      let to = pair.to in
      none (i - kept - 1) (omega (arith, planned.lengths)) (has-overlap i j past h)

  -- the first place, and the least second message there
  pub first-overlap : (place second : ℕ) → NoneAmong planned kept
      → IsFirstPlace (λ i. HasOverlap planned (kept + i)) ((planned_work planned).count - kept) (Some place)
      → IsLeastOf (Pair (kept + place + 1)) second
      → IsFirstPair Pair (kept + place + 1) second
  first-overlap place second first at least = record {
    least_second = least;
    least_first = λ i j h. elim (cases_lt i (kept + place + 1)) [
      | inl lt ↦ (let past : kept < i = past-kept first i j h in absurd (at.2 (i - kept - 1) (omega arith) (has-overlap i j past h)))
      | inr le ↦ le
    ];
  }
