-- The links of a plan in the order of starts, one message after another.
use Rattle.std.proofs.Common.{◌≡◌, ◌≢◌, true, false, refl, ℕ, ◌+◌, ◌-◌, ◌<◌, ◌≤◌, List, length, get_or, set, Contains, Option, None, arith, sym, ◌∙◌, ap, subst, inl, inr}
use Rattle.std.proofs.lemmas.Bool.{cases_lt, cases_eq, false≢true}
use Rattle.std.proofs.lemmas.List.{get_or-set_other, get_or-set_same, get_or_default}
use Rattle.waff_model.specs.Tree.{Node}
use Rattle.waff_model.specs.Versions.{has_clients}
use Rattle.waff_model.specs.declared.message.Version.{Version}
use Rattle.waff_model.specs.declared.message.Version.TheVariants.{V1, V2, V3, V4}
use Rattle.waff_assign.specs.Held.{ExcludeEachOther, Held}
use Rattle.waff_assign.specs.Order.{IsOrdered, Relation, held_of}
use Rattle.waff_plan.specs.ByStart.{AreByStart, started_at, started_of}
use Rattle.waff_plan.specs.Obeys.{EachRuns}
use Rattle.waff_plan.specs.ServesAs.{ObeysApart}
use Rattle.waff_plan.specs.Serving.{IsStartedBefore, chain_key, started_before}
use Rattle.waff_plan.specs.Work.{Work, IsAmongFirst, IsNumber}
use Rattle.waff_plan.specs.declared.sequence.Started.{Started}
use Rattle.waff_plan.proofs.ApartLaws.{number_here}
use Rattle.waff_plan.proofs.Noted.{AreNoted}
use Rattle.waff_plan.proofs.StartOrder.{apart_finish}

-- the links of the messages at the first places
abbrev pub AreFirstLinks : (ℕ → Option ℕ → Type 0) → List Started → List (Option ℕ) → ℕ → Type 0
AreFirstLinks Is started links p = (q : ℕ) → q < p → Is (started_at started q).number (get_or links ((started_at started q).number - 1) None)

-- messages by a key are in an order: of two that exclude each other the one with the lower key is before the other
pub record Sorts (tree : List Node) (assigned : List Held) (work : Work) (key : ℕ → ℕ) (before : Relation) : Type 0 where
  pub to : (i m : ℕ) → IsNumber work i → IsNumber work m → i ≢ m → ExcludeEachOther tree (held_of assigned i) (held_of assigned m) → key i ≤ key m → before i m
  pub number : (i m : ℕ) → before i m → IsNumber work i
  pub excludes : (i m : ℕ) → before i m → ExcludeEachOther tree (held_of assigned i) (held_of assigned m)
  pub sooner : (i m : ℕ) → before i m → key i < key m

-- a plan's messages by the key of its version are in the order of its chains
module _ (tree : List Node) (assigned : List Held) (work : Work) (same : length assigned ≡ work.count) where
  sorts_numbers : Sorts tree assigned work (λ m. m) (IsOrdered tree assigned)
  sorts_numbers = record {
    to = λ i m first second other excludes no_later. record { from = first.from; earlier = omega (arith, no_later, other); to = omega (arith, second.to, same); excludes = excludes };
    number = λ i m pair. record { from = pair.from; to = omega (arith, pair.earlier, pair.to, same) };
    excludes = λ i m pair. pair.excludes;
    sooner = λ i m pair. pair.earlier;
  }

  sorts_starts : (start : ℕ → ℕ) → EachRuns work → ObeysApart tree assigned work start → Sorts tree assigned work start (IsStartedBefore tree assigned start)
  sorts_starts start runs obeys = record {
    to = λ i m first second other excludes no_later.
        let one : IsAmongFirst (length assigned) i = record { from = first.from; to = omega (arith, first.to, same) } in
        let two : IsAmongFirst (length assigned) m = record { from = second.from; to = omega (arith, second.to, same) } in
        let done = apart_finish tree assigned work same runs start obeys.apart i m other one two excludes no_later in
        record { first = one; second = two; precedes = omega (arith, done, runs i first); excludes = excludes };
    number = λ i m pair. record { from = pair.first.from; to = omega (arith, pair.first.to, same) };
    excludes = λ i m pair. pair.excludes;
    sooner = λ i m pair. pair.precedes;
  }

  pub sorts : (version : Version) (start : ℕ → ℕ) → EachRuns work → (has_clients version ≡ true → ObeysApart tree assigned work start)
      → Sorts tree assigned work (chain_key version start) (started_before version tree assigned start)
  sorts V1 start runs obeys = sorts_numbers
  sorts V2 start runs obeys = sorts_numbers
  sorts V3 start runs obeys = sorts_starts start runs (obeys refl)
  sorts V4 start runs obeys = sorts_starts start runs (obeys refl)

-- before the third version the key is the number
pub numbers_key : (version : Version) (start : ℕ → ℕ) → has_clients version ≡ false → chain_key version start ≡ (λ m. m)
numbers_key V1 start without = refl
numbers_key V2 start without = refl
numbers_key V3 start without = absurd (false≢true (sym without))
numbers_key V4 start without = absurd (false≢true (sym without))

-- from the third on it is the start
pub starts_key : (version : Version) (start : ℕ → ℕ) → has_clients version ≡ true → chain_key version start ≡ start
starts_key V1 start has = absurd (false≢true has)
starts_key V2 start has = absurd (false≢true has)
starts_key V3 start has = refl
starts_key V4 start has = refl

module _ (work : Work) (start : ℕ → ℕ) (started : List Started) (are : AreByStart work start started) where
  abbrev nobody : Started
  nobody = record { start = 0; number = 0 }

  pub place_of_number : (m : ℕ) → IsNumber work m → (p : ℕ) × (p < length started) × ((started_at started p).number ≡ m)
  place_of_number m number =
      let there = are.each m number in
      (there.0, there.1, ap (λ (x : Started). x.number) (get_or_default started there.0 nobody (started_of start m) there.1 ∙ there.2))

  -- a message at a place starts no later than one at a later place
  pub starts_sooner : (p q : ℕ) → q ≤ p → p < length started → start (started_at started q).number ≤ start (started_at started p).number
  starts_sooner p q less within =
      let one = (are.only p nobody within).start_is in
      let other = (are.only q nobody (omega (arith, less, within))).start_is in
      omega (arith, are.rising q p less within, one, other)

  module _ (tree : List Node) (assigned : List Held) (before : Relation) (sorts : Sorts tree assigned work start before) (p : ℕ) (within : p < length started) (noted : List ℕ)
      (are_noted : AreNoted started (λ i. Unit {0}) p noted) where
    abbrev here : ℕ
    here = (started_at started p).number

    -- of the messages that exclude it those that stand before it are before it
    pub noted_before : (i : ℕ) → Contains noted i × ExcludeEachOther tree (held_of assigned i) (held_of assigned here) → before i here
    noted_before i both =
        let at = are_noted.each i both.0 in
        subst (λ k. ExcludeEachOther tree (held_of assigned k) (held_of assigned here) → before k here) at.2
        (λ excludes.
        sorts.to (started_at started at.0).number here (number_here work start started are at.0 (omega (arith, at.1, within))) (number_here work start started are p within)
        (are.once at.0 p at.1 within) excludes (starts_sooner p at.0 (omega (arith, at.1)) within))
        both.1

    pub before_noted : (i : ℕ) → before i here → Contains noted i × ExcludeEachOther tree (held_of assigned i) (held_of assigned here)
    before_noted i pair =
        let place = place_of_number i (sorts.number i here pair) in
        elim (cases_lt place.0 p) [
          | inl less ↦ (subst (Contains noted) place.2 (are_noted.all place.0 less tt), sorts.excludes i here pair)
          | inr more ↦
              let later : start here ≤ start i = subst (λ n. start here ≤ start n) place.2 (starts_sooner place.0 p more place.1) in
              absurd (omega (arith, later, sorts.sooner i here pair))
        ]

  -- one more link
  pub more_links : (Is : ℕ → Option ℕ → Type 0) (links : List (Option ℕ)) (p : ℕ) (link : Option ℕ) → p < length started → length links ≡ work.count
      → AreFirstLinks Is started links p → Is (started_at started p).number link
      → AreFirstLinks Is started (set links ((started_at started p).number - 1) link) (p + 1)
  more_links Is links p link within count are_links is q less = elim (cases_eq q p) [
    | inl same ↦
        let number = number_here work start started are p within in
        let read : get_or (set links ((started_at started p).number - 1) link) ((started_at started p).number - 1) None ≡ link
        = get_or-set_same links ((started_at started p).number - 1) link None (omega (arith, number.from, number.to, count)) in
        subst (λ k. Is (started_at started k).number (get_or (set links ((started_at started p).number - 1) link) ((started_at started k).number - 1) None))
        (sym same) (subst (Is (started_at started p).number) (sym read) is)
    | inr there ↦
        let sooner : q < p = omega (arith, less, there) in
        let number = number_here work start started are p within in
        let other_number = number_here work start started are q (omega (arith, sooner, within)) in
        let apart = are.once q p sooner within in
        let read = get_or-set_other links ((started_at started p).number - 1) ((started_at started q).number - 1) link None
        (λ one. apart (omega (arith, one, number.from, other_number.from))) in
        subst (Is (started_at started q).number) (sym read) (are_links q sooner)
  ]

  pub all_links : (Is : ℕ → Option ℕ → Type 0) (links : List (Option ℕ)) (p : ℕ) → length started ≤ p → AreFirstLinks Is started links p
      → (m : ℕ) → 1 ≤ m → m ≤ work.count → Is m (get_or links (m - 1) None)
  all_links Is links p all are_links m from to =
      let place = place_of_number m (record { from = from; to = to }) in
      subst (λ k. Is k (get_or links (k - 1) None)) place.2 (are_links place.0 (omega (arith, place.1, all)))
