-- Messages one after another, each looked at with those that were noted before it.
use Rattle.std.proofs.Common.{◌≡◌, ℕ, ◌+◌, ◌-◌, ◌<◌, ◌≤◌, ◌⊎◌, inl, inr, List, length, Contains, Option, Some, None, IfSome, arith, sym, ◌∙◌, ap, subst}
use Rattle.std.proofs.lemmas.Bool.{cases_lt, cases_order}
use Rattle.std.proofs.lemmas.List.FromFn.{get_or-map-range_with_len, length-map-range_with_len}
use Rattle.waff_model.specs.Tree.{Node}
use Rattle.waff_assign.specs.Held.{ExcludeEachOther, Held}
use Rattle.waff_assign.specs.Order.{held_of, IsOrdered}
use Rattle.waff_plan.specs.Apart.{AreApart}
use Rattle.waff_plan.specs.ByStart.{AreByStart, AreMessages, started_at, started_of, walk_of}
use Rattle.waff_plan.specs.Keeps.{IsPair, KeepsPairs}
use Rattle.waff_plan.specs.Obeys.{EachRuns, IsAmong, KeepsOrder}
use Rattle.waff_plan.specs.Table.{IsLatestExcluding}
use Rattle.waff_plan.specs.Work.{Work, IsNumber, finish_of}
use Rattle.waff_plan.specs.declared.latest.Latest.{Latest}
use Rattle.waff_plan.specs.declared.ordered.Pairs.{Pairs}
use Rattle.waff_plan.specs.declared.sequence.Started.{Started}
use Rattle.waff_plan.proofs.ApartLaws.{apart_where_finished, number_here, turned}
use Rattle.waff_plan.proofs.Exclusion.{excludes_back}
use Rattle.waff_plan.proofs.Noted.{AreNoted}
use Rattle.waff_plan.proofs.StartOrder.{apart_finish_among}
use Rattle.waff_plan.proofs.StartedLinks.{place_of_number, starts_sooner}

module _ (tree : List Node) (assigned : List Held) (work : Work) (start : ℕ → ℕ) (sequence : List Started) (pairs : Pairs) where
  -- with message i a pair may begin
  abbrev pub Begins : ℕ → Type 0
  Begins i = (pairs.from ≤ i) × (i ≤ pairs.to)

  -- the pairs are kept the later message of which stands before a place
  abbrev pub KeepsTo : ℕ → Type 0
  KeepsTo place = (p q : ℕ) → IsPair tree assigned sequence pairs p q → q < place → finish_of work start (started_at sequence p).number ≤ start (started_at sequence q).number

  module _ (place m : ℕ) (noted : List ℕ) (latest : Option Latest) (is : (started_at sequence place).number ≡ m) (are : AreNoted sequence Begins place noted)
      (found : m ≤ pairs.last → IsLatestExcluding tree assigned (finish_of work start) noted m latest) where
    -- where the pairs are kept, the latest of the noted messages has finished
    pub latest_finished : (pairs.last < m → latest ≡ None) → place < length sequence → KeepsPairs tree assigned work start sequence pairs → IfSome latest (λ l. l.finish ≤ start m)
    latest_finished none within kept = elim (cases_lt pairs.last m) [
      | inl past ↦ rw (none past) tt
      | inr upto ↦ finished latest (found upto) upto
    ]
      where
        finished : (x : Option Latest) → IsLatestExcluding tree assigned (finish_of work start) noted m x → m ≤ pairs.last → IfSome x (λ l. l.finish ≤ start m)
        finished None none upto = tt
        finished (Some l) latest upto =
            let at = are.each l.number latest.number.one.0 in
            let done = kept at.0 place (record {
              before = at.1;
              within = within;
              from = omega (arith, at.2, at.3.0);
              to = omega (arith, at.2, at.3.1);
              last = omega (arith, is, upto);
              excludes = rw (at.2, is) latest.number.one.1;
            }) in
            omega (arith, done, latest.finish_is, ap (finish_of work start) at.2, ap start is)

    -- where it has, the pairs are kept up to here
    pub keeps_more : IfSome latest (λ l. l.finish ≤ start m) → KeepsTo place → KeepsTo (place + 1)
    keeps_more done kept p q pair less = elim (cases_lt q place) [
      | inl sooner ↦ kept p q pair sooner
      | inr later ↦
          let here : q ≡ place = omega (arith, less, later) in
          let q_is : (started_at sequence q).number ≡ m = ap (λ k. (started_at sequence k).number) here ∙ is in
          let there = are.all p (omega (arith, pair.before, here)) (pair.from, pair.to) in
          let excludes : ExcludeEachOther tree (held_of assigned (started_at sequence p).number) (held_of assigned m)
          = subst (λ k. ExcludeEachOther tree (held_of assigned (started_at sequence p).number) (held_of assigned k)) q_is pair.excludes in
          omega (arith, ap start q_is, finished latest (found (omega (arith, q_is, pair.last))) done (started_at sequence p).number there excludes)
    ]
      where
        finished : (x : Option Latest) → IsLatestExcluding tree assigned (finish_of work start) noted m x → IfSome x (λ l. l.finish ≤ start m)
            → (i : ℕ) → Contains noted i → ExcludeEachOther tree (held_of assigned i) (held_of assigned m) → finish_of work start i ≤ start m
        finished None none done i there excludes = absurd (none i (there, excludes))
        finished (Some l) latest done i there excludes = omega (arith, done, latest.finish_is, latest.number.latest i (there, excludes))

  -- of two messages at places that are one of the pairs the later starts when the earlier has finished
  pub kept_at : KeepsPairs tree assigned work start sequence pairs → (i j p q : ℕ) → (started_at sequence p).number ≡ i → (started_at sequence q).number ≡ j
      → p < q → q < length sequence → pairs.from ≤ i → i ≤ pairs.to → j ≤ pairs.last → ExcludeEachOther tree (held_of assigned i) (held_of assigned j)
      → finish_of work start i ≤ start j
  kept_at kept i j p q p_is q_is before within from to last excludes =
      let done = kept p q (record {
        before = before;
        within = within;
        from = omega (arith, p_is, from);
        to = omega (arith, p_is, to);
        last = omega (arith, q_is, last);
        excludes = rw (p_is, q_is) excludes;
      }) in
      omega (arith, done, ap (finish_of work start) p_is, ap start q_is)

-- the messages by number are those of the trace
numbered_at : (count p : ℕ) → p < count → (started_at (walk_of count None) p).number ≡ p + 1
numbered_at count p within =
    ap (λ (s : Started). s.number) (get_or-map-range_with_len (started_of (λ m. m)) 1 count p (p + 1) (record { start = 0; number = 0 }) within (omega arith))

numbered_long : (count : ℕ) → length (walk_of count None) ≡ count
numbered_long count = length-map-range_with_len (started_of (λ m. m)) 1 count

pub numbered_messages : (count : ℕ) → AreMessages count (walk_of count None)
numbered_messages count = record {
  long = numbered_long count;
  number = λ p less.
      let is = numbered_at count p (omega (arith, less, numbered_long count)) in
      record { from = omega (arith, is); to = omega (arith, is, less, numbered_long count) };
}

-- by number the pairs of the first messages with all later ones are kept where the order is
module _ (tree : List Node) (assigned : List Held) (work : Work) (start : ℕ → ℕ) (count : ℕ) (same : length assigned ≡ work.count) where
  abbrev first_pairs : Pairs
  first_pairs = record { from = 1; to = count; last = work.count }

  pub order_kept : KeepsPairs tree assigned work start (walk_of work.count None) first_pairs → KeepsOrder (IsAmong count (IsOrdered tree assigned)) work start
  order_kept kept i j pair =
      let ordered = pair.ordered in
      let to : j ≤ work.count = omega (arith, ordered.to, same) in
      let i_is : i - 1 + 1 ≡ i = omega (arith, ordered.from) in
      let j_is : j - 1 + 1 ≡ j = omega (arith, ordered.from, ordered.earlier) in
      kept_at tree assigned work start (walk_of work.count None) first_pairs kept i j (i - 1) (j - 1)
      (numbered_at work.count (i - 1) (omega (arith, ordered.from, ordered.earlier, to)) ∙ i_is)
      (numbered_at work.count (j - 1) (omega (arith, ordered.from, ordered.earlier, to)) ∙ j_is)
      (omega (arith, ordered.from, ordered.earlier)) (omega (arith, ordered.from, ordered.earlier, to, numbered_long work.count))
      ordered.from pair.within to ordered.excludes

  pub pairs_kept : KeepsOrder (IsAmong count (IsOrdered tree assigned)) work start → KeepsPairs tree assigned work start (walk_of work.count None) first_pairs
  pairs_kept order p q pair =
      let long = numbered_long work.count in
      let p_is = numbered_at work.count p (omega (arith, pair.before, pair.within, long)) in
      let q_is = numbered_at work.count q (omega (arith, pair.within, long)) in
      order (started_at (walk_of work.count None) p).number (started_at (walk_of work.count None) q).number (record {
        ordered = record {
          from = omega (arith, p_is);
          earlier = omega (arith, p_is, q_is, pair.before);
          to = omega (arith, q_is, pair.within, long, same);
          excludes = pair.excludes;
        };
        within = pair.to;
      })

pub started_messages : (work : Work) (start : ℕ → ℕ) (started : List Started) → AreByStart work start started → AreMessages work.count started
started_messages work start started are = record { long = are.long; number = λ p less. number_here work start started are p less }

-- by their starts those and the pairs of the others with the first are kept where no two run at a common tick
module _ (tree : List Node) (assigned : List Held) (work : Work) (start : ℕ → ℕ) (count : ℕ) (same : length assigned ≡ work.count) (runs : EachRuns work)
    (started : List Started) (are : AreByStart work start started) where
  pub pairs_apart : (pairs : Pairs) → ((i j : ℕ) → i ≤ pairs.to → j ≤ pairs.last → (i ≤ count) ⊎ (j ≤ count))
      → AreApart (IsAmong count (IsOrdered tree assigned)) work start → KeepsPairs tree assigned work start started pairs
  pairs_apart pairs among apart p q pair =
      let first = number_here work start started are p (omega (arith, pair.before, pair.within)) in
      let second = number_here work start started are q pair.within in
      apart_finish_among tree assigned work same runs start count apart (started_at started p).number (started_at started q).number
      (are.once p q pair.before pair.within)
      (record { from = first.from; to = omega (arith, first.to, same) }) (record { from = second.from; to = omega (arith, second.to, same) })
      (among _ _ pair.to pair.last) pair.excludes
      (starts_sooner work start started are q p (omega (arith, pair.before)) pair.within)

  abbrev Kept : Pairs → Type 0
  Kept = KeepsPairs tree assigned work start started

  abbrev pairs_of_first : Pairs
  pairs_of_first = record { from = 1; to = count; last = work.count }

  abbrev pairs_of_others : Pairs
  pairs_of_others = record { from = count + 1; to = work.count; last = count }

  pub apart_kept : Kept pairs_of_first → (count < work.count → Kept pairs_of_others)
      → AreApart (IsAmong count (IsOrdered tree assigned)) work start
  apart_kept first others i j pair =
      let ordered = pair.ordered.ordered in
      let to : j ≤ work.count = omega (arith, ordered.to, same) in
      let i_number : IsNumber work i = record { from = ordered.from; to = omega (arith, ordered.earlier, to) } in
      let j_number : IsNumber work j = record { from = omega (arith, ordered.from, ordered.earlier); to = to } in
      let one = place_of_number work start started are i i_number in
      let two = place_of_number work start started are j j_number in
      elim (cases_order one.0 two.0) [
        | inl here ↦
            let equal : i ≡ j = sym one.2 ∙ ap (λ k. (started_at started k).number) here ∙ two.2 in
            omega (arith, equal, ordered.earlier)
        | inr (inl sooner) ↦
            apart_where_finished work start i j
            (kept_at tree assigned work start started pairs_of_first first i j one.0 two.0 one.2 two.2 sooner two.1 ordered.from pair.ordered.within to ordered.excludes)
            pair.together
        | inr (inr later) ↦
            let excludes = excludes_back tree (held_of assigned i) (held_of assigned j) ordered.excludes in
            apart_where_finished work start j i
            (elim (cases_lt count j) [
              | inl past ↦
                  kept_at tree assigned work start started pairs_of_others (others (omega (arith, past, to))) j i two.0 one.0 two.2 one.2 later one.1
                  (omega (arith, past)) to pair.ordered.within excludes
              | inr within ↦
                  kept_at tree assigned work start started pairs_of_first first j i two.0 one.0 two.2 one.2 later one.1
                  j_number.from within i_number.to excludes
            ])
            (turned work start i j pair.together)
      ]
