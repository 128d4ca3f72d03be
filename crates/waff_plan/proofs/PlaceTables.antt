-- The tables by places: which messages their entries speak of.
use Rattle.std.proofs.Common.{◌≡◌, ◌⊎◌, ℕ, suc, ◌+◌, ◌-◌, ◌<◌, ◌≤◌, inl, inr, List, [], ◌∷◌, length, get_or, set, drop, replicate, Contains, ◌++◌, Option, Some, None, option_map, IfSome, arith, refl, sym, ◌∙◌, ap, subst}
use Rattle.std.specs.Prelude.{slice_range}
use Rattle.std.proofs.lemmas.Bool.{cases_eq, cases_lt}
use Rattle.std.proofs.lemmas.List.{get_or-set_same, get_or-set_other, get_or_past, get_or-replicate, get_or-take, get_or-drop, length-replicate, length-take-le, length-drop}
use Rattle.std.proofs.lemmas.Option.{none-some, same_Some}
use Rattle.waff_model.specs.Preorder.{span_at, Spans}
use Rattle.waff_model.specs.Later.{latest_of, latest_in}
use Rattle.waff_model.specs.Spans.{map_in}
use Rattle.waff_model.proofs.SpanLemmas.{at_before, at_within, at_after}
use Rattle.waff_model.specs.declared.preorder.Span.{Span}
use Rattle.waff_assign.specs.Held.{Held}
use Rattle.waff_assign.specs.Order.{affinity_of}
use Rattle.waff_plan.specs.Latest.{later_of, latest_order, IsFound}
use Rattle.waff_plan.specs.Table.{AreLatest, PlaceTable, IsPlaceTable, IsPlaced, IsLast, IsLatestMeeting, Meets, StandsAt, StandsOver}
use Rattle.waff_plan.specs.declared.last.Placed.{Placed}
use Rattle.waff_plan.specs.declared.latest.Latest.{Latest}
use Rattle.waff_plan.proofs.Latests.{found_again, found_either, found_narrowed, found_none, found_noted, found_passed, found_same}

-- the table of no message
pub places_none : (spans : List Span) (assigned : List Held) (finish : ℕ → ℕ) (count : ℕ) (table : PlaceTable)
    → table.own ≡ replicate count None → table.over ≡ replicate count None → table.last ≡ None → IsPlaceTable spans assigned finish [] table
places_none spans assigned finish count table own over last = record {
  own = λ p. found_none (λ i. StandsAt spans assigned i p) finish (get_or table.own p None) (ap (λ xs. get_or xs p None) own ∙ none_at p);
  over = λ p. found_none (λ i. StandsOver spans assigned i p) finish (get_or table.over p None) (ap (λ xs. get_or xs p None) over ∙ none_at p);
  last = record {
    latest = found_none (λ i. (span : Span) × IsPlaced spans assigned i span) finish (option_map (λ (x : Placed). x.message) table.last)
        (ap (option_map (λ (x : Placed). x.message)) last);
    span = subst (λ x. IfSome x (λ (l : Placed). IsPlaced spans assigned l.message.number l.span)) (sym last) tt;
  };
}
  where
    none_at : (p : ℕ) → get_or {A = Option Latest} (replicate count None) p None ≡ None
    none_at p = elim (cases_lt p count) [
      | inl within ↦ get_or-replicate count p None None within
      | inr past ↦ get_or_past (replicate count None) p None (omega (arith, length-replicate {A = Option Latest} count None))
    ]

-- the latest at a run of places, where a message may stand at several
abbrev IsLatestAt : (ℕ → ℕ → Type 0) → (ℕ → ℕ) → List ℕ → ℕ → ℕ → Option Latest → Type 0
IsLatestAt Stands finish noted from to latest = IsFound (λ i. Contains noted i × ((p : ℕ) × Stands i p × (from ≤ p) × (p < to))) finish latest

module _ (Stands : ℕ → ℕ → Type 0) (finish : ℕ → ℕ) (noted : List ℕ) where
  -- at one run of places, and at the next
  at_join : (from mid to : ℕ) (one other : Option Latest) → from ≤ mid → mid ≤ to
      → IsLatestAt Stands finish noted from mid one → IsLatestAt Stands finish noted mid to other → IsLatestAt Stands finish noted from to (later_of one other)
  at_join from mid to one other low high first second =
      let At : ℕ → ℕ → ℕ → Type 0 = λ a b i. Contains noted i × ((p : ℕ) × Stands i p × (a ≤ p) × (p < b)) in
      found_same (λ i. At from mid i ⊎ At mid to i) (At from to) finish (later_of one other)
      (λ i either. elim either [
        | inl early ↦ let before : early.1.0 < mid = early.1.3 in (early.0, (early.1.0, early.1.1, early.1.2, omega arith))
        | inr late ↦ let after : mid ≤ late.1.0 = late.1.2 in (late.0, (late.1.0, late.1.1, omega arith, late.1.3))
      ])
      (λ i h. elim (cases_lt h.1.0 mid) [
        | inl early ↦ inl (h.0, (h.1.0, h.1.1, h.1.2, early))
        | inr late ↦ inr (h.0, (h.1.0, h.1.1, late, h.1.3))
      ])
      (found_either (At from mid) (At mid to) finish one other first second)

  at_place : (p : ℕ) (latest : Option Latest) → IsFound (λ i. Contains noted i × Stands i p) finish latest → IsLatestAt Stands finish noted p (p + 1) latest
  at_place p latest h =
      found_same (λ i. Contains noted i × Stands i p) (λ i. Contains noted i × ((q : ℕ) × Stands i q × (p ≤ q) × (q < p + 1))) finish latest
      (λ i h. (h.0, (p, h.1, omega arith, omega arith)))
      (λ i h.
      let after : p ≤ h.1.0 = h.1.2 in
      let before : h.1.0 < p + 1 = h.1.3 in
      let same : h.1.0 ≡ p = omega arith in
      (h.0, subst (Stands i) same h.1.1))
      h

  at_each : (values : List (Option Latest)) (from to : ℕ) → to ≡ from + length values
      → ((k : ℕ) → k < length values → IsFound (λ i. Contains noted i × Stands i (from + k)) finish (get_or values k None))
      → IsLatestAt Stands finish noted from to (latest_of latest_order values)
  at_each [] from to long each =
      λ i h. let after : from ≤ h.1.0 = h.1.2 in let before : h.1.0 < to = h.1.3 in absurd (omega arith)
  at_each (value ∷ values) from to long each =
      let here : from + 0 ≡ from = omega arith in
      at_join from (from + 1) to value (latest_of latest_order values) (omega arith) (omega arith)
      (at_place from value (subst (λ p. IsFound (λ i. Contains noted i × Stands i p) finish value) here (each 0 (omega arith))))
      (at_each values (from + 1) to (omega arith) (λ k within.
      let there : from + suc k ≡ from + 1 + k = omega arith in
      subst (λ p. IsFound (λ i. Contains noted i × Stands i p) finish (get_or values k None)) there (each (suc k) (omega arith))))

  latest_at : (own : List (Option Latest)) (from to : ℕ) → from ≤ to → to ≤ length own → AreLatest Stands finish noted own
      → IsLatestAt Stands finish noted from to (latest_in latest_order own from to)
  latest_at own from to forward within h =
      let run = slice_range own from to in
      let long : length run ≡ to - from = length-take-le (to - from) (drop from own) (omega (arith, length-drop from own)) in
      at_each run from to (omega (arith, long)) (λ k short.
      let read : get_or run k None ≡ get_or own (from + k) None = get_or-take (to - from) (drop from own) k None (omega (arith, long)) ∙ get_or-drop from own k None in
      subst (λ x. IsFound (λ i. Contains noted i × Stands i (from + k)) finish x) (sym read) (h (from + k)))

module _ (spans : List Span) (assigned : List Held) (finish : ℕ → ℕ) (noted : List ℕ) where
  -- a message has one affinity, or none
  one_span : (i : ℕ) (one other : Span) → IsPlaced spans assigned i one → IsPlaced spans assigned i other → one ≡ other
  one_span i one other first second = sym first.2 ∙ ap (span_at spans) (same_Some first.0 second.0 (sym first.1 ∙ second.1)) ∙ second.2

  -- the latest that is noted at a place, or stands at its run of places
  pub latest_meeting : (span : Span) (table : PlaceTable) (latest : Option Latest) → span.first < span.end → span.end ≤ length table.own
      → IsPlaceTable spans assigned finish noted table
      → latest ≡ later_of (get_or table.over span.first None) (latest_in latest_order table.own span.first span.end)
      → IsLatestMeeting spans assigned finish noted span latest
  latest_meeting span table latest forward within h is =
      let Over : ℕ → Type 0 = λ i. Contains noted i × StandsOver spans assigned i span.first in
      let Under : ℕ → Type 0 = λ i. Contains noted i × ((p : ℕ) × StandsAt spans assigned i p × (span.first ≤ p) × (p < span.end)) in
      let above = get_or table.over span.first None in
      let standing = latest_in latest_order table.own span.first span.end in
      subst (IsLatestMeeting spans assigned finish noted span) (sym is)
      (found_same (λ i. Over i ⊎ Under i) (λ i. Contains noted i × Meets spans assigned span i) finish (later_of above standing)
      (λ i either. elim either [
        | inl over ↦ (over.0, (over.1.0, over.1.1, inl (over.1.2, over.1.3)))
        | inr under ↦
            let at : under.1.1.0.first ≡ under.1.0 = under.1.1.2 in
            (under.0, (under.1.1.0, under.1.1.1, inr (subst (λ p. span.first ≤ p) (sym at) under.1.2, subst (λ p. p < span.end) (sym at) under.1.3)))
      ])
      (λ i both. elim both.1.2 [
        | inl over ↦ inl (both.0, (both.1.0, both.1.1, over.0, over.1))
        | inr under ↦ inr (both.0, (both.1.0.first, (both.1.0, both.1.1, refl), under.0, under.1))
      ])
      (found_either Over Under finish above standing (h.over span.first)
      (latest_at (StandsAt spans assigned) finish noted table.own span.first span.end (omega arith) within h.own)))

  -- the latest of all, where it meets the span
  pub last_meeting : (span : Span) (last : Placed) → IsLast spans assigned finish noted (Some last) → Spans last.span span ⊎ Spans span last.span
      → IsLatestMeeting spans assigned finish noted span (Some last.message)
  last_meeting span last is meets =
      found_narrowed (λ i. Contains noted i × ((other : Span) × IsPlaced spans assigned i other)) (λ i. Contains noted i × Meets spans assigned span i) finish last.message
      (λ i h. (h.0, (h.1.0, h.1.1))) (is.latest.number.one.0, (last.span, is.span, meets)) is.latest

  -- one more message, which has an affinity
  module _ (span : Span) (message : Latest) (is : IsPlaced spans assigned message.number span) (finish_is : finish message.number ≡ message.finish) where
    abbrev more : List ℕ
    more = noted ++ message.number ∷ []

    -- it stands at one place
    pub standing_more : (own : List (Option Latest)) → span.first < length own → AreLatest (StandsAt spans assigned) finish noted own
        → AreLatest (StandsAt spans assigned) finish more (set own span.first (later_of (get_or own span.first None) (Some message)))
    standing_more own within h q =
        let k = span.first in
        let entry = later_of (get_or own k None) (Some message) in
        let At : ℕ → Type 0 = λ i. StandsAt spans assigned i q in
        elim (cases_eq q k) [
          | inl same ↦
              let new : get_or (set own k entry) q None ≡ later_of (get_or own q None) (Some message)
              = ap (λ x. get_or (set own k entry) x None) same ∙ get_or-set_same own k entry None within
              ∙ ap (λ x. later_of (get_or own x None) (Some message)) (sym same) in
              subst (λ x. IsFound (λ i. Contains more i × At i) finish x) (sym new)
              (found_noted At finish noted (get_or own q None) message finish_is (span, is, sym same) (h q))
          | inr other ↦
              subst (λ x. IsFound (λ i. Contains more i × At i) finish x) (sym (get_or-set_other own k q entry None other))
              (found_passed At finish noted message.number (get_or own q None)
              (λ here. other (sym here.2 ∙ ap (λ (s : Span). s.first) (one_span message.number here.0 span here.1 is))) (h q))
        ]

    -- it is noted at the places of its affinity
    pub over_more : (old : List (Option Latest)) → span.end ≤ length old → AreLatest (StandsOver spans assigned) finish noted old
        → AreLatest (StandsOver spans assigned) finish more (map_in (λ l. later_of l (Some message)) old span.first span.end)
    over_more old short h p =
        let At : ℕ → Type 0 = λ i. StandsOver spans assigned i p in
        let found = h p in
        let here = λ (over : At message.number). one_span message.number over.0 span over.1 is in
        elim (cases_lt p span.first) [
          | inl early ↦
              subst (λ x. IsFound (λ i. Contains more i × At i) finish x) (sym (at_before (λ l. later_of l (Some message)) old span.first span.end p None early))
              (found_passed At finish noted message.number (get_or old p None)
              (λ over. let low : over.0.first ≤ p = over.2 in omega (arith, low, early, ap (λ (s : Span). s.first) (here over))) found)
          | inr low ↦ elim (cases_lt p span.end) [
            | inl high ↦
                subst (λ x. IsFound (λ i. Contains more i × At i) finish x) (sym (at_within (λ l. later_of l (Some message)) old span.first span.end p None low high (omega arith)))
                (found_noted At finish noted (get_or old p None) message finish_is (span, is, low, high) found)
            | inr late ↦
                subst (λ x. IsFound (λ i. Contains more i × At i) finish x) (sym (at_after (λ l. later_of l (Some message)) old span.first span.end p None late))
                (found_passed At finish noted message.number (get_or old p None)
                (λ over. let high : p < over.0.end = over.3 in omega (arith, high, late, ap (λ (s : Span). s.end) (here over))) found)
          ]
        ]

    -- it may be the latest of all
    pub last_more : (old : Option Placed) (new : Placed) → Some new.message ≡ later_of (option_map (λ (x : Placed). x.message) old) (Some message)
        → (new ≡ record { message = message; span = span }) ⊎ (old ≡ Some new)
        → IsLast spans assigned finish noted old → IsLast spans assigned finish more (Some new)
    last_more old new later one_of_both h =
        let latest = option_map (λ (x : Placed). x.message) old in
        let Is : ℕ → Type 0 = λ i. (other : Span) × IsPlaced spans assigned i other in
        record {
          latest = subst (λ x. IsFound (λ i. Contains more i × Is i) finish x) (sym later)
              (found_noted Is finish noted latest message finish_is (span, is) h.latest);
          span = elim one_of_both [
            | inl same ↦ subst (λ (x : Placed). IsPlaced spans assigned x.message.number x.span) (sym same) is
            | inr same ↦ subst (λ x. IfSome x (λ (l : Placed). IsPlaced spans assigned l.message.number l.span)) same h.span
          ];
        }

  -- one more message, which has no affinity
  pub places_passed : (table : PlaceTable) (m : ℕ) → affinity_of assigned m ≡ None → IsPlaceTable spans assigned finish noted table
      → IsPlaceTable spans assigned finish (noted ++ m ∷ []) table
  places_passed table m none h =
      let nowhere = λ (span : Span) (is : IsPlaced spans assigned m span). none-some is.0 (sym none ∙ is.1) in
      record {
        own = λ p. found_passed (λ i. StandsAt spans assigned i p) finish noted m (get_or table.own p None) (λ here. nowhere here.0 here.1) (h.own p);
        over = λ p. found_passed (λ i. StandsOver spans assigned i p) finish noted m (get_or table.over p None) (λ here. nowhere here.0 here.1) (h.over p);
        last = record {
          latest = found_passed (λ i. (span : Span) × IsPlaced spans assigned i span) finish noted m (option_map (λ (x : Placed). x.message) table.last)
              (λ here. nowhere here.0 here.1) h.last.latest;
          span = h.last.span;
        };
      }

  -- with the same finishes the table is the same
  pub places_again : (again : ℕ → ℕ) (table : PlaceTable) → ((i : ℕ) → Contains noted i → again i ≡ finish i)
      → IsPlaceTable spans assigned finish noted table → IsPlaceTable spans assigned again noted table
  places_again again table same h = record {
    own = λ p. found_again (λ i. Contains noted i × StandsAt spans assigned i p) finish again (get_or table.own p None) (λ i is. same i is.0) (h.own p);
    over = λ p. found_again (λ i. Contains noted i × StandsOver spans assigned i p) finish again (get_or table.over p None) (λ i is. same i is.0) (h.over p);
    last = record {
      latest =
          found_again (λ i. Contains noted i × ((span : Span) × IsPlaced spans assigned i span)) finish again (option_map (λ (x : Placed). x.message) table.last)
          (λ i is. same i is.0) h.last.latest;
      span = h.last.span;
    };
  }
