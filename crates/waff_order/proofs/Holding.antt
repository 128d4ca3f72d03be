-- The tables by places hold the messages that are open at their affinities, and the latest message at or above each
-- affinity.
use Rattle.std.proofs.Common.{◌≡◌, ◌≢◌, ℕ, ◌+◌, ◌<◌, ◌≤◌, ◌⊎◌, ◌↔◌, max, inl, inr, List, [], length, get_or, set, replicate, Contains, Some, None, arith, sym, ◌∙◌, ap, subst}
use Rattle.std.proofs.lemmas.Bool.{cases_eq, cases_lt}
use Rattle.std.proofs.lemmas.List.{get_or-set_same, get_or-set_other}
use Rattle.waff_model.specs.Tree.{Node, AtOrAbove}
use Rattle.waff_model.specs.Preorder.{AreNested, span_at}
use Rattle.waff_model.specs.Spans.{map_in, messages_in}
use Rattle.waff_model.specs.declared.preorder.Span.{Span}
use Rattle.waff_model.proofs.SpanLemmas.{length-map_in, at_before, at_within, at_after, messages_at, at_listed}
use Rattle.waff_model.proofs.TakeLemmas.{none_at, gone_at}
use Rattle.waff_assign.specs.Held.{AreKnown, Held}
use Rattle.waff_assign.specs.Order.{affinity_of}
use Rattle.waff_assign.proofs.Holding.{held_known}
use Rattle.waff_order.specs.Open.{HoldsOver, IsOpen, IsOpenBelow, affinity, below, lock}
use Rattle.waff_order.specs.Joined.{AreHeld, AreLatest, IsNoted, place_at}
use Rattle.waff_order.specs.Gathering.{latest_after, opened_after}
use Rattle.waff_order.proofs.Closure.{IsFound}
use Rattle.waff_order.proofs.Steps.{no_affinity_over, noted_last, noted_more, open_before, open_last, open_more, over_affinity}

pub held_none : (tree : List Node) (spans : List Span) (size : ℕ) → AreHeld tree spans [] 0 (replicate size 0)
held_none tree spans size = record {
  held = λ p some. let none = none_at size p in absurd (omega (arith, none));
  each = λ i a is_open. let from = is_open.from in let to = is_open.to in absurd (omega (arith, from, to));
}

pub latest_none : (tree : List Node) (spans : List Span) (size : ℕ) → AreLatest tree spans [] 0 (replicate size 0)
latest_none tree spans size a within = record {
  some = λ some. let nothing = none_at size (place_at spans a) in absurd (omega (arith, nothing));
  latest = λ j to from is. absurd (omega arith);
}

module _ (tree : List Node) (spans : List Span) (nested : AreNested tree spans) (assigned : List Held) (known : AreKnown tree assigned) (n : ℕ) where
  abbrev first : ℕ → ℕ
  first a = (span_at spans a).first

  abbrev end : ℕ → ℕ
  end a = (span_at spans a).end

  -- the affinity of an open message is one of the tree
  open_known : (i a : ℕ) → n ≤ length assigned → IsOpen tree assigned n i (affinity a) → a < length tree
  open_known i a few h =
      let to : i ≤ n = h.to in
      (held_known tree assigned i known h.from (omega arith)).affinity a h.held

  -- what is open at an affinity and those below it
  pub taken_tree : (opened : List ℕ) → n ≤ length assigned → AreHeld tree spans assigned n opened → (a : ℕ) → a < length tree → (i : ℕ)
      → Contains (messages_in opened (first a) (end a)) i ↔ ((b : ℕ) × AtOrAbove tree a b × IsOpen tree assigned n i (affinity b))
  taken_tree opened few h a within i = (
    λ has.
        let at = messages_at opened (first a) (end a) i has in
        let p : ℕ = at.place in
        let is : get_or opened p 0 ≡ i = at.is in
        let some : 0 < i = at.some in
        let there = h.held p (omega arith) in
        let place : first there.0 ≡ p = there.2 in
        let low : first a ≤ p = at.after in
        let high : p < end a = at.before in
        let law = nested.tells a there.0 within (open_known (get_or opened p 0) there.0 few there.1) in
        (there.0, law.0 (omega arith, omega arith), subst (λ x. IsOpen tree assigned n x (affinity there.0)) is there.1),
    λ there.
        let b : ℕ = there.0 in
        let here : get_or opened (first b) 0 ≡ i = h.each i b there.2 in
        let run = (nested.tells a b within (open_known i b few there.2)).1 there.1 in
        let from : 1 ≤ i = there.2.from in
        subst (λ x. Contains (messages_in opened (first a) (end a)) x) here (at_listed opened (first a) (end a) (first b) run.0 run.1 (omega arith)),
  )

  -- at an affinity that is not the root
  pub found_tree : (opened latest : List ℕ) → n ≤ length assigned → AreHeld tree spans assigned n opened → AreLatest tree spans assigned n latest
      → (a : ℕ) → a < length tree → a ≢ 0 → IsFound tree assigned n (affinity a) (messages_in opened (first a) (end a)) (get_or latest (first a) 0)
  found_tree opened latest few h noted a within other = record {
    opens = λ i. (
      λ has. let there = (taken_tree opened few h a within i).0 has in (affinity there.0, there.1, there.2),
      λ there. to_tree i there,
    );
    noted = noted a within;
  }
    where
      to_tree : (i : ℕ) → IsOpenBelow tree assigned n i (affinity a) → Contains (messages_in opened (first a) (end a)) i
      to_tree i (affinity b, over, is) = (taken_tree opened few h a within i).1 (b, over, is)
      to_tree i (lock l, over, is) = absurd (other over)
      to_tree i (below l m, over, is) = absurd (other over)

  module _ (room : n + 1 ≤ length assigned) where
    -- a message with no affinity changes nothing in the tree
    pub held_same : (opened : List ℕ) → affinity_of assigned (n + 1) ≡ None → AreHeld tree spans assigned n opened → AreHeld tree spans assigned (n + 1) opened
    held_same opened none h = record {
      held = λ p some. let there = h.held p some in (there.0, open_more tree assigned n _ (affinity there.0) there.1 (no_affinity_over tree assigned (n + 1) there.0 none), there.2);
      each = λ i a is. elim (cases_eq i (n + 1)) [
        | inl last ↦
            let mine : affinity_of assigned (n + 1) ≡ Some a = subst (λ x. affinity_of assigned x ≡ Some a) last is.held in
            let both : None ≡ Some a = sym none ∙ mine in
            cc
        | inr other ↦ h.each i a (open_before tree assigned n i (affinity a) other is).0
      ];
    }

    pub latest_same : (latest : List ℕ) → affinity_of assigned (n + 1) ≡ None → AreLatest tree spans assigned n latest → AreLatest tree spans assigned (n + 1) latest
    latest_same latest none h a within = noted_more tree assigned n (affinity a) (get_or latest (place_at spans a) 0) (h a within) (no_affinity_over tree assigned (n + 1) a none)

    module _ (a : ℕ) (is_a : affinity_of assigned (n + 1) ≡ Some a) where
      within_a : a < length tree
      within_a = (held_known tree assigned (n + 1) known (omega arith) room).affinity a is_a

      -- a place is over an affinity if this one is
      over_to : (b : ℕ) → HoldsOver tree assigned (n + 1) (affinity b) → AtOrAbove tree a b
      over_to b over =
          let there = over_affinity tree assigned (n + 1) b over in
          let both : Some a ≡ Some there.0 = sym is_a ∙ there.1 in
          let same : there.0 ≡ a = cc in
          subst (λ x. AtOrAbove tree x b) same there.2

      over_from : (b : ℕ) → AtOrAbove tree a b → HoldsOver tree assigned (n + 1) (affinity b)
      over_from b above = (affinity a, is_a, above)

      spans_to : (b : ℕ) → b < length tree → HoldsOver tree assigned (n + 1) (affinity b) → (first a ≤ first b) × (first b < end a)
      spans_to b within over = (nested.tells a b within_a within).1 (over_to b over)

      spans_from : (b : ℕ) → b < length tree → first a ≤ first b → first b < end a → HoldsOver tree assigned (n + 1) (affinity b)
      spans_from b within low high = over_from b ((nested.tells a b within_a within).0 (low, high))

      abbrev left : List ℕ → List ℕ
      left old = map_in (λ m. 0) old (first a) (end a)

      outside : (old : List ℕ) (p : ℕ) → (p < first a) ⊎ (end a ≤ p) → get_or (left old) p 0 ≡ get_or old p 0
      outside old p (inl before) = at_before (λ m. 0) old (first a) (end a) p 0 before
      outside old p (inr past) = at_after (λ m. 0) old (first a) (end a) p 0 past

      pub held_more : (old : List ℕ) → length old ≡ length tree → AreHeld tree spans assigned n old
          → AreHeld tree spans assigned (n + 1) (opened_after spans old (n + 1) (Some a))
      held_more old count h =
          let at = first a in
          let long = length-map_in (λ m. 0) old at (end a) in
          let full : first a < end a = nested.filled a within_a in
          let short : end a ≤ length tree = nested.few a within_a in
          let here : get_or (set (left old) at (n + 1)) at 0 ≡ n + 1 = get_or-set_same (left old) at (n + 1) 0 (omega (arith, long)) in
          record {
            held = λ p some. elim (cases_eq p at) [
              | inl same ↦ (
                a,
                subst (λ x. IsOpen tree assigned (n + 1) x (affinity a)) (sym here ∙ ap (λ x. get_or (set (left old) at (n + 1)) x 0) (sym same))
                    (open_last tree assigned n (affinity a) is_a),
                sym same,
              )
              | inr other ↦
                  let kept : get_or (set (left old) at (n + 1)) p 0 ≡ get_or (left old) p 0 = get_or-set_other (left old) at p (n + 1) 0 other in
                  held_other p (omega (arith, kept)) kept
            ];
            each = λ i b is_open. elim (cases_eq i (n + 1)) [
              | inl last ↦
                  let mine : affinity_of assigned (n + 1) ≡ Some b = subst (λ x. affinity_of assigned x ≡ Some b) last is_open.held in
                  let both : Some a ≡ Some b = sym is_a ∙ mine in
                  let same : a ≡ b = cc in
                  subst (λ x. get_or (set (left old) at (n + 1)) (first x) 0 ≡ i) same (here ∙ sym last)
              | inr other ↦
                  let there = open_before tree assigned n i (affinity b) other is_open in
                  let known_b = open_known i b (omega arith) there.0 in
                  let old_at : get_or old (first b) 0 ≡ i = h.each i b there.0 in
                  let out : (first b < first a) ⊎ (end a ≤ first b) = elim (cases_lt (first b) (first a)) [
                    | inl before ↦ inl before
                    | inr low ↦ elim (cases_lt (first b) (end a)) [
                      | inl high ↦ absurd (there.1 (spans_from b known_b low high))
                      | inr past ↦ inr past
                    ]
                  ] in
                  let apart : first b ≢ at = elim out [ inl before ↦ λ same. omega arith | inr past ↦ λ same. omega arith ] in
                  get_or-set_other (left old) at (first b) (n + 1) 0 apart ∙ outside old (first b) out ∙ old_at
            ];
          }
        where
          held_outside : (p : ℕ) → (p < first a) ⊎ (end a ≤ p) → 0 < get_or old p 0
              → (b : ℕ) × IsOpen tree assigned (n + 1) (get_or old p 0) (affinity b) × (place_at spans b ≡ p)
          held_outside p out some =
              let there = h.held p some in
              let b : ℕ = there.0 in
              let place : first b ≡ p = there.2 in
              let known_b = open_known (get_or old p 0) b (omega arith) there.1 in (
                b,
                open_more tree assigned n (get_or old p 0) (affinity b) there.1 (λ over.
                    let run = spans_to b known_b over in
                    let low : first a ≤ first b = run.0 in
                    let high : first b < end a = run.1 in
                    elim out [ inl before ↦ omega arith | inr past ↦ omega arith ]),
                place,
              )

          held_other : (p : ℕ) → 0 < get_or (left old) p 0 → get_or (set (left old) (first a) (n + 1)) p 0 ≡ get_or (left old) p 0
              → (b : ℕ) × IsOpen tree assigned (n + 1) (get_or (set (left old) (first a) (n + 1)) p 0) (affinity b) × (place_at spans b ≡ p)
          held_other p some kept =
              let go : (p < first a) ⊎ (end a ≤ p) → (b : ℕ) × IsOpen tree assigned (n + 1) (get_or (set (left old) (first a) (n + 1)) p 0) (affinity b) × (place_at spans b ≡ p)
              = λ (out : (p < first a) ⊎ (end a ≤ p)).
              let same : get_or (left old) p 0 ≡ get_or old p 0 = outside old p out in
              subst (λ x. (b : ℕ) × IsOpen tree assigned (n + 1) x (affinity b) × (place_at spans b ≡ p)) (sym (kept ∙ same))
              (held_outside p out (omega (arith, same))) in
              elim (cases_lt p (first a)) [
                | inl before ↦ go (inl before)
                | inr low ↦ elim (cases_lt p (end a)) [
                  | inl high ↦ let none : get_or (left old) p 0 ≡ 0 = gone_at old (first a) (end a) p low high in absurd (omega arith)
                  | inr past ↦ go (inr past)
                ]
              ]

      -- what is noted after message n + 1
      pub latest_next : (old : List ℕ) → length old ≡ length tree → AreLatest tree spans assigned n old
          → AreLatest tree spans assigned (n + 1) (latest_after spans old (n + 1) (Some a))
      latest_next old count h b within =
          let short : end a ≤ length tree = nested.few a within_a in
          let before = h b within in
          let above = get_or old (first b) 0 in
          elim (cases_lt (first b) (first a)) [
            | inl early ↦
                subst (λ x. IsNoted tree assigned (n + 1) (affinity b) x) (sym (at_before (λ v. max v (n + 1)) old (first a) (end a) (first b) 0 early))
                (noted_more tree assigned n (affinity b) above before (λ over. let run = spans_to b within over in let low : first a ≤ first b = run.0 in omega arith))
            | inr low ↦ elim (cases_lt (first b) (end a)) [
              | inl high ↦
                  let few : above ≤ n = elim (cases_lt 0 above) [
                    | inl some ↦ (before.some some).to
                    | inr none ↦ omega arith
                  ] in
                  let larger : max above (n + 1) ≡ n + 1 = omega arith in
                  subst (λ x. IsNoted tree assigned (n + 1) (affinity b) x)
                  (sym (at_within (λ v. max v (n + 1)) old (first a) (end a) (first b) 0 low high (omega arith) ∙ larger))
                  (noted_last tree assigned n (affinity b) (spans_from b within low high))
              | inr past ↦
                  subst (λ x. IsNoted tree assigned (n + 1) (affinity b) x) (sym (at_after (λ v. max v (n + 1)) old (first a) (end a) (first b) 0 past))
                  (noted_more tree assigned n (affinity b) above before (λ over. let run = spans_to b within over in let high : first b < end a = run.1 in omega arith))
            ]
          ]
