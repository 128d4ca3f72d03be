-- Where no message stands in a table, when some are put there or taken.
use Rattle.std.proofs.Common.{◌≡◌, ℕ, ◌+◌, ◌*◌, ◌/◌, ◌<◌, ◌≤◌, inl, inr, Bool, true, false, List, length, get_or, set, replicate, arith, sym, ◌∙◌, ap}
use Rattle.std.proofs.lemmas.Bool.{cases_eq, cases_lt}
use Rattle.std.proofs.lemmas.List.{get_or-set_same, get_or-set_other, get_or-replicate, get_or_past, length-set, length-replicate}
use Rattle.waff_model.specs.Blocks.{AreBelow, AreFilled}
use Rattle.waff_model.specs.Spans.{map_in, messages_in}
use Rattle.waff_model.proofs.SpanLemmas.{length-map_in, at_before, at_within, at_after, map_in-empty, messages_in-empty}

-- nothing stands in a new table
pub none_at : (n p : ℕ) → get_or {A = ℕ} (replicate n 0) p 0 ≡ 0
none_at n p = elim (cases_lt p n) [
  | inl within ↦ get_or-replicate n p 0 0 within
  | inr past ↦ get_or_past (replicate n 0) p 0 (omega (arith, length-replicate {A = ℕ} n 0))
]

module _ (messages : List ℕ) (from to : ℕ) where
  -- the messages at the places from `from` up to `to` have gone
  abbrev left : List ℕ
  left = map_in (λ m. 0) messages from to

  pub gone_at : (p : ℕ) → from ≤ p → p < to → get_or left p 0 ≡ 0
  gone_at p late early = elim (cases_lt p (length messages)) [
    | inl within ↦ at_within (λ m. 0) messages from to p 0 late early within
    | inr past ↦ get_or_past left p 0 (omega (arith, length-map_in (λ m. 0) messages from to))
  ]

  -- where none stood before, none stands after
  none_left : (p : ℕ) → get_or messages p 0 ≡ 0 → get_or left p 0 ≡ 0
  none_left p none = elim (cases_lt p from) [
    | inl early ↦ at_before (λ m. 0) messages from to p 0 early ∙ none
    | inr late ↦ elim (cases_lt p to) [
      | inl gone ↦ gone_at p late gone
      | inr past ↦ at_after (λ m. 0) messages from to p 0 past ∙ none
    ]
  ]

  -- a run within one block, which is emptied where the run is the whole block
  pub filled_taken : (filled : List Bool) (block : ℕ) (flag : Bool) → block ≡ from / 64 → to ≤ 64 * block + 64 → block < length filled
      → (flag ≡ false → (from ≡ 64 * block) × (to ≡ 64 * block + 64)) → AreFilled messages filled → AreFilled left (set filled block flag)
  filled_taken filled block flag is short within whole h = record {
    room = omega (arith, h.room, length-map_in (λ m. 0) messages from to, length-set filled block flag);
    none = λ q empty. elim (cases_eq (q / 64) block) [
      | inl same ↦
          let none : flag ≡ false
          = sym (get_or-set_same filled block flag true within) ∙ ap (λ x. get_or (set filled block flag) x true) (sym same) ∙ empty in
          let all = whole none in
          let first : from ≡ 64 * block = all.0 in
          let last : to ≡ 64 * block + 64 = all.1 in
          gone_at q (omega arith) (omega arith)
      | inr other ↦ none_left q (h.none q (sym (get_or-set_other filled block (q / 64) flag true other) ∙ empty))
    ];
  }

  -- where no message stands from a place on, none does when some have gone
  pub below_left : (end : ℕ) → AreBelow end messages → AreBelow end left
  below_left end below p far = none_left p (below p far)

  -- and none from where they have gone, if they have gone up to there
  pub below_from : (end : ℕ) → AreBelow end messages → end ≤ to → AreBelow from left
  below_from end below all p late = elim (cases_lt p to) [
    | inl gone ↦ gone_at p late gone
    | inr past ↦ at_after (λ m. 0) messages from to p 0 past ∙ below p (omega arith)
  ]

-- what was taken from a run is all that stood up to a later place, if no message stands behind the run
pub taken_rest : (messages left : List ℕ) (from at to end : ℕ) → from ≤ at → at ≤ to → (at < to → end ≤ at) → AreBelow end messages
    → left ≡ map_in (λ m. 0) messages from at
    → (messages_in messages from at ≡ messages_in messages from to) × (left ≡ map_in (λ m. 0) messages from to)
taken_rest messages left from at to end low high all below is =
    let none : (p : ℕ) → at ≤ p → p < to → get_or left p 0 ≡ 0
    = λ p late early.
    let far : end ≤ at = all (omega arith) in
    ap (λ xs. get_or xs p 0) is ∙ below_left messages from at end below p (omega arith) in
    (messages_in-empty messages left from at low is to high none, map_in-empty messages left from at low is to high none)
