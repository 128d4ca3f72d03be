-- The blocks of the tables by places.
use Rattle.std.proofs.Common.{◌≡◌, ◌≢◌, ◌⊎◌, ℕ, zero, suc, ◌+◌, ◌-◌, ◌*◌, ◌/◌, ◌<◌, ◌≤◌, List, [], ◌∷◌, ◌++◌, length, get_or, set, take, drop, replicate, inl, inr, arith, refl, sym, ap, ap₂, ◌∙◌, subst}
use Rattle.std.specs.Prelude.{slice_range}
use Rattle.std.proofs.lemmas.Bool.{cases_eq, cases_lt}
use Rattle.std.proofs.lemmas.List.{get_or-set_same, get_or-set_other, ext_get_or, get_or-replicate, get_or_past, length-set, length-drop, length-take, length-replicate, take-set-le, drop-set-lt, drop-set-add, drop-drop, get_or-take, get_or-drop, drop-replicate}
use Rattle.std.proofs.Math.Seq.{take-add, take-set-lt, drop-cons}
use Rattle.waff_model.specs.Later.{Join, IsMonoid, latest_of, latest_in, value_at}
use Rattle.waff_model.specs.Blocks.{spread_from, AreSummed}
use Rattle.waff_model.specs.Spans.{map_in}
use Rattle.waff_model.proofs.SpanLemmas.{length-map_in, at_before, at_within, at_after}
use Rattle.waff_model.proofs.LaterLemmas.{later_none, later_between, latest-append, latest-set}

module _ {T : Type 0} (join : Join T) where
  pub length-spread : (blocks : List T) (p : ℕ) (places : List T) → length (spread_from join blocks p places) ≡ length places
  length-spread blocks p [] = refl
  length-spread blocks p (x ∷ xs) = ap suc (length-spread blocks (suc p) xs)

  spread_within : (blocks : List T) (p : ℕ) (places : List T) (i : ℕ) → i < length places
      → value_at join (spread_from join blocks p places) i ≡ join.later (value_at join places i) (value_at join blocks ((p + i) / 64))
  spread_within blocks p [] i within = absurd (omega arith)
  spread_within blocks p (x ∷ xs) zero within =
      let same : p ≡ p + 0 = omega arith in
      ap (λ q. join.later x (value_at join blocks (q / 64))) same
  spread_within blocks p (x ∷ xs) (suc i) within =
      let same : suc p + i ≡ p + suc i = omega arith in
      spread_within blocks (suc p) xs i (omega arith) ∙ ap (λ q. join.later (value_at join xs i) (value_at join blocks (q / 64))) same

  -- what counts at a place
  pub spread_at : (blocks places : List T) (i : ℕ) → i < length places
      → value_at join (spread_from join blocks 0 places) i ≡ join.later (value_at join places i) (value_at join blocks (i / 64))
  spread_at blocks places i within =
      let same : 0 + i ≡ i = omega arith in
      spread_within blocks 0 places i within ∙ ap (λ q. join.later (value_at join places i) (value_at join blocks (q / 64))) same

  module _ (laws : IsMonoid join) where
    pub spread_none : (count blocks p : ℕ)
        → spread_from join (replicate blocks join.none) p (replicate count join.none) ≡ replicate count join.none
    spread_none zero blocks p = refl
    spread_none (suc count) blocks p =
        let none : value_at join (replicate blocks join.none) (p / 64) ≡ join.none = none_at blocks (p / 64) in
        let head : join.later join.none (value_at join (replicate blocks join.none) (p / 64)) ≡ join.none
        = laws.unit (value_at join (replicate blocks join.none) (p / 64)) ∙ none in
        ap (λ x. x ∷ spread_from join (replicate blocks join.none) (suc p) (replicate count join.none)) head
        ∙ ap (λ xs. join.none ∷ xs) (spread_none count blocks (suc p))
      where
        none_at : (n q : ℕ) → get_or (replicate n join.none) q join.none ≡ join.none
        none_at n q = elim (cases_lt q n) [
          | inl within ↦ get_or-replicate n q join.none join.none within
          | inr past ↦ get_or_past (replicate n join.none) q join.none (omega (arith, length-replicate n join.none))
        ]

    -- noted at places alone
    pub noted_places : (x : T) (blocks : List T) (p : ℕ) (places : List T) (from to : ℕ)
        → spread_from join blocks p (map_in (λ v. join.later v x) places from to) ≡ map_in (λ v. join.later v x) (spread_from join blocks p places) from to
    noted_places x blocks p places from zero = refl
    noted_places x blocks p [] from (suc to) = refl
    noted_places x blocks p (y ∷ ys) zero (suc to) =
        ap₂ (λ v vs. v ∷ vs) (later_between join laws y (value_at join blocks (p / 64)) x) (noted_places x blocks (suc p) ys zero to)
    noted_places x blocks p (y ∷ ys) (suc from) (suc to) =
        ap (λ vs. join.later y (value_at join blocks (p / 64)) ∷ vs) (noted_places x blocks (suc p) ys from to)

    -- noted at whole blocks
    pub noted_blocks : (x : T) (blocks places : List T) (from to : ℕ) → to ≤ length blocks → to * 64 ≤ length places
        → spread_from join (map_in (λ v. join.later v x) blocks from to) 0 places
        ≡ map_in (λ v. join.later v x) (spread_from join blocks 0 places) (from * 64) (to * 64)
    noted_blocks x blocks places from to high short =
        let new = map_in (λ v. join.later v x) blocks from to in
        let all = spread_from join blocks 0 places in
        let long = length-spread blocks 0 places in
        let new_long = length-spread new 0 places in
        ext_get_or join.none _ _ (new_long ∙ sym long ∙ sym (length-map_in (λ v. join.later v x) all (from * 64) (to * 64))) (λ p within.
        let here : p < length places = omega (arith, within, new_long) in
        let at = value_at join places p in
        let read : value_at join (spread_from join new 0 places) p ≡ join.later at (value_at join new (p / 64)) = spread_at new places p here in
        let back : join.later at (value_at join blocks (p / 64)) ≡ value_at join all p = sym (spread_at blocks places p here) in
        elim (cases_lt p (from * 64)) [
          | inl early ↦
              read ∙ ap (join.later at) (at_before (λ v. join.later v x) blocks from to (p / 64) join.none (omega arith)) ∙ back
              ∙ sym (at_before (λ v. join.later v x) all (from * 64) (to * 64) p join.none early)
          | inr late ↦ elim (cases_lt p (to * 64)) [
            | inl noted ↦
                read ∙ ap (join.later at) (at_within (λ v. join.later v x) blocks from to (p / 64) join.none (omega arith) (omega arith) (omega arith))
                ∙ laws.associates at (value_at join blocks (p / 64)) x ∙ ap (λ v. join.later v x) back
                ∙ sym (at_within (λ v. join.later v x) all (from * 64) (to * 64) p join.none late noted (omega (arith, here, long)))
            | inr past ↦
                read ∙ ap (join.later at) (at_after (λ v. join.later v x) blocks from to (p / 64) join.none (omega arith)) ∙ back
                ∙ sym (at_after (λ v. join.later v x) all (from * 64) (to * 64) p join.none past)
          ]
        ])

    -- one span and the next
    range_join : (values : List T) (from mid to : ℕ) → from ≤ mid → mid ≤ to
        → slice_range values from to ≡ slice_range values from mid ++ slice_range values mid to
    range_join values from mid to low high =
        let whole : mid - from + (to - mid) ≡ to - from = omega arith in
        let start : from + (mid - from) ≡ mid = omega arith in
        ap (λ n. take n (drop from values)) (sym whole) ∙ take-add (mid - from) (to - mid) (drop from values)
        ∙ ap (λ xs. take (mid - from) (drop from values) ++ take (to - mid) xs) (drop-drop (mid - from) from values ∙ ap (λ n. drop n values) start)

    pub latest_join : (values : List T) (from mid to : ℕ) → from ≤ mid → mid ≤ to
        → latest_in join values from to ≡ join.later (latest_in join values from mid) (latest_in join values mid to)
    latest_join values from mid to low high =
        ap (latest_of join) (range_join values from mid to low high) ∙ latest-append join laws (slice_range values from mid) (slice_range values mid to)

    -- a later value at one place of a span
    pub latest-set_in : (values : List T) (from to p : ℕ) (x : T) → from ≤ p → p < to → p < length values
        → latest_in join (set values p (join.later (value_at join values p) x)) from to ≡ join.later (latest_in join values from to) x
    latest-set_in values from to p x low high short =
        let i = p - from in
        let entry = join.later (value_at join values p) x in
        let place : from + i ≡ p = omega arith in
        let span = slice_range values from to in
        let read : value_at join span i ≡ value_at join values p
        = get_or-take (to - from) (drop from values) i join.none (omega arith) ∙ get_or-drop from values i join.none ∙ ap (value_at join values) place in
        let same : slice_range (set values p entry) from to ≡ set span i entry
        = ap (λ q. slice_range (set values q entry) from to) (sym place)
        ∙ ap (take (to - from)) (drop-set-add from values i entry) ∙ take-set-lt (to - from) (drop from values) i entry (omega arith) in
        let long : i < length span = omega (arith, length-take (to - from) (drop from values), length-drop from values) in
        ap (latest_of join) (same ∙ ap (λ v. set span i (join.later v x)) (sym read)) ∙ latest-set join laws span i x long

    -- a value at a place outside a span
    pub latest-set_out : (values : List T) (from to p : ℕ) (v : T) → (p < from) ⊎ (to ≤ p)
        → latest_in join (set values p v) from to ≡ latest_in join values from to
    latest-set_out values from to p v outside = elim outside [
      | inl before ↦ ap (λ xs. latest_of join (take (to - from) xs)) (drop-set-lt from values p v before)
      | inr past ↦ elim (cases_lt p from) [
        | inl before ↦ ap (λ xs. latest_of join (take (to - from) xs)) (drop-set-lt from values p v before)
        | inr low ↦
            let i = p - from in
            let place : from + i ≡ p = omega arith in
            ap (λ q. latest_in join (set values q v) from to) (sym place)
            ∙ ap (λ xs. latest_of join (take (to - from) xs)) (drop-set-add from values i v)
            ∙ ap (latest_of join) (take-set-le (to - from) (drop from values) i v (omega arith))
      ]
    ]

    pub summed_none : (count blocks : ℕ) → count ≤ 64 * blocks → AreSummed join (replicate count join.none) (replicate blocks join.none)
    summed_none count blocks room = record {
      room = omega (arith, room, length-replicate count join.none, length-replicate blocks join.none);
      each = λ b within.
          get_or-replicate blocks b join.none join.none (omega (arith, length-replicate blocks join.none))
          ∙ sym (ap (λ xs. latest_of join (take (64 * b + 64 - 64 * b) xs)) (drop-replicate (64 * b) count join.none)
          ∙ none_in (64 * b + 64 - 64 * b) (count - 64 * b));
    }
      where
        none_in : (n m : ℕ) → latest_of join (take n (replicate m join.none)) ≡ join.none
        none_in zero m = refl
        none_in (suc n) zero = refl
        none_in (suc n) (suc m) = laws.unit (latest_of join (take n (replicate m join.none))) ∙ none_in n m

    -- a later value at one place, and in its block
    pub summed_put : (places blocks : List T) (p : ℕ) (x : T) → p < length places → AreSummed join places blocks
        → AreSummed join (set places p (join.later (value_at join places p) x))
        (set blocks (p / 64) (join.later (value_at join blocks (p / 64)) x))
    summed_put places blocks p x within h =
        let new_places = set places p (join.later (value_at join places p) x) in
        let entry = join.later (value_at join blocks (p / 64)) x in
        let block : p / 64 < length blocks = omega (arith, h.room) in
        record {
          room = omega (arith, h.room, length-set places p (join.later (value_at join places p) x), length-set blocks (p / 64) entry);
          each = λ b short. elim (cases_eq b (p / 64)) [
            | inl same ↦
                subst (λ b. value_at join (set blocks (p / 64) entry) b ≡ latest_in join new_places (64 * b) (64 * b + 64)) (sym same)
                (get_or-set_same blocks (p / 64) entry join.none block ∙ ap (λ v. join.later v x) (h.each (p / 64) block)
                ∙ sym (latest-set_in places (64 * (p / 64)) (64 * (p / 64) + 64) p x (omega arith) (omega arith) within))
            | inr other ↦
                let long = length-set blocks (p / 64) entry in
                get_or-set_other blocks (p / 64) b entry join.none other ∙ h.each b (omega (arith, short, long))
                ∙ sym (latest-set_out places (64 * b) (64 * b + 64) p (join.later (value_at join places p) x) (apart b other))
          ];
        }
      where
        apart : (b : ℕ) → b ≢ p / 64 → (p < 64 * b) ⊎ (64 * b + 64 ≤ p)
        apart b other = elim (cases_lt p (64 * b)) [
          | inl before ↦ inl before
          | inr low ↦ elim (cases_lt p (64 * b + 64)) [
            | inl high ↦ absurd (other (omega arith))
            | inr past ↦ inr past
          ]
        ]

    latest_empty : (values : List T) (from to : ℕ) → to ≤ from → latest_in join values from to ≡ join.none
    latest_empty values from to short =
        let none : to - from ≡ 0 = omega arith in
        ap (λ n. latest_of join (take n (drop from values))) none

    latest_one : (values : List T) (at : ℕ) → at < length values → latest_in join values at (at + 1) ≡ value_at join values at
    latest_one values at within =
        let one : at + 1 - at ≡ 1 = omega arith in
        ap (λ n. latest_of join (take n (drop at values))) one
        ∙ ap (λ xs. latest_of join (take 1 xs)) (drop-cons values at join.none within)
        ∙ later_none join laws (value_at join values at)

    -- the latest of whole blocks
    pub latest_blocks : (places blocks : List T) (n from to : ℕ) → to ≡ from + n → to ≤ length blocks → AreSummed join places blocks
        → latest_in join blocks from to ≡ latest_in join places (from * 64) (to * 64)
    latest_blocks places blocks zero from to is within h =
        latest_empty blocks from to (omega arith) ∙ sym (latest_empty places (from * 64) (to * 64) (omega arith))
    latest_blocks places blocks (suc n) from to is within h =
        let start : 64 * from ≡ from * 64 = omega arith in
        let end : 64 * from + 64 ≡ (from + 1) * 64 = omega arith in
        latest_join blocks from (from + 1) to (omega arith) (omega arith)
        ∙ ap₂ join.later
        (latest_one blocks from (omega arith) ∙ h.each from (omega arith) ∙ ap₂ (latest_in join places) start end)
        (latest_blocks places blocks n (from + 1) to (omega arith) within h)
        ∙ sym (latest_join places (from * 64) ((from + 1) * 64) (to * 64) (omega arith) (omega arith))
