-- What messages hold, from the lists of their affinities, of all uses of locks and of their ends.
use Rattle.std.proofs.Common.{◌∷◌, ◌+◌, ◌++◌, ap₂, inl, inr, length-append, ◌≡◌, ℕ, zero, suc, ◌-◌, ◌<◌, ◌≤◌, List, [], length, map, Option, None, option_map, refl, ap, sym, ◌∙◌, arith, take, drop, get_or, length-drop}
use Rattle.std.specs.Prelude.{slice_index, unwrap_or}
use Rattle.std.proofs.lemmas.Bool.{cases_eq}
use Rattle.std.proofs.lemmas.List.{drop-append-le, drop_at, get_or_append_left, get_or_push, length_push, take-append-le, take_all, take_more, same_lists, get_or-map, nil_from_length, length-map, length-take-le}
use Rattle.std.proofs.lemmas.List.FromFn.{get_or-map-range_with_len, length-map-range_with_len}
use Rattle.waff_model.specs.declared.tree.AffinityId.{AffinityId}
use Rattle.waff_assign.specs.Held.{AreLocksBelow, AreUnlocked, Held, nothing}
use Rattle.waff_assign.specs.Order.{AreEnds, helds_of, number_or, start_at, uses_at}
use Rattle.waff_assign.specs.declared.held.LockUse.{LockUse}

take_none : (count from : ℕ) → take {A = LockUse} count (drop from []) ≡ []
take_none zero zero = refl
take_none zero (suc from) = refl
take_none (suc count) zero = refl
take_none (suc count) (suc from) = refl

-- of no uses each run is empty
pub uses_at_none : (uses : List LockUse) (ends : List ℕ) (k : ℕ) → length uses ≡ 0 → uses_at uses ends k ≡ []
uses_at_none uses ends k none = rw (nil_from_length uses none) (take_none (slice_index ends k - start_at ends k) (start_at ends k))

-- where there is none, none are listed
pub no_ends : (count : ℕ) → AreEnds count [] []
no_ends count = record {
  none = λ no. refl;
  each = λ some. absurd (omega arith);
  rising = λ k within. absurd (omega arith);
  within = λ k within. absurd (omega arith);
  last = refl;
}

-- a run without a use ends where it starts
uses_at_empty : (uses : List LockUse) (ends : List ℕ) (k : ℕ) → start_at ends k ≤ slice_index ends k → slice_index ends k ≤ length uses
    → uses_at uses ends k ≡ [] → slice_index ends k ≡ start_at ends k
uses_at_empty uses ends k rising within none =
    let long : length (take (slice_index ends k - start_at ends k) (drop (start_at ends k) uses)) ≡ slice_index ends k - start_at ends k
    = length-take-le (slice_index ends k - start_at ends k) (drop (start_at ends k) uses) (omega (arith, length-drop (start_at ends k) uses)) in
    omega (arith, ap length none)

module _ (affinities : List (Option AffinityId)) (uses : List LockUse) (ends : List ℕ) where
  -- what the message at this place holds
  abbrev pub held_at : ℕ → Held
  held_at k = record { affinity = option_map (λ (a : AffinityId). a.0) (get_or affinities k None); uses = uses_at uses ends k }

  pub helds_count : length (helds_of affinities uses ends) ≡ length affinities
  helds_count = length-map-range_with_len held_at 0 (length affinities)

  pub helds_at : (k : ℕ) (d : Held) → k < length affinities → get_or (helds_of affinities uses ends) k d ≡ held_at k
  helds_at k d within = get_or-map-range_with_len held_at 0 (length affinities) k k d within (omega arith)

  -- the numbers of the affinities
  pub helds_numbers : (none : ℕ) → map (number_or none) (helds_of affinities uses ends)
      ≡ map (λ (o : Option AffinityId). unwrap_or (option_map (λ a. a.0) o) none) affinities
  helds_numbers none =
      same_lists (map (number_or none) (helds_of affinities uses ends)) (map (λ (o : Option AffinityId). unwrap_or (option_map (λ a. a.0) o) none) affinities)
      (length-map (helds_of affinities uses ends) (number_or none) ∙ helds_count ∙ sym (length-map affinities (λ (o : Option AffinityId). unwrap_or (option_map (λ a. a.0) o) none)))
      (λ k d within.
      let short : k < length affinities = omega (arith, length-map (helds_of affinities uses ends) (number_or none), helds_count) in
      get_or-map (number_or none) (helds_of affinities uses ends) k nothing d (omega (arith, helds_count))
      ∙ ap (number_or none) (helds_at k nothing short)
      ∙ sym (get_or-map (λ (o : Option AffinityId). unwrap_or (option_map (λ a. a.0) o) none) affinities k None d short))

  -- where there are no uses no lock is used
  pub unlocked_without_uses : length uses ≡ 0 → AreUnlocked (helds_of affinities uses ends)
  unlocked_without_uses none k d within =
      ap (λ (h : Held). h.uses) (helds_at k d (omega (arith, helds_count))) ∙ uses_at_none uses ends k none

  -- where no lock is used all runs start at 0
  starts_without_uses : AreEnds (length affinities) uses ends → AreUnlocked (helds_of affinities uses ends) → (k : ℕ) → k ≤ length ends → start_at ends k ≡ 0
  starts_without_uses are unlocked zero within = refl
  starts_without_uses are unlocked (suc k) within =
      let before : start_at ends k ≡ 0 = starts_without_uses are unlocked k (omega arith) in
      let short : k < length affinities = omega (arith, are.each) in
      let none : uses_at uses ends k ≡ [] = ap (λ (h : Held). h.uses) (sym (helds_at k nothing short)) ∙ unlocked k nothing (omega (arith, helds_count)) in
      uses_at_empty uses ends k (are.rising k (omega arith)) (are.within k (omega arith)) none ∙ before

  pub no_uses_below : (count : ℕ) → length uses ≡ 0 → AreLocksBelow count (helds_of affinities uses ends)
  no_uses_below count none k d within n u inside =
      absurd (omega (arith, ap length (unlocked_without_uses none k d within)))

  pub no_uses_unlocked : AreEnds (length affinities) uses ends → AreUnlocked (helds_of affinities uses ends) → length uses ≡ 0
  no_uses_unlocked are unlocked = sym are.last ∙ starts_without_uses are unlocked (length ends) (omega arith)

abbrev mk_held : Option ℕ → List LockUse → Held
mk_held affinity uses = record { affinity = affinity; uses = uses }

-- what is held where affinity and uses are these
held_same : (affinities : List (Option AffinityId)) (uses : List LockUse) (ends : List ℕ) (k : ℕ) (affinity : Option AffinityId) (run : List LockUse)
    → get_or affinities k None ≡ affinity → uses_at uses ends k ≡ run
    → held_at affinities uses ends k ≡ record { affinity = option_map (λ (a : AffinityId). a.0) affinity; uses = run }
held_same affinities uses ends k affinity run is_affinity is_run =
    ap₂ (λ (o : Option AffinityId) us. mk_held (option_map (λ (a : AffinityId). a.0) o) us) is_affinity is_run

-- the first so many, and the next, which holds this
pub helds_next : (affinities : List (Option AffinityId)) (uses : List LockUse) (ends : List ℕ) (k : ℕ) (affinity : Option AffinityId) (run : List LockUse)
    → k < length affinities → get_or affinities k None ≡ affinity → uses_at uses ends k ≡ run
    → take (k + 1) (helds_of affinities uses ends)
    ≡ take k (helds_of affinities uses ends) ++ record { affinity = option_map (λ (a : AffinityId). a.0) affinity; uses = run } ∷ []
helds_next affinities uses ends k affinity run within is_affinity is_run =
    let helds = helds_of affinities uses ends in
    let here = helds_at affinities uses ends k nothing within ∙ held_same affinities uses ends k affinity run is_affinity is_run in
    take_more helds k nothing (omega (arith, helds_count affinities uses ends)) ∙ ap (λ h. take k helds ++ h ∷ []) here

-- one message more, with these uses
module _ (affinities : List (Option AffinityId)) (uses more : List LockUse) (ends : List ℕ) (affinity : Option AffinityId) (end : ℕ) where
  start_at_push : (k : ℕ) → k ≤ length ends → start_at (ends ++ end ∷ []) k ≡ start_at ends k
  start_at_push zero within = refl
  start_at_push (suc k) within = get_or_append_left ends (end ∷ []) 0 k (omega arith)

  -- a run of the uses so far is one of all
  uses_at_push : (k : ℕ) → k < length ends → start_at ends k ≤ slice_index ends k → slice_index ends k ≤ length uses
      → uses_at (uses ++ more) (ends ++ end ∷ []) k ≡ uses_at uses ends k
  uses_at_push k within rising inside =
      let from = start_at ends k in
      let to = slice_index ends k in
      let short : to - from ≤ length (drop from uses) = omega (arith, length-drop from uses) in
      rw (start_at_push k (omega arith), get_or_append_left ends (end ∷ []) 0 k within, drop-append-le from uses more (omega arith))
      (take-append-le (to - from) (drop from uses) more short)

  -- the last run has the new uses
  uses_at_pushed : (k : ℕ) → k ≡ length ends → start_at ends k ≡ length uses → end ≡ length uses + length more
      → uses_at (uses ++ more) (ends ++ end ∷ []) k ≡ more
  uses_at_pushed k here start is =
      let long : length uses + length more - length uses ≡ length more = omega arith in
      rw (start_at_push k (omega arith), get_or_push ends end 0 k (sym here), start, is, long, drop_at uses more (length uses) refl)
      (take_all (length more) more (omega arith))

  pub ends_push : (n : ℕ) → length ends ≡ n → end ≡ length (uses ++ more) → AreEnds n uses ends → AreEnds (n + 1) (uses ++ more) (ends ++ end ∷ [])
  ends_push n many is are =
      let longer : length (ends ++ end ∷ []) ≡ length ends + 1 = length_push ends end in
      let sum : length (uses ++ more) ≡ length uses + length more = length-append uses more in
      record {
        none = λ no. absurd (omega arith);
        each = λ some. omega arith;
        rising = λ k within. elim (cases_eq k (length ends)) [
          | inl here ↦
              let start : start_at ends k ≡ length uses = ap (start_at ends) here ∙ are.last in
              rw (start_at_push k (omega arith), get_or_push ends end 0 k (sym here)) (omega arith)
          | inr other ↦
              rw (start_at_push k (omega arith), get_or_append_left ends (end ∷ []) 0 k (omega arith)) (are.rising k (omega arith))
        ];
        within = λ k within. elim (cases_eq k (length ends)) [
          | inl here ↦ rw (get_or_push ends end 0 k (sym here)) (omega arith)
          | inr other ↦
              let low : slice_index ends k ≤ length uses = are.within k (omega arith) in
              rw (get_or_append_left ends (end ∷ []) 0 k (omega arith)) (omega arith)
        ];
        last =
            let at_end : start_at (ends ++ end ∷ []) (suc (length ends)) ≡ end = get_or_push ends end 0 (length ends) refl in
            let same : length (ends ++ end ∷ []) ≡ suc (length ends) = omega arith in
            ap (start_at (ends ++ end ∷ [])) same ∙ at_end ∙ is;
      }

  pub helds_push : length ends ≡ length affinities → end ≡ length (uses ++ more) → AreEnds (length affinities) uses ends
      → helds_of (affinities ++ affinity ∷ []) (uses ++ more) (ends ++ end ∷ [])
      ≡ helds_of affinities uses ends ++ record { affinity = option_map (λ (a : AffinityId). a.0) affinity; uses = more } ∷ []
  helds_push many is are =
      let new : Held = record { affinity = option_map (λ (a : AffinityId). a.0) affinity; uses = more } in
      let all = affinities ++ affinity ∷ [] in
      let longer : length all ≡ length affinities + 1 = length_push affinities affinity in
      let count : length (helds_of all (uses ++ more) (ends ++ end ∷ [])) ≡ length all = helds_count all (uses ++ more) (ends ++ end ∷ []) in
      let before : length (helds_of affinities uses ends) ≡ length affinities = helds_count affinities uses ends in
      let sum : length (uses ++ more) ≡ length uses + length more = length-append uses more in
      same_lists (helds_of all (uses ++ more) (ends ++ end ∷ [])) (helds_of affinities uses ends ++ new ∷ [])
      (omega (arith, length_push (helds_of affinities uses ends) new))
      (λ k d within. helds_at all (uses ++ more) (ends ++ end ∷ []) k d (omega arith) ∙ elim (cases_eq k (length affinities)) [
        | inl here ↦
            let last : get_or all k None ≡ affinity = get_or_push affinities affinity None k (sym here) in
            let run : uses_at (uses ++ more) (ends ++ end ∷ []) k ≡ more
            = uses_at_pushed k (here ∙ sym many) (ap (start_at ends) (here ∙ sym many) ∙ are.last) (is ∙ sum) in
            held_same all (uses ++ more) (ends ++ end ∷ []) k affinity more last run
            ∙ sym (get_or_push (helds_of affinities uses ends) new d k (before ∙ sym here))
        | inr other ↦
            let short : k < length affinities = omega arith in
            let old : get_or all k None ≡ get_or affinities k None = get_or_append_left affinities (affinity ∷ []) None k short in
            let run : uses_at (uses ++ more) (ends ++ end ∷ []) k ≡ uses_at uses ends k
            = uses_at_push k (omega arith) (are.rising k (omega arith)) (are.within k (omega arith)) in
            held_same all (uses ++ more) (ends ++ end ∷ []) k (get_or affinities k None) (uses_at uses ends k) old run
            ∙ sym (helds_at affinities uses ends k d short)
            ∙ sym (get_or_append_left (helds_of affinities uses ends) (new ∷ []) d k (omega arith))
      ])
