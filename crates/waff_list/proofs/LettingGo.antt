-- Those that wait for a message that has finished are let go, one after another, and are kept by their ranks.
use Rattle.std.proofs.Common.{◌≡◌, ℕ, ◌-◌, inl, inr, List, [], ◌∷◌, ◌++◌, length, get_or, set, Contains, arith, refl, ap, sym, ◌∙◌, subst, get_or-set_same, get_or-set_other}
use Rattle.std.specs.List.Sorted.{IsPermutation}
use Rattle.std.proofs.lemmas.Bool.{cases_eq}
use Rattle.std.proofs.lemmas.List.Elements.{All-cons}
use Rattle.std.proofs.lemmas.List.Sorted.{All-permutation, IsPermutation-map}
use Rattle.waff_model.specs.Numbers.{IsAmongFirst}
use Rattle.waff_waits.specs.Ready.{AreRanked, ranked_in}
use Rattle.waff_waits.specs.Times.{AreEach}
use Rattle.waff_waits.specs.Waits.{IsFree, LetsGo, WaitsForNone, WhoWaits, waiting_for}
use Rattle.waff_waits.proofs.Each.{none_there}
use Rattle.waff_waits.proofs.LettingGo.{IsGoing, going_free}
use Rattle.waff_list.specs.Issuing.{after_start}

-- one that waits for nothing more is ready
pub going_ranked : (first now new : WhoWaits) (m d : ℕ) (rest : List ℕ) → IsAmongFirst (length first.awaited) m → IsGoing first m rest now → LetsGo now m d new
    → (issued order : List ℕ) (ranks : List (ℕ × (ℕ × ℕ))) → Contains issued d → AreEach (IsFree issued now) (order ++ ranked_in ranks)
    → (after : List (ℕ × (ℕ × ℕ))) (rank : ℕ × (ℕ × ℕ)) → rank.1.1 ≡ d → IsPermutation (rank ∷ ranks) after → WaitsForNone new d → AreEach (IsFree issued new) (order ++ ranked_in after)
going_ranked first now new m d rest number h goes issued order ranks there each after rank is pushed none =
    let moved = IsPermutation-map (λ (r : ℕ × (ℕ × ℕ)). r.1.1) (rank ∷ ranks) after pushed in
    going_free first now new m d rest number h goes issued order (ranked_in ranks) there each (ranked_in after)
    (subst (λ x. IsPermutation (x ∷ ranked_in ranks) (ranked_in after)) is moved) none

-- a message that is ready is kept with its priority and its key
pub ranked_more : (priority key : ℕ → ℕ) (m : ℕ) (ranks after : List (ℕ × (ℕ × ℕ))) → IsPermutation ((priority m, (key m, m)) ∷ ranks) after → AreRanked priority key ranks → AreRanked priority key after
ranked_more priority key m ranks after pushed are =
    let Ranked = λ (r : ℕ × (ℕ × ℕ)). (r.0 ≡ priority r.1.1) × (r.1.0 ≡ key r.1.1) in
    All-permutation Ranked ((priority m, (key m, m)) ∷ ranks) after pushed (All-cons Ranked (priority m, (key m, m)) ranks (refl, refl) are)

-- one that waits for nothing while they are let go waits for nothing when all have been
pub going_none : (first now : WhoWaits) (m d : ℕ) (rest : List ℕ) → IsAmongFirst (length first.awaited) m → IsGoing first m rest now → WaitsForNone now d → WaitsForNone (after_start first m) d
going_none first now m d rest number h none i there = elim (cases_eq (i - 1) (m - 1)) [
  | inl same ↦
      let empty = ap (λ k. get_or (set first.awaited (m - 1) []) k []) same ∙ get_or-set_same first.awaited (m - 1) [] [] (omega (arith, number.from, number.to)) in
      absurd (none_there d (subst (λ xs. Contains xs d) empty there))
  | inr other ↦
      let same = get_or-set_other first.awaited (m - 1) (i - 1) [] [] other ∙ sym (get_or-set_other first.awaited (m - 1) (i - 1) rest [] other) in
      none i (subst (λ (u : WhoWaits). Contains (waiting_for u i) d) (sym h.0) (subst (λ xs. Contains xs d) same there))
]

-- one that did not wait for it, and waits for nothing when all have been let go, waited for nothing
pub none_before : (w : WhoWaits) (m d : ℕ) → (Contains (waiting_for w m) d → ⊥) → WaitsForNone (after_start w m) d → WaitsForNone w d
none_before w m d other none i there = elim (cases_eq (i - 1) (m - 1)) [
  | inl same ↦ other (subst (λ k. Contains (get_or w.awaited k []) d) same there)
  | inr apart ↦ none i (subst (λ xs. Contains xs d) (sym (get_or-set_other w.awaited (m - 1) (i - 1) [] [] apart)) there)
]
