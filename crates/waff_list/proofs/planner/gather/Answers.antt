use Rattle.std.proofs.Common.{◌≡◌, ℕ, List, inl, inr, [], ◌∷◌, Contains, ap, arith, subst, sym}
use Rattle.std.specs.List.Sorted.{IsPermutation}
use Rattle.std.proofs.lemmas.List.{length-append}
use Rattle.std.proofs.lemmas.List.Elements.{All-contains, All-tail}
use Rattle.std.proofs.lemmas.List.Sorted.{All-permutation, Contains-permutation, IsPermutation-map, IsPermutation-sym, IsPermutation-refl, length_permutation}
use Rattle.waff_waits.specs.Ready.{AreRanked, LeavesTaker, ranked_in}
use Rattle.waff_list.specs.Ready.{IsTakenNoLater}
use Rattle.waff_list.proofs.Filling.{parted_more}
use Rattle.waff_waits.proofs.Each.{contains_first, contains_mapped, contains_more, none_there, one_of}
use Rattle.waff_list.proofs.planner.gather.Goals as goal

-- those that are left are kept with their priorities and issues
ranked_rest : (priority issue : ℕ → ℕ) (old new : List (ℕ × (ℕ × ℕ))) (r : ℕ × (ℕ × ℕ)) → IsPermutation old (r ∷ new) → AreRanked priority issue old → AreRanked priority issue new
ranked_rest priority issue old new r rest are =
    let Ranked : ℕ × (ℕ × ℕ) → Type 0 = λ (s : ℕ × (ℕ × ℕ)). (s.0 ≡ priority s.1.1) × (s.1.0 ≡ issue s.1.1) in
    All-tail Ranked r new (All-permutation Ranked old (r ∷ new) rest are)

-- and the one that leaves is taken no later than each of them
taken_no_later : (priority issue : ℕ → ℕ) (old new : List (ℕ × (ℕ × ℕ))) (r : ℕ × (ℕ × ℕ)) → LeavesTaker old r new → AreRanked priority issue old → (other : ℕ)
    → Contains (ranked_in new) other → IsTakenNoLater priority issue r.1.1 other
taken_no_later priority issue old new r leaves are other there =
    let Ranked : ℕ × (ℕ × ℕ) → Type 0 = λ (s : ℕ × (ℕ × ℕ)). (s.0 ≡ priority s.1.1) × (s.1.0 ≡ issue s.1.1) in
    let all = All-permutation Ranked old (r ∷ new) leaves.rest are in
    let one = contains_mapped (λ (s : ℕ × (ℕ × ℕ)). s.1.1) new other there in
    let s = one.0 in
    let mine = All-contains Ranked (r ∷ new) r all (contains_first r new) in
    let its = All-contains Ranked new s (All-tail Ranked r new all) one.1 in
    let same_priority = ap priority one.2 in
    let same_issue = ap issue one.2 in
    elim (leaves.first s one.1) [
      | inl lower ↦ inl (omega (arith, lower, mine.0, its.0, same_priority))
      | inr (level, inl sooner) ↦ inr (omega (arith, level, mine.0, its.0, same_priority), inl (omega (arith, sooner, mine.1, its.1, same_issue)))
      | inr (level, inr both) ↦ inr (omega (arith, level, mine.0, its.0, same_priority), inr (omega (arith, both.0, mine.1, its.1, same_issue), omega (arith, both.1, one.2)))
    ]

pub loop-ready-init : goal.loop-ready-init
loop-ready-init c = rw c.requires (record { parted = IsPermutation-refl (ranked_in c.args.ready.now); within = omega arith; ranked = λ priority issue h. h; first = λ priority issue h m other there. absurd (none_there m there) })

pub loop-ready-smaller : goal.loop-ready-smaller
loop-ready-smaller c = omega (arith, length_permutation _ _ c.in-Some.ensures.rest)

pub loop-ready-preserved : goal.loop-ready-preserved
loop-ready-preserved c =
    let h = c.loop-ready.invariant in
    let m = c.in-Some.m in
    let old = c.loop-ready.started.items in
    let rest = c.in-Some.ensures.rest in
    rw c.in_ok-push-in-Some.ensures.items (record {
      parted = parted_more _ old _ m (ranked_in c.pop.new.self) h.parted (IsPermutation-map (λ (r : ℕ × (ℕ × ℕ)). r.1.1) _ _ rest);
      within = omega (arith, length-append old (m ∷ []), c.loop-ready-test.true, c.len.ensures);
      ranked = λ priority issue are. ranked_rest priority issue c.loop-ready.ready c.pop.new.self _ rest (h.ranked priority issue are);
      first = λ priority issue are x other there behind. elim (one_of old m x there) [
        | inl before ↦ h.first priority issue are x other before (Contains-permutation (m ∷ ranked_in c.pop.new.self) (ranked_in c.loop-ready.ready) other
            (IsPermutation-sym (ranked_in c.loop-ready.ready) (m ∷ ranked_in c.pop.new.self) (IsPermutation-map (λ (r : ℕ × (ℕ × ℕ)). r.1.1) _ _ rest)) (contains_more m other (ranked_in c.pop.new.self) behind))
        | inr same ↦ subst (λ y. IsTakenNoLater priority issue y other) (sym same) (taken_no_later priority issue c.loop-ready.ready c.pop.new.self _ c.in-Some.ensures (h.ranked priority issue are) other behind)
      ];
    })
