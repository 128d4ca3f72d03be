-- The messages that await none, one message after another.
use Rattle.std.proofs.Common.{◌≡◌, ℕ, ◌-◌, ◌≤◌, inl, inr, List, [], ◌∷◌, map, Contains, sym, ◌∙◌, ap, subst, arith}
use Rattle.std.specs.List.Sorted.{IsPermutation}
use Rattle.std.proofs.lemmas.Bool.{cases_eq}
use Rattle.std.proofs.lemmas.List.Sorted.{Contains-permutation, IsPermutation-map, IsPermutation-sym}
use Rattle.waff_waits.specs.Times.{times}
use Rattle.waff_waits.proofs.Each.{contains_mapped}
use Rattle.waff_waits.proofs.TimesLemmas.{times_cons_other, times_cons_same, times_none}
use Rattle.waff_plan.specs.Work.{Work, IsAwaited}
use Rattle.waff_plan.proofs.FollowLemmas.{none_awaited}
use Rattle.waff_line.specs.Lined.{AreFirstDue}
use Rattle.waff_line.proofs.Lining.{contains_first, contains_more, contains_rest_of, times_moved}

abbrev name : ℕ × ℕ → ℕ
name r = r.1

pub due_none : (work : Work) → AreFirstDue work 0 []
due_none work = record {
  number = λ r there. let within = there.1 in absurd (omega (arith, within));
  floor = λ r there. let within = there.1 in absurd (omega (arith, within));
  alone = λ r there. let within = there.1 in absurd (omega (arith, within));
  all = λ m number none. let from = number.from in let to = number.to in absurd (omega (arith, from, to));
  once = λ m. omega arith;
}

module _ (work : Work) (m : ℕ) (from : 1 ≤ m) (old : List (ℕ × ℕ)) (are : AreFirstDue work (m - 1) old) where
  -- one more message, which awaits another
  pub due_same : (f : ℕ) → IsAwaited (work.awaits m) f → AreFirstDue work m old
  due_same f awaited = record {
    number = λ r there. let number = are.number r there in let to = number.to in record { from = number.from; to = omega (arith, to) };
    floor = are.floor;
    alone = are.alone;
    all = λ n number none. elim (cases_eq n m) [
      | inl here ↦ absurd (none_awaited (work.awaits m) f (sym (ap work.awaits here) ∙ none) awaited)
      | inr other ↦ let to = number.to in are.all n (record { from = number.from; to = omega (arith, to, other) }) none
    ];
    once = are.once;
  }

  -- one more message, which awaits none
  pub due_put : (new : List (ℕ × ℕ)) (floor : ℕ) → floor ≡ work.floor m → work.awaits m ≡ [] → IsPermutation ((floor, m) ∷ old) new
      → AreFirstDue work m new
  due_put new floor is none put =
      let one : ℕ × ℕ = (floor, m) in
      let back = λ (r : ℕ × ℕ) (there : Contains new r).
      contains_rest_of one r old (Contains-permutation new (one ∷ old) r (IsPermutation-sym (one ∷ old) new put) there) in
      record {
        number = λ r there. elim (back r there) [
          | inl was ↦ let number = are.number r was in let to = number.to in record { from = number.from; to = omega (arith, to) }
          | inr here ↦ let same = ap (λ (x : ℕ × ℕ). x.1) here in record { from = omega (arith, same, from); to = omega (arith, same) }
        ];
        floor = λ r there. elim (back r there) [
          | inl was ↦ are.floor r was
          | inr here ↦ ap (λ (x : ℕ × ℕ). x.0) here ∙ is ∙ ap (λ (x : ℕ × ℕ). work.floor x.1) (sym here)
        ];
        alone = λ r there. elim (back r there) [
          | inl was ↦ are.alone r was
          | inr here ↦ ap (λ (x : ℕ × ℕ). work.awaits x.1) here ∙ none
        ];
        all = λ n number alone. elim (cases_eq n m) [
          | inl here ↦
              let same : one ≡ (work.floor n, n) = ap (λ f. (f, m)) is ∙ ap (λ k. (work.floor k, k)) (sym here) in
              subst (λ (r : ℕ × ℕ). Contains new r) same (Contains-permutation (one ∷ old) new one put (contains_first one old))
          | inr other ↦
              let to = number.to in
              Contains-permutation (one ∷ old) new (work.floor n, n) put
              (contains_more one (work.floor n, n) old (are.all n (record { from = number.from; to = omega (arith, to, other) }) alone))
        ];
        once = λ n.
            let moved = times_moved n (map name (one ∷ old)) (map name new) (IsPermutation-map name (one ∷ old) new put) in
            elim (cases_eq n m) [
              | inl here ↦
                  let none_yet = times_none m (map name old) (λ there.
                  let r = contains_mapped name old m there in
                  let number = are.number r.0 r.1 in
                  omega (arith, number.from, number.to, r.2)) in
                  subst (λ k. times k (map name new) ≤ 1) (sym here)
                  (omega (arith, subst (λ k. times k (map name new) ≡ times k (map name (one ∷ old))) here moved, times_cons_same (map name old) m, none_yet))
              | inr other ↦ omega (arith, moved, times_cons_other {m = m} (map name old) n other, are.once n)
            ];
      }

-- the same in another order
pub due_moved : (work : Work) (n : ℕ) (old new : List (ℕ × ℕ)) → IsPermutation old new → AreFirstDue work n old → AreFirstDue work n new
due_moved work n old new moved are =
    let back = IsPermutation-sym old new moved in
    record {
      number = λ r there. are.number r (Contains-permutation new old r back there);
      floor = λ r there. are.floor r (Contains-permutation new old r back there);
      alone = λ r there. are.alone r (Contains-permutation new old r back there);
      all = λ m number none. Contains-permutation old new (work.floor m, m) moved (are.all m number none);
      once = λ m. omega (arith, times_moved m (map name old) (map name new) (IsPermutation-map name old new moved), are.once m);
    }
