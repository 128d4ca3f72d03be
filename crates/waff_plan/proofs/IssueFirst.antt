-- The messages that await none, one message after another.
use Rattle.std.proofs.Common.{◌≡◌, ℕ, ◌-◌, ◌≤◌, ◌⊎◌, inl, inr, zero, suc, List, [], ◌∷◌, Contains, Option, cond, count_by, ◌==◌, arith, refl, sym, ◌∙◌, ap, subst}
use Rattle.std.specs.List.Sorted.{IsPermutation}
use Rattle.std.proofs.lemmas.Bool.{cases_eq}
use Rattle.std.proofs.lemmas.List.Sorted.{Contains-permutation, IsPermutation-sym, sum_by-IsPermutation}
use Rattle.std.proofs.lemmas.List.Sums.{sum_by-cons}
use Rattle.waff_waits.specs.Times.{times}
use Rattle.waff_waits.proofs.Each.{contains_map, contains_mapped}
use Rattle.waff_waits.proofs.TimesLemmas.{times_some}
use Rattle.waff_plan.specs.Awaiting.{IsOpen}
use Rattle.waff_plan.specs.Work.{Await, Work, IsAwaited, IsNumber, IsAmongFirst, finish_of, issue_of, issue_after}
use Rattle.waff_plan.specs.Order.{Key}
use Rattle.waff_plan.specs.Pending.{Issue, AreFirst}
use Rattle.waff_plan.proofs.FollowLemmas.{none_awaited}
use Rattle.waff_plan.proofs.IssueSteps.{AreOnce, AreTaken, ArePending, once_put, those}
use Rattle.waff_model.specs.Tree.{Node}
use Rattle.waff_assign.specs.Held.{Held}

-- those of the first n messages that await none
pub record AreFirstUpTo (work : Work) (n : ℕ) (first : List Issue) : Type 0 where
  pub number : (x : Issue) → Contains first x → IsAmongFirst n x.1
  pub issue : (x : Issue) → Contains first x → x.0 ≡ work.floor x.1
  pub alone : (x : Issue) → Contains first x → work.awaits x.1 ≡ []
  pub all : (m : ℕ) → IsAmongFirst n m → work.awaits m ≡ [] → Contains first (work.floor m, m)
  pub once : AreOnce first

pub first_none : (work : Work) → AreFirstUpTo work 0 []
first_none work = record {
  number = λ x there. absurd (omega (arith, there.1));
  issue = λ x there. absurd (omega (arith, there.1));
  alone = λ x there. absurd (omega (arith, there.1));
  all = λ m among none. absurd (omega (arith, among.from, among.to));
  once = λ m. omega arith;
}

-- what is in a list with one more is that one, or in the list
pub put_cases : (x : Issue) (old new : List Issue) → IsPermutation (x ∷ old) new → (y : Issue) → Contains new y → (x ≡ y) ⊎ Contains old y
put_cases x old new put y there = cases (Contains-permutation new (x ∷ old) y (IsPermutation-sym (x ∷ old) new put) there)
  where
    cases : Contains (x ∷ old) y → (x ≡ y) ⊎ Contains old y
    cases (zero, within, at) = inl at
    cases (suc k, within, at) = inr (k, omega (arith, within), at)

pub put_new : (x : Issue) (old new : List Issue) → IsPermutation (x ∷ old) new → Contains new x
put_new x old new put = Contains-permutation (x ∷ old) new x put (0, omega arith, refl)

pub put_old : (x : Issue) (old new : List Issue) → IsPermutation (x ∷ old) new → (y : Issue) → Contains old y → Contains new y
put_old x old new put y there = Contains-permutation (x ∷ old) new y put (suc there.0, omega (arith, there.1), there.2)

module _ (work : Work) (m : ℕ) (from : 1 ≤ m) (old : List Issue) (are : AreFirstUpTo work (m - 1) old) where
  -- one more message, which awaits another
  pub first_same : (i : ℕ) → IsAwaited (work.awaits m) i → AreFirstUpTo work m old
  first_same i awaited = record {
    number = λ x there. let number = are.number x there in record { from = number.from; to = omega (arith, number.to) };
    issue = are.issue;
    alone = are.alone;
    all = λ n among none. elim (cases_eq n m) [
      | inl here ↦ absurd (none_awaited (work.awaits m) i (ap work.awaits (sym here) ∙ none) awaited)
      | inr other ↦ are.all n (record { from = among.from; to = omega (arith, among.to, other) }) none
    ];
    once = are.once;
  }

  -- one more message, which awaits none
  pub first_put : (new : List Issue) (release : ℕ) → release ≡ work.floor m → work.awaits m ≡ [] → IsPermutation ((release, m) ∷ old) new
      → AreFirstUpTo work m new
  first_put new release is none put =
      let x : Issue = (release, m) in
      record {
        number = λ y there. elim (put_cases x old new put y there) [
          | inl here ↦ subst (λ (z : Issue). IsAmongFirst m z.1) here (record { from = from; to = omega arith })
          | inr old_y ↦ let number = are.number y old_y in record { from = number.from; to = omega (arith, number.to) }
        ];
        issue = λ y there. elim (put_cases x old new put y there) [
          | inl here ↦ subst (λ (z : Issue). z.0 ≡ work.floor z.1) here is
          | inr old_y ↦ are.issue y old_y
        ];
        alone = λ y there. elim (put_cases x old new put y there) [
          | inl here ↦ subst (λ (z : Issue). work.awaits z.1 ≡ []) here none
          | inr old_y ↦ are.alone y old_y
        ];
        all = λ n among alone. elim (cases_eq n m) [
          | inl here ↦
              let same : x ≡ (work.floor n, n) = ap (λ r. (r, m)) is ∙ ap (λ k. (work.floor k, k)) (sym here) in
              subst (Contains new) same (put_new x old new put)
          | inr other ↦
              put_old x old new put (work.floor n, n)
              (are.all n (record { from = among.from; to = omega (arith, among.to, other) }) alone)
        ];
        once = once_put old new x put are.once (λ y there same. omega (arith, (are.number y there).to, same, from));
      }

-- the same in another order
pub first_moved : (work : Work) (n : ℕ) (old new : List Issue) → IsPermutation old new → AreFirstUpTo work n old → AreFirstUpTo work n new
first_moved work n old new moved are =
    let back = IsPermutation-sym old new moved in
    record {
      number = λ x there. are.number x (Contains-permutation new old x back there);
      issue = λ x there. are.issue x (Contains-permutation new old x back there);
      alone = λ x there. are.alone x (Contains-permutation new old x back there);
      all = λ m among none. Contains-permutation old new (work.floor m, m) moved (are.all m among none);
      once = λ m. omega (arith, are.once m, sum_by-IsPermutation (λ (x : Issue). cond (x.1 == m) 1 0) old new moved);
    }

-- what awaits none is issued at its floor
issue_at_release : (work : Work) (start : ℕ → ℕ) (m : ℕ) → work.awaits m ≡ [] → issue_of work start m ≡ work.floor m
issue_at_release work start m none = ap (issue_after (finish_of work start) (work.floor m)) none

-- all messages that await none
pub first_all : (work : Work) (n : ℕ) (first : List Issue) → n ≡ work.count → AreFirstUpTo work n first → AreFirst work (issue_of work) first
first_all work n first is are = record {
  number = λ x there. let number = are.number x there in record { from = number.from; to = omega (arith, number.to, is) };
  key_is = λ start x there. are.issue x there ∙ sym (issue_at_release work start x.1 (are.alone x there));
  alone = are.alone;
  all = λ start m number none.
      subst (λ e. Contains first (e, m)) (sym (issue_at_release work start m none)) (are.all m (record { from = number.from; to = omega (arith, number.to, is) }) none);
  once = are.once;
}

-- at first none is taken, and those that await none are pending
pub taken_none : (tree : List Node) (assigned : List Held) (work : Work) (key : Key) (start : ℕ → ℕ) (links : List (Option ℕ)) → AreTaken tree assigned work key start [] links
taken_none tree assigned work key start links = record {
  number = λ m there. absurd (omega (arith, there.1));
  closed = λ i m awaited there. absurd (omega (arith, there.1));
  at_once = λ m there. absurd (omega (arith, there.1));
}

-- how often a message is among those of a list
times_those : (m : ℕ) (pending : List Issue) → times m (those pending) ≡ count_by (λ (x : Issue). x.1 == m) pending
times_those m [] = refl
times_those m (x ∷ xs) =
    omega (
      arith,
      times_those m xs,
      sum_by-cons (λ (n : ℕ). cond (n == m) 1 0) x.1 (those xs),
      sum_by-cons (λ (y : Issue). cond (y.1 == m) 1 0) x xs,
    )

pub pending_first : (work : Work) (key : Key) (start : ℕ → ℕ) (first : List Issue) → AreFirst work key first → ArePending work key start [] first
pending_first work key start first are = record {
  each = record {
    only = λ m there.
        let found = contains_mapped (λ (x : Issue). x.1) first m there in (
          subst (IsNumber work) found.2 (are.number found.0 found.1),
          λ i awaited. absurd (none_awaited (work.awaits m) i (ap work.awaits (sym found.2) ∙ are.alone found.0 found.1) awaited),
        );
    each = λ m due.
        let there = due_first m due.0 due.1 (work.awaits m) refl in
        let some = times_some m (those first) (contains_map (λ (x : Issue). x.1) first (key start m, m) there) in
        omega (arith, some, times_those m first, are.once m);
  };
  issue = are.key_is start;
  later = λ x i there at. absurd (omega (arith, at.1));
}
  where
    due_first : (m : ℕ) → IsNumber work m → IsOpen work [] m → (awaits : List Await) → work.awaits m ≡ awaits → Contains first (key start m, m)
    due_first m number after [] none = are.all start m number none
    due_first m number after (a ∷ rest) is =
        let there = after a.message (subst (λ x. IsAwaited x a.message) (sym is) (inl refl)) in absurd (omega (arith, there.1))
