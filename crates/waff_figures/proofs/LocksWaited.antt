-- The locks by which messages wait for one another.
use Rattle.std.proofs.Common.{◌≡◌, ℕ, ◌+◌, ◌-◌, ◌<◌, ◌≤◌, List, [], ◌∷◌, ◌++◌, All, Contains, IfSome, Option, None, Some, get_or, length, inl, inr, arith, refl, sym, ◌∙◌, ap, subst}
use Rattle.std.proofs.lemmas.Bool.{cases_lt}
use Rattle.std.proofs.lemmas.List.{get_or_append_left, length_push}
use Rattle.std.proofs.Math.Seq.{get_or-append_seam}
use Rattle.waff_model.specs.Tree.{Node}
use Rattle.waff_assign.specs.Held.{AreUnlocked, Contend, ExcludeByAffinities, Held, IsFirstOfContended}
use Rattle.waff_assign.specs.Order.{held_of}
use Rattle.waff_assign.specs.declared.held.LockUse.{LockUse}
use Rattle.waff_assign.proofs.Holding.{uses_none}
use Rattle.waff_plan.specs.Work.{IsAmongFirst}
use Rattle.waff_figures.specs.WaitLocks.{AreBy, IsBy, IsLockBetween}
use Rattle.waff_assign.proofs.Contentions.{first_is_one}

between_is_one : (tree : List Node) (one other : Held) (by also : Option ℕ) → IsLockBetween tree one other by → IsLockBetween tree one other also → by ≡ also
between_is_one tree one other None None p q = refl
between_is_one tree one other None (Some lock) (inl exclude) q = absurd (q.0 exclude)
between_is_one tree one other None (Some lock) (inr none) q = first_is_one one other None (Some lock) none q.1
between_is_one tree one other (Some lock) None p (inl exclude) = absurd (p.0 exclude)
between_is_one tree one other (Some lock) None p (inr none) = first_is_one one other (Some lock) None p.1 none
between_is_one tree one other (Some lock) (Some also) p q = first_is_one one other (Some lock) (Some also) p.1 q.1

-- for the same message that is waited for
same_by : (tree : List Node) (assigned : List Held) (m : ℕ) (on by also : Option ℕ) → IsBy tree assigned m on by → IsBy tree assigned m on also → by ≡ also
same_by tree assigned m None by also p q = p ∙ sym q
same_by tree assigned m (Some i) by also p q = between_is_one tree (held_of assigned i) (held_of assigned m) by also p q

pub by_is_one : (tree : List Node) (assigned : List Held) (m : ℕ) (on other by also : Option ℕ) → on ≡ other → IsBy tree assigned m on by
    → IsBy tree assigned m other also → by ≡ also
by_is_one tree assigned m on other by also same p q =
    same_by tree assigned m other by also (subst (λ o. IsBy tree assigned m o by) same p) q

-- where two don't exclude each other by their affinities the first lock for which they contend is between them
pub first_between : (tree : List Node) (one other : Held) (by : Option ℕ) → (ExcludeByAffinities tree one other → ⊥) → IsFirstOfContended one other by
    → IsLockBetween tree one other by
first_between tree one other None apart is = inr is
first_between tree one other (Some lock) apart is = (apart, is)

-- who uses no lock contends for none
use_of_none : (held : Held) (u : LockUse) → held.uses ≡ [] → Contains held.uses u → ⊥
use_of_none held u none (k, inside, is) = absurd (omega (arith, inside, ap length none))

contend_for_none : (one other : Held) (lock : ℕ) → one.uses ≡ [] → Contend one other lock → ⊥
contend_for_none one other lock none (inl ((u, has, is, alone), uses)) = use_of_none one u none has
contend_for_none one other lock none (inr ((u, has, is), uses)) = use_of_none one u none has

module _ (tree : List Node) (assigned : List Held) (waited : List (Option ℕ)) (many : length waited ≡ length assigned)
    (known : All (λ on. IfSome on (IsAmongFirst (length assigned))) waited) where
  none_by : AreUnlocked assigned → (m : ℕ) (link : Option ℕ) → IfSome link (IsAmongFirst (length assigned)) → IsBy tree assigned m link None
  none_by unlocked m None is = refl
  none_by unlocked m (Some i) is =
      inr (λ lock contend. contend_for_none (held_of assigned i) (held_of assigned m) lock (uses_none assigned i unlocked is.from is.to) contend)

  -- without locks none are listed
  pub none_listed : AreUnlocked assigned → (locks : List (Option ℕ)) → locks ≡ [] → AreBy tree assigned waited locks
  none_listed unlocked locks none m from to =
      let link = get_or waited (m - 1) None in
      let inside : m - 1 < length waited = omega (arith, from, to, many) in
      subst (λ ls. IsBy tree assigned m link (get_or ls (m - 1) None)) (sym none) (none_by unlocked m link (known (m - 1) None inside))

module _ (tree : List Node) (assigned : List Held) (waited : List (Option ℕ)) where
  -- the locks of the messages before n
  pub record AreBefore (n : ℕ) (locks : List (Option ℕ)) : Type 0 where
    pub count : length locks ≡ n - 1
    pub each : (m : ℕ) → 1 ≤ m → m < n → IsBy tree assigned m (get_or waited (m - 1) None) (get_or locks (m - 1) None)

  pub none_before : (locks : List (Option ℕ)) → locks ≡ [] → AreBefore 1 locks
  none_before locks none = record { count = ap length none; each = λ m from to. absurd (omega (arith, from, to)) }

  pub one_more : (n : ℕ) (locks more : List (Option ℕ)) (by : Option ℕ) → 1 ≤ n → AreBefore n locks → more ≡ locks ++ by ∷ []
      → IsBy tree assigned n (get_or waited (n - 1) None) by → AreBefore (n + 1) more
  one_more n locks more by first before pushed is =
      let at : (m : ℕ) (l : Option ℕ) → get_or (locks ++ by ∷ []) (m - 1) None ≡ l → IsBy tree assigned m (get_or waited (m - 1) None) l
      → IsBy tree assigned m (get_or waited (m - 1) None) (get_or more (m - 1) None)
      = λ m l read holds. subst (IsBy tree assigned m (get_or waited (m - 1) None)) (sym (ap (λ ls. get_or ls (m - 1) None) pushed ∙ read)) holds in
      record {
        count = let long : length (locks ++ by ∷ []) ≡ length locks + 1 = length_push locks by in omega (arith, ap length pushed, long, before.count, first);
        each = λ m from to. elim (cases_lt m n) [
          | inl early ↦
              at m (get_or locks (m - 1) None) (get_or_append_left locks (by ∷ []) None (m - 1) (omega (arith, early, from, before.count))) (before.each m from early)
          | inr late ↦
              let here : n ≡ m = omega (arith, late, to) in
              let seam : get_or (locks ++ by ∷ []) (n - 1) None ≡ by
              = ap (λ k. get_or (locks ++ by ∷ []) k None) (sym before.count) ∙ get_or-append_seam locks by [] None in
              subst (λ k. IsBy tree assigned k (get_or waited (k - 1) None) (get_or more (k - 1) None)) here (at n by seam is)
        ];
      }

  pub all_before : (n : ℕ) (locks : List (Option ℕ)) → length assigned < n → AreBefore n locks → AreBy tree assigned waited locks
  all_before n locks past before m from to = before.each m from (omega (arith, past, to))
