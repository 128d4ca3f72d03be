-- Uses of one lock in two lists by the numbers of the locks, as far as both are read.
use Rattle.std.proofs.Common.{◌≡◌, ◌≢◌, ◌⊎◌, ℕ, ◌+◌, ◌<◌, ◌≤◌, inl, inr, List, length, Contains, Option, Some, None, slice_get, is_some, true, refl, ap, sym, ◌∙◌, subst, arith}
use Rattle.std.proofs.lemmas.Bool.{cases_eq, false≢true}
use Rattle.std.proofs.lemmas.Option.{same_Some, slice_get-get_or}
use Rattle.waff_model.specs.Unique.{AtMostOne}
use Rattle.waff_assign.specs.Held.{Contend, Held, IsFirstOfContended, IsRising, UsesContend, using}
use Rattle.waff_assign.specs.declared.held.LockUse.{LockUse}

-- all uses that contend are still ahead
abbrev pub AreAhead : List LockUse → List LockUse → ℕ → ℕ → Type 0
AreAhead uses others at other =
    (p q : ℕ) (u v : LockUse) → slice_get uses p ≡ Some u → slice_get others q ≡ Some v → UsesContend u v → (at ≤ p) × (other ≤ q)

module _ (uses others : List LockUse) where
  -- what contends is one
  contend_from : (u v : LockUse) → Contains uses u → Contains others v → UsesContend u v → Contend (using uses) (using others) u.lock
  contend_from u v has has_other (same, inl alone) = inl ((u, has, refl, alone), (v, has_other, sym same))
  contend_from u v has has_other (same, inr alone) = inr ((u, has, refl), (v, has_other, sym same, alone))

  -- a step in the first list
  pub step_first : (at other : ℕ) (u v : LockUse) → IsRising others → slice_get uses at ≡ Some u → slice_get others other ≡ Some v
      → (UsesContend u v → ⊥) → u.lock ≤ v.lock → AreAhead uses others at other → AreAhead uses others (at + 1) other
  step_first at other u v rising is_u is_v free below ahead p q x y is_x is_y one =
      let so_far = ahead p q x y is_x is_y one in
      let not_here : p ≢ at = λ here.
      let same_x : x ≡ u = same_Some x u (sym is_x ∙ subst (λ i. slice_get uses i ≡ Some u) (sym here) is_u) in
      elim (cases_eq q other) [
        | inl there ↦
            let same_y : y ≡ v = same_Some y v (sym is_y ∙ subst (λ i. slice_get others i ≡ Some v) (sym there) is_v) in
            free (subst (λ w. UsesContend u w) same_y (subst (λ w. UsesContend w y) same_x one))
        | inr past ↦
            let later : v.lock < y.lock = rising other q v y (omega arith) is_v is_y in
            let same : u.lock ≡ y.lock = subst (λ (w : LockUse). w.lock ≡ y.lock) same_x one.0 in
            absurd (omega arith)
      ] in
      (omega arith, so_far.1)

  -- and one in the second
  pub step_second : (at other : ℕ) (u v : LockUse) → IsRising uses → slice_get uses at ≡ Some u → slice_get others other ≡ Some v
      → v.lock < u.lock → AreAhead uses others at other → AreAhead uses others at (other + 1)
  step_second at other u v rising is_u is_v below ahead p q x y is_x is_y one =
      let so_far = ahead p q x y is_x is_y one in
      let not_here : q ≢ other = λ here.
      let same_y : y ≡ v = same_Some y v (sym is_y ∙ subst (λ i. slice_get others i ≡ Some v) (sym here) is_v) in
      let same : x.lock ≡ v.lock = subst (λ (w : LockUse). x.lock ≡ w.lock) same_y one.0 in
      elim (cases_eq p at) [
        | inl there ↦
            let same_x : x ≡ u = same_Some x u (sym is_x ∙ subst (λ i. slice_get uses i ≡ Some u) (sym there) is_u) in
            let this : u.lock ≡ v.lock = subst (λ (w : LockUse). w.lock ≡ v.lock) same_x same in
            absurd (omega arith)
        | inr past ↦
            let later : u.lock < x.lock = rising at p u x (omega arith) is_u is_x in
            absurd (omega arith)
      ] in
      (so_far.0, omega arith)

  -- two uses of the lock that contend, one in each list
  one_of : (lock : ℕ) → Contend (using uses) (using others) lock
      → (u v : LockUse) × Contains uses u × Contains others v × UsesContend u v × (u.lock ≡ lock)
  one_of lock (inl ((u, has, is, alone), (v, has_other, is_other))) = (u, v, has, has_other, (is ∙ sym is_other, inl alone), is)
  one_of lock (inr ((u, has, is), (v, has_other, is_other, alone))) = (u, v, has, has_other, (is ∙ sym is_other, inr alone), is)

  -- they are ahead, at these places
  ahead_of : (at other lock : ℕ) → AreAhead uses others at other → Contend (using uses) (using others) lock
      → (p q : ℕ) × (u : LockUse) × (slice_get uses p ≡ Some u) × (u.lock ≡ lock) × (at ≤ p) × (other ≤ q) × (p < length uses) × (q < length others)
  ahead_of at other lock ahead contend =
      let (u, v, (p, within_p, is_p), (q, within_q, is_q), one, is) = one_of lock contend in
      let is_u : slice_get uses p ≡ Some u = slice_get-get_or uses p u within_p ∙ ap Some is_p in
      let is_v : slice_get others q ≡ Some v = slice_get-get_or others q v within_q ∙ ap Some is_q in
      let here = ahead p q u v is_u is_v one in
      (p, q, u, is_u, is, here.0, here.1, within_p, within_q)

  -- at the end of either list none is ahead
  pub none_ahead : (at other : ℕ) → (length uses ≤ at) ⊎ (length others ≤ other) → AreAhead uses others at other
      → IsFirstOfContended (using uses) (using others) None
  none_ahead at other past ahead lock contend =
      let (p, q, u, is_u, is, from, from_other, within, within_other) = ahead_of at other lock ahead contend in
      elim past [
        | inl first ↦ omega (arith, first, from, within)
        | inr second ↦ omega (arith, second, from_other, within_other)
      ]

  -- the first two that are met, where all that contend are still ahead, are of the first lock
  pub first_met : (at other : ℕ) (u v : LockUse) → IsRising uses → slice_get uses at ≡ Some u → Contains uses u → Contains others v
      → AreAhead uses others at other → UsesContend u v → IsFirstOfContended (using uses) (using others) (Some u.lock)
  first_met at other u v rising is_u has has_other ahead one = (
    contend_from u v has has_other one,
    λ lock contend.
        let (p, q, x, is_x, is, from, from_other, within, within_other) = ahead_of at other lock ahead contend in
        elim (cases_eq p at) [
          | inl here ↦
              let same : x ≡ u = same_Some x u (sym is_x ∙ subst (λ i. slice_get uses i ≡ Some u) (sym here) is_u) in
              let this : u.lock ≡ lock = subst (λ (w : LockUse). w.lock ≡ lock) same is in
              omega (arith, this)
          | inr past ↦
              let later : u.lock < x.lock = rising at p u x (omega (arith, from, past)) is_u is_x in
              omega (arith, later, is)
        ],
  )

-- what two contend for is of their uses alone
pub first_of_uses : (one other : Held) (first : Option ℕ) → IsFirstOfContended (using one.uses) (using other.uses) first → IsFirstOfContended one other first
first_of_uses one other None is = is
first_of_uses one other (Some lock) is = is

-- the first is one
pub first_is_one : (one other : Held) → AtMostOne (IsFirstOfContended one other)
first_is_one one other None None p q = refl
first_is_one one other None (Some lock) p q = absurd (p lock q.0)
first_is_one one other (Some lock) None p q = absurd (q lock p.0)
first_is_one one other (Some lock) (Some again) p q =
    let below : lock ≤ again = p.1 again q.0 in
    let above : again ≤ lock = q.1 lock p.0 in
    let same : lock ≡ again = omega (arith, below, above) in
    ap Some same

-- there is a first exactly if they contend for some lock
pub some_first : (one other : Held) (first : Option ℕ) → IsFirstOfContended one other first → is_some first ≡ true → (lock : ℕ) × Contend one other lock
some_first one other None is some = absurd (false≢true some)
some_first one other (Some lock) is some = (lock, is.0)

pub first_of_some : (one other : Held) (first : Option ℕ) → IsFirstOfContended one other first → (lock : ℕ) × Contend one other lock → is_some first ≡ true
first_of_some one other None is (lock, contend) = absurd (is lock contend)
first_of_some one other (Some first) is contend = refl
