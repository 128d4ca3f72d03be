-- Whether a message uses a lock, as tests tell it.
use Rattle.std.proofs.Common.{◌≡◌, ◌⊎◌, inl, inr, ℕ, ◌&&◌, true, false, List, Option, Some, None, eqb, refl, ◌∙◌, ap}
use Rattle.std.proofs.lemmas.Bool.{and_from, and_parts, cases_eq, eq-eqb, eqb-true, ne_eqb, or_cases}
use Rattle.std.proofs.lemmas.List.Folds.{Any-from_list_any, list_any_at}
use Rattle.std.proofs.lemmas.Option.{none-some, same_Some}
use Rattle.waff_model.specs.Tree.{Node}
use Rattle.waff_assign.specs.Held.{ExcludeEachOther, Held, UsesAlone, UsesLock}
use Rattle.waff_assign.specs.declared.held.LockUse.{LockUse}
use Rattle.waff_plan.specs.LowerBound.{keeps_lock, option_is, uses_alone, uses_lock}

-- whether a number is this one
pub is_option : (a : ℕ) (o : Option ℕ) → o ≡ Some a → option_is a o ≡ true
is_option a o same = ap (option_is a) same ∙ eq-eqb a a refl

pub is_no_option : (a : ℕ) (o : Option ℕ) → (o ≡ Some a → ⊥) → option_is a o ≡ false
is_no_option a None other = refl
is_no_option a (Some b) other = ne_eqb b a (λ same. other (ap Some same))

pub option_of : (a : ℕ) (o : Option ℕ) → option_is a o ≡ true → o ≡ Some a
option_of a None is = absurd (cc)
option_of a (Some b) is = ap Some (eqb-true b a is)

pub cases_option : (a : ℕ) (o : Option ℕ) → (o ≡ Some a) ⊎ (o ≡ Some a → ⊥)
cases_option a None = inr (λ same. none-some a same)
cases_option a (Some b) = elim (cases_eq b a) [
  | inl same ↦ inl (ap Some same)
  | inr other ↦ inr (λ same. other (same_Some b a same))
]

module _ (lock : ℕ) (held : Held) where
  pub use_of : uses_lock lock held ≡ true → UsesLock held lock
  use_of is =
      let found = Any-from_list_any (λ (u : LockUse). eqb u.lock lock) held.uses is in
      let u = found.1 in
      (u, (found.0, found.2, found.3), eqb-true u.lock lock found.4)

  pub alone_of : uses_alone lock held ≡ true → UsesAlone held lock
  alone_of is =
      let found = Any-from_list_any (λ (u : LockUse). eqb u.lock lock && u.alone) held.uses is in
      let u = found.1 in
      let parts = and_parts (eqb u.lock lock) u.alone found.4 in
      (u, (found.0, found.2, found.3), eqb-true u.lock lock parts.0, parts.1)

  pub of_use : UsesLock held lock → uses_lock lock held ≡ true
  of_use (u, (k, within, at), is) =
      list_any_at (λ (v : LockUse). eqb v.lock lock) held.uses k u within
      (ap (λ (v : LockUse). eqb v.lock lock) at ∙ eq-eqb u.lock lock is)

  pub of_alone : UsesAlone held lock → uses_alone lock held ≡ true
  of_alone (u, (k, within, at), is, alone) =
      list_any_at (λ (v : LockUse). eqb v.lock lock && v.alone) held.uses k u within
      (ap (λ (v : LockUse). eqb v.lock lock && v.alone) at ∙ and_from (eqb u.lock lock) u.alone (eq-eqb u.lock lock is) alone)

  pub alone_uses : UsesAlone held lock → UsesLock held lock
  alone_uses (u, has, is, alone) = (u, has, is)

-- what keeps a lock excludes what keeps it or uses it
pub keeper_excludes : (tree : List Node) (lock : ℕ) (one other : Held) → keeps_lock lock one ≡ true → UsesLock other lock → ExcludeEachOther tree one other
keeper_excludes tree lock one other keeps uses = elim (or_cases (option_is 0 one.affinity) (uses_alone lock one) keeps) [
  | inl root ↦ inr (inl (inl (option_of 0 one.affinity root)))
  | inr alone ↦ inr (inr (lock, inl (alone_of lock one alone, uses)))
]

pub keepers_exclude : (tree : List Node) (lock : ℕ) (one other : Held) → keeps_lock lock one ≡ true → keeps_lock lock other ≡ true → ExcludeEachOther tree one other
keepers_exclude tree lock one other keeps also = elim (or_cases (option_is 0 other.affinity) (uses_alone lock other) also) [
  | inl root ↦ inr (inl (inr (option_of 0 other.affinity root)))
  | inr alone ↦ keeper_excludes tree lock one other keeps (alone_uses lock other (alone_of lock other alone))
]

pub excludes_keeper : (tree : List Node) (lock : ℕ) (one other : Held) → UsesLock one lock → keeps_lock lock other ≡ true → ExcludeEachOther tree one other
excludes_keeper tree lock one other uses keeps = elim (or_cases (option_is 0 other.affinity) (uses_alone lock other) keeps) [
  | inl root ↦ inr (inl (inr (option_of 0 other.affinity root)))
  | inr alone ↦ inr (inr (lock, inr (uses, alone_of lock other alone)))
]
