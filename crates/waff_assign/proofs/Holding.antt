-- What is held, and which of two messages exclude each other by it.
use Rattle.std.proofs.Common.{◌≡◌, ◌↔◌, ◌⊎◌, ℕ, ◌-◌, ◌<◌, ◌≤◌, inl, inr, List, [], length, Option, None, Some, refl, ap, sym, ◌∙◌, subst, arith}
use Rattle.std.proofs.lemmas.Bool.{cases_Bool}
use Rattle.std.proofs.lemmas.Option.{same_Some}
use Rattle.waff_model.specs.Tree.{Node, AtOrAbove, Excludes, IsTree}
use Rattle.waff_model.proofs.TreeLemmas.{reflexive}
use Rattle.waff_assign.specs.Held.{Held, nothing, UsesLock, UsesAlone, UsesShared, AffinitiesExclude, IsInRoot, Contend, ExcludeByAffinities, ExcludeEachOther, IsHeldWithin, AreKnown, AreUnlocked}
use Rattle.waff_assign.specs.Order.{held_of, affinity_of}
use Rattle.waff_assign.proofs.Climbs.{root_above}

-- affinities exclude each other either way
pub excludes_sym : (tree : List Node) (a b : ℕ) → Excludes tree a b → Excludes tree b a
excludes_sym tree a b (inl above) = inr above
excludes_sym tree a b (inr above) = inl above

pub affinities_exclude_sym : (tree : List Node) (one other : Held) → AffinitiesExclude tree one other → AffinitiesExclude tree other one
affinities_exclude_sym tree one other (a, b, is_a, is_b, excludes) = (b, a, is_b, is_a, excludes_sym tree a b excludes)

pub contend_sym : (one other : Held) (lock : ℕ) → Contend one other lock → Contend other one lock
contend_sym one other lock (inl (alone, uses)) = inr (uses, alone)
contend_sym one other lock (inr (uses, alone)) = inl (alone, uses)

-- so do messages
pub exclude_sym : (tree : List Node) (one other : Held) → ExcludeEachOther tree one other → ExcludeEachOther tree other one
exclude_sym tree one other (inl affinities) = inl (affinities_exclude_sym tree one other affinities)
exclude_sym tree one other (inr (inl (inl root))) = inr (inl (inr root))
exclude_sym tree one other (inr (inl (inr root))) = inr (inl (inl root))
exclude_sym tree one other (inr (inr (lock, contend))) = inr (inr (lock, contend_sym one other lock contend))

-- one that runs in the root excludes every one
pub root_excludes : (tree : List Node) (one other : Held) → IsInRoot one → ExcludeEachOther tree one other
root_excludes tree one other root = inr (inl (inl root))

-- one that uses a lock alone excludes every one that uses it
pub alone_excludes : (tree : List Node) (one other : Held) (lock : ℕ) → UsesAlone one lock → UsesLock other lock → ExcludeEachOther tree one other
alone_excludes tree one other lock alone uses = inr (inr (lock, inl (alone, uses)))

-- two whose affinities exclude each other do
pub affinities_do : (tree : List Node) (one other : Held) (a b : ℕ) → one.affinity ≡ Some a → other.affinity ≡ Some b → Excludes tree a b
    → ExcludeEachOther tree one other
affinities_do tree one other a b is_a is_b excludes = inl (a, b, is_a, is_b, excludes)

-- one that has an affinity excludes itself, and so does one that uses a lock alone
pub affinity_excludes_itself : (tree : List Node) (held : Held) (a : ℕ) → held.affinity ≡ Some a → ExcludeEachOther tree held held
affinity_excludes_itself tree held a is = inl (a, a, is, is, inl (reflexive tree a))

pub uses_alone_uses : (held : Held) (lock : ℕ) → UsesAlone held lock → UsesLock held lock
uses_alone_uses held lock (u, has, is, alone) = (u, has, is)

pub uses_shared_uses : (held : Held) (lock : ℕ) → UsesShared held lock → UsesLock held lock
uses_shared_uses held lock (u, has, is, shared) = (u, has, is)

pub alone_excludes_itself : (tree : List Node) (held : Held) (lock : ℕ) → UsesAlone held lock → ExcludeEachOther tree held held
alone_excludes_itself tree held lock alone = alone_excludes tree held held lock alone (uses_alone_uses held lock alone)

-- a lock that is used is used alone or shared
pub uses_alone_or_shared : (held : Held) (lock : ℕ) → UsesLock held lock → UsesAlone held lock ⊎ UsesShared held lock
uses_alone_or_shared held lock (u, has, is) = elim (cases_Bool u.alone) [
  | inl alone ↦ inl (u, has, is, alone)
  | inr shared ↦ inr (u, has, is, shared)
]

-- who uses no lock contends with no one
pub no_use : (held : Held) (lock : ℕ) → held.uses ≡ [] → UsesLock held lock → ⊥
no_use held lock none (u, has, is) = absurd (omega (arith, has.1, ap length none))

pub no_contention : (one other : Held) (lock : ℕ) → one.uses ≡ [] → Contend one other lock → ⊥
no_contention one other lock none (inl (alone, uses)) = no_use one lock none (uses_alone_uses one lock alone)
no_contention one other lock none (inr (uses, alone)) = no_use one lock none uses

-- where one of them uses no lock, two messages exclude each other exactly where their affinities do
pub excludes_from : (tree : List Node) (one other : Held) (a b : ℕ) → IsTree tree → a < length tree → b < length tree
    → one.affinity ≡ Some a → other.affinity ≡ Some b → one.uses ≡ [] → ExcludeEachOther tree one other → Excludes tree a b
excludes_from tree one other a b is within_a within_b is_a is_b none (inl (x, y, is_x, is_y, excludes)) =
    let same_a : x ≡ a = same_Some x a (sym is_x ∙ is_a) in
    let same_b : y ≡ b = same_Some y b (sym is_y ∙ is_b) in
    subst (λ n. Excludes tree n b) same_a (subst (λ n. Excludes tree x n) same_b excludes)
excludes_from tree one other a b is within_a within_b is_a is_b none (inr (inl (inl root))) =
    let top : 0 ≡ a = same_Some 0 a (sym root ∙ is_a) in
    inl (subst (λ n. AtOrAbove tree n b) top (root_above tree is b within_b))
excludes_from tree one other a b is within_a within_b is_a is_b none (inr (inl (inr root))) =
    let top : 0 ≡ b = same_Some 0 b (sym root ∙ is_b) in
    inr (subst (λ n. AtOrAbove tree n a) top (root_above tree is a within_a))
excludes_from tree one other a b is within_a within_b is_a is_b none (inr (inr (lock, contend))) =
    absurd (no_contention one other lock none contend)

pub exclude_unlocked : (tree : List Node) (one other : Held) (a b : ℕ) → IsTree tree → a < length tree → b < length tree
    → one.affinity ≡ Some a → other.affinity ≡ Some b → one.uses ≡ [] → ExcludeEachOther tree one other ↔ Excludes tree a b
exclude_unlocked tree one other a b is within_a within_b is_a is_b none = (
  λ exclude. excludes_from tree one other a b is within_a within_b is_a is_b none exclude,
  λ excludes. affinities_do tree one other a b is_a is_b excludes,
)

-- what a message of the trace holds
pub held_known : (tree : List Node) (assigned : List Held) (n : ℕ) → AreKnown tree assigned → 1 ≤ n → n ≤ length assigned
    → IsHeldWithin (length tree) (held_of assigned n)
held_known tree assigned n known from to = known (n - 1) nothing (omega arith)

-- its affinity is one of the tree
pub affinity_known : (tree : List Node) (assigned : List Held) (n a : ℕ) → AreKnown tree assigned → 1 ≤ n → n ≤ length assigned
    → affinity_of assigned n ≡ Some a → a < length tree
affinity_known tree assigned n a known from to is = (held_known tree assigned n known from to).affinity a is

-- without locks it uses none
pub uses_none : (assigned : List Held) (n : ℕ) → AreUnlocked assigned → 1 ≤ n → n ≤ length assigned → (held_of assigned n).uses ≡ []
uses_none assigned n unlocked from to = unlocked (n - 1) nothing (omega arith)

-- one that uses no lock has an affinity
pub affinity_without_uses : (count : ℕ) (held : Held) → IsHeldWithin count held → held.uses ≡ [] → (a : ℕ) × (held.affinity ≡ Some a) × (a < count)
affinity_without_uses count held within none = by held.affinity refl
  where
    by : (o : Option ℕ) → held.affinity ≡ o → (a : ℕ) × (held.affinity ≡ Some a) × (a < count)
    by None is = absurd (omega (arith, within.some is, ap length none))
    by (Some a) is = (a, is, within.affinity a is)

-- and so has each message of a trace without locks
pub affinity_unlocked : (tree : List Node) (assigned : List Held) (n : ℕ) → AreKnown tree assigned → AreUnlocked assigned → 1 ≤ n → n ≤ length assigned
    → (a : ℕ) × (affinity_of assigned n ≡ Some a) × (a < length tree)
affinity_unlocked tree assigned n known unlocked from to =
    affinity_without_uses (length tree) (held_of assigned n) (held_known tree assigned n known from to) (uses_none assigned n unlocked from to)

-- two that exclude each other do so by a lock where they don't by their affinities
pub by_lock : (tree : List Node) (one other : Held) → (ExcludeByAffinities tree one other → ⊥) → ExcludeEachOther tree one other → (lock : ℕ) × Contend one other lock
by_lock tree one other apart (inl affinities) = absurd (apart (inl affinities))
by_lock tree one other apart (inr (inl root)) = absurd (apart (inr root))
by_lock tree one other apart (inr (inr contend)) = contend
