-- The spans of affinities in preorder: those below an affinity follow right after it, and children
-- stand in their order.
use Rattle.std.specs.Prelude.{◌≡◌, ℕ, ◌+◌, ◌<◌, ◌≤◌, ◌↔◌, List, length, Some, None, slice_index_or}
use Rattle.std.specs.Prelude.{sum_by, take}
use Rattle.waff_model.specs.Tree.{Node, parent_of, AtOrAbove}
use Rattle.waff_model.specs.declared.preorder.Span.{Span}
use Rattle.waff_model.specs.declared.preorder.Share.{Share}

-- the span of the affinity b
abbrev pub span_at : List Span → ℕ → Span
span_at spans b = slice_index_or spans b (record { parent = None; first = 0; end = 0 })

-- the affinity at q is that at p, or one of those below it
abbrev pub Spans : Span → Span → Type 0
Spans p q = (p.first ≤ q.first) × (q.first < p.end)

-- the share of an affinity with none below it
abbrev pub leaf : Share
leaf = record { size = 1; behind = 0 }

-- the share of the affinity b
abbrev pub share_at : List Share → ℕ → Share
share_at shares b = slice_index_or shares b (record { size = 0; behind = 0 })

-- the sizes of the affinities before k that are not yet part of another's
abbrev pub sizes_before : List Share → ℕ → ℕ
sizes_before shares k = sum_by (λ share. share.size) (take k shares)

-- the affinities from k on have their shares: a child's lies in its parent's, after the parent's
-- own place, and that of an earlier child stands before that of a later one
pub record AreShares (tree : List Node) (shares : List Share) (k : ℕ) : Type 0 where
  pub count : length shares ≡ length tree
  pub filled : (b : ℕ) → b < length tree → 0 < (share_at shares b).size
  pub few : (b : ℕ) → b < length tree → (share_at shares b).size ≤ length tree
  pub left : sizes_before shares k ≤ length tree
  pub within : (b p : ℕ) → k ≤ b → b < length tree → parent_of tree b ≡ Some p
      → (share_at shares b).size + (share_at shares b).behind < (share_at shares p).size
  pub apart : (b c p : ℕ) → k ≤ b → b < c → c < length tree
      → parent_of tree b ≡ Some p → parent_of tree c ≡ Some p
      → (share_at shares c).size + (share_at shares c).behind ≤ (share_at shares b).behind

-- spans in preorder: one affinity is at or above another exactly where the other's first place is one
-- of its own, and of two children of one affinity the earlier stands before the later
pub record AreNested (tree : List Node) (spans : List Span) : Type 0 where
  pub count : length spans ≡ length tree
  pub parents : (b : ℕ) → b < length tree → (span_at spans b).parent ≡ parent_of tree b
  pub filled : (b : ℕ) → b < length tree → (span_at spans b).first < (span_at spans b).end
  pub few : (b : ℕ) → b < length tree → (span_at spans b).end ≤ length tree
  pub tells : (a b : ℕ) → a < length tree → b < length tree
      → Spans (span_at spans a) (span_at spans b) ↔ AtOrAbove tree a b
  pub ordered : (b c p : ℕ) → b < c → c < length tree
      → parent_of tree b ≡ Some p → parent_of tree c ≡ Some p
      → (span_at spans b).end ≤ (span_at spans c).first
