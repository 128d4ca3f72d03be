-- Jumps up the tree of affinities.
use Rattle.std.specs.Prelude.{◌≡◌, ℕ, ◌+◌, ◌<◌, ◌≤◌, List, length, slice_index_or}
use Rattle.waff_model.specs.Tree.{AtOrAbove, Node}
use Rattle.waff_limits.specs.declared.jumps.Jump.{Jump}

-- the jump from the affinity b, of these
abbrev pub jump_at : List Jump → ℕ → Jump
jump_at jumps b = slice_index_or jumps b (record { to = 0; steps = 0 })

-- it leads from b to an affinity at or above it, by no more steps than affinities are numbered between the two
pub record IsJump (tree : List Node) (jump : Jump) (b : ℕ) : Type 0 where
  pub above : AtOrAbove tree jump.to b
  pub steps : jump.to + jump.steps ≤ b

-- a jump from each of the first affinities, so many
pub record AreJumpsTo (tree : List Node) (jumps : List Jump) (count : ℕ) : Type 0 where
  pub long : length jumps ≡ count
  pub each : (b : ℕ) → b < count → IsJump tree (jump_at jumps b) b

-- a jump from each affinity
abbrev pub AreJumps : List Node → List Jump → Type 0
AreJumps tree jumps = AreJumpsTo tree jumps (length tree)
