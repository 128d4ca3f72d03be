-- The owners of footprints.
use Rattle.std.specs.Prelude.{◌≡◌, ◌↔◌, ◌⊎◌, ℕ, ◌+◌, ◌*◌, ◌≤◌, List, length, map, All, Contains}
use Rattle.std.specs.Prelude.{Bool, false, IsTrue, slice_index_or}
use Rattle.waff_model.specs.Layout.{Hierarchy, Space, IsLayout, owner_of}
use Rattle.waff_model.specs.Messages.{Arrivals, IsTrace}
use Rattle.waff_model.specs.declared.cell.Cell.{Cell}
use Rattle.waff_model.specs.declared.limits.TheConstants.{MAX_OPS}
use Rattle.waff_model.specs.declared.op.Op.{Op}
use Rattle.waff_cells.specs.Serial.{operations, ops_of}
use Rattle.waff_core.specs.Job.{ListsOwners, StandOnce, owners_of}

-- the owner of each cell, in the same order
abbrev pub owners_in : List Space → List Cell → List ℕ
owners_in spaces cells = map (λ cell. owner_of spaces cell) cells

-- the owners of each message's footprint, of which there are at most two for each operation
pub record AreOwners (spaces : List Space) (ops : List (List Op)) (owners : List (List ℕ))
    : Type 0 where
  pub count : length owners ≡ length ops
  pub each : (n : ℕ) → 1 ≤ n → n ≤ length ops
      → ListsOwners spaces (ops_of ops n) (owners_of owners n)
  pub few : All (λ owners. length owners ≤ 2 * MAX_OPS) owners

-- those of these affinities that are new come to a list, each once
pub record AreAdded (more before after : List ℕ) : Type 0 where
  pub each : (a : ℕ) → Contains after a ↔ (Contains before a ⊎ Contains more a)
  pub once : StandOnce before → StandOnce after
  pub few : length after ≤ length before + length more

-- the owners that were found, of so many affinities
pub record Found : Type 0 where
  pub count : ℕ
  pub owners : List ℕ

-- these owners are marked, and no other affinity
abbrev pub AreMarked : List Bool → List ℕ → Type 0
AreMarked marks owners = (a : ℕ) → IsTrue (slice_index_or marks a false) ↔ Contains owners a

-- what a job keeps beside what it is given, if the order is one: the table of the layout, the
-- owners of the footprints, and a copy of the order
pub record AreParts (layout : Hierarchy) (trace : Arrivals) (order : List ℕ)
    (table : Hierarchy) (owners : List (List ℕ)) (copy : List ℕ) : Type 0 where
  pub kept : table ≡ layout
  pub is_layout : IsLayout layout
  pub is_trace : IsTrace trace
  pub are_owners : AreOwners layout.spaces (operations trace.messages) owners
  pub copied : copy ≡ order
