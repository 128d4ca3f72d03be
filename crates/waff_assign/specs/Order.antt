-- The order that a trace's messages keep: earlier before later, where they exclude each other.
use Rattle.std.specs.Prelude.{◌≡◌, ℕ, zero, suc, ◌-◌, ◌<◌, ◌≤◌, List, [], ◌∷◌, length, map, Option, None, slice_index}
use Rattle.std.specs.Prelude.{option_map, slice_index_or, slice_range, unwrap_or}
use Rattle.std.specs.List.{range_with_len}
use Rattle.waff_model.specs.Tree.{Node, name_of}
use Rattle.waff_model.specs.declared.tree.AffinityId.{AffinityId}
use Rattle.waff_assign.specs.Held.{ExcludeEachOther, Held, nothing}
use Rattle.waff_assign.specs.declared.held.LockUse.{LockUse}

-- what message n holds, where `assigned` lists what the messages hold in the order of arrival
abbrev pub held_of : List Held → ℕ → Held
held_of assigned n = slice_index_or assigned (n - 1) nothing

-- its affinity
abbrev pub affinity_of : List Held → ℕ → Option ℕ
affinity_of assigned n = (held_of assigned n).affinity

-- its number, and this one where it has none
abbrev pub number_or : ℕ → Held → ℕ
number_or none held = unwrap_or held.affinity none

-- the name of an affinity, and a hyphen where there is none
abbrev pub name_or_hyphen : List Node → Option ℕ → List ℕ
name_or_hyphen tree affinity = unwrap_or (option_map (name_of tree) affinity) (45 ∷ [])

-- that of message n
abbrev pub affinity_name : List Node → List Held → ℕ → List ℕ
affinity_name tree assigned n = name_or_hyphen tree (affinity_of assigned n)

-- where the uses of locks by the message at this place, from 0, start among all uses: where those before it end
abbrev pub start_at : List ℕ → ℕ → ℕ
start_at ends zero = 0
start_at ends (suc k) = slice_index ends k

-- its uses: a run of all uses, up to its end; none where no ends are listed
abbrev pub uses_at : List LockUse → List ℕ → ℕ → List LockUse
uses_at uses ends k = slice_range uses (start_at ends k) (slice_index ends k)

-- the ends cut all uses into a run for each of so many messages; where none are listed, there is no use
pub record AreEnds (count : ℕ) (uses : List LockUse) (ends : List ℕ) : Type 0 where
  pub none : length ends ≡ 0 → length uses ≡ 0
  pub each : 0 < length ends → length ends ≡ count
  pub rising : (k : ℕ) → k < length ends → start_at ends k ≤ slice_index ends k
  pub within : (k : ℕ) → k < length ends → slice_index ends k ≤ length uses
  pub last : start_at ends (length ends) ≡ length uses

-- what messages hold, from lists of their affinities, of all uses of locks and of their ends
abbrev pub helds_of : List (Option AffinityId) → List LockUse → List ℕ → List Held
helds_of affinities uses ends =
    map (λ k. record {
      affinity = option_map (λ a. a.0) (slice_index_or affinities k None);
      uses = uses_at uses ends k;
    }) (range_with_len 0 (length affinities))

-- an ordered pair: message i arrived before message j, and they exclude each other
pub record IsOrdered (tree : List Node) (assigned : List Held) (i j : ℕ) : Type 0 where
  pub from : 1 ≤ i
  pub earlier : i < j
  pub to : j ≤ length assigned
  pub excludes : ExcludeEachOther tree (held_of assigned i) (held_of assigned j)

-- a relation of messages, by number
abbrev pub Relation : Type 1
Relation = ℕ → ℕ → Type 0

-- from i to j by this many pairs and one more
abbrev pub PathBy : Relation → ℕ → ℕ → ℕ → Type 0
PathBy before zero i j = before i j
PathBy before (suc n) i j = (m : ℕ) × before i m × PathBy before n m j

-- a path pair: one in the transitive closure of the pairs
abbrev pub Path : Relation → Relation
Path before i j = (n : ℕ) × PathBy before n i j

-- one hierarchy refines another on a trace when each ordered pair under the one is an ordered pair
-- under the other
abbrev pub Refines : List Node → List Held → List Node → List Held → Type 0
Refines tree assigned coarse_tree coarse_assigned =
    (i j : ℕ) → IsOrdered tree assigned i j → IsOrdered coarse_tree coarse_assigned i j
