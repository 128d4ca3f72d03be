-- The needs of a trace's messages: for each message a list of earlier messages that it must wait
-- for.
use Rattle.std.specs.Prelude.{◌≡◌, ℕ, ◌-◌, ◌^◌, ◌<◌, ◌≤◌, List, [], length, All, Contains, sum_by}
use Rattle.std.specs.Prelude.{slice_index_or}
use Rattle.std.specs.List.Sorted.{IsStrictlyIncreasing}
use Rattle.waff_model.specs.Tree.{Node, Leads}
use Rattle.waff_model.specs.declared.limits.TheConstants.{MAX_MESSAGES}
use Rattle.waff_assign.specs.Order.{IsOrdered, Path}
use Rattle.waff_assign.specs.Held.{Held}

-- the needs of message n, from 1
abbrev pub needs_of : List (List ℕ) → ℕ → List ℕ
needs_of needs n = slice_index_or needs (n - 1) []

-- message j needs message i
pub record IsNeed (needs : List (List ℕ)) (i j : ℕ) : Type 0 where
  pub from : 1 ≤ j
  pub listed : Contains (needs_of needs j) i

-- lists of needs: each need is an earlier message, the needs of a message stand in rising order, and
-- there are fewer than 2 ^ 32 in all
pub record AreLists (needs : List (List ℕ)) : Type 0 where
  pub from : (i j : ℕ) → IsNeed needs i j → 1 ≤ i
  pub earlier : (i j : ℕ) → IsNeed needs i j → i < j
  pub rising : All IsStrictlyIncreasing needs
  pub few : length needs ≤ MAX_MESSAGES
  pub short : sum_by length needs < 2 ^ 32

-- the needs of messages that hold this: each need is an ordered pair, and each ordered pair
-- is a path through needs, so that the paths through needs are exactly the path pairs
pub record AreNeeds (tree : List Node) (assigned : List Held) (needs : List (List ℕ)) : Type 0 where
  pub count : length needs ≡ length assigned
  pub ordered : (i j : ℕ) → IsNeed needs i j → IsOrdered tree assigned i j
  pub paths : (i j : ℕ) → IsOrdered tree assigned i j → Path (IsNeed needs) i j

-- no affinity is more than this many steps below the root
abbrev pub IsWithinDepth : List Node → ℕ → Type 0
IsWithinDepth tree depth = (a n : ℕ) → a < length tree → Leads tree n 0 a → n ≤ depth
