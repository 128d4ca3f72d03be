-- The entries of a table of names, as the nodes of a tree.
use Rattle.std.specs.Prelude.{ℕ, List, map, Option, String, string_bytes}
use Rattle.waff_model.specs.Tree.{Node}

module _ {A : Type 0} where
  -- an entry of the table of names, as a node
  abbrev pub entry_node : (String A × Option ℕ) → Node
  entry_node entry = record { name = string_bytes entry.0; parent = entry.1 }

  -- the entries of the table of names, as the nodes of a tree
  abbrev pub nodes_of : List (String A × Option ℕ) → List Node
  nodes_of entries = map entry_node entries
