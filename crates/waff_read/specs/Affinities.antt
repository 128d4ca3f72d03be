-- The tree that the affinities of a hierarchy file make.
use Rattle.std.specs.Prelude.{ℕ, List, [], ◌∷◌, ◌++◌, option_map, unwrap_or, map, position, Result}
use Rattle.std.specs.Prelude.{Bool, Option, Some, Ok, Err, not, ◌&&◌, codes, if◌then◌else◌}
use Rattle.std.specs.Str.{bytes_eq}
use Rattle.toml.specs.Data.{Data}
use Rattle.waff_parse.specs.Refusals.{◌>>=◌}
use Rattle.waff_model.specs.Formats.{may_lock}
use Rattle.waff_model.specs.Names.{is_name}
use Rattle.waff_model.specs.Tree.{Node}
use Rattle.waff_model.specs.TreeRefusal.{refusal_of}
use Rattle.waff_model.specs.declared.format.Format.{Format}
use Rattle.waff_model.specs.declared.limits.TheConstants.{MAX_AFFINITIES}
use Rattle.waff_model.specs.declared.tree.TreeError.{TreeError}
use Rattle.waff_model.specs.declared.tree.TreeError.TheVariants.{Name, NoRoot}
use Rattle.waff_read.specs.Checks.{passed}
use Rattle.waff_read.specs.Documents.{rows_at, text_at}
use Rattle.waff_read.specs.Formats.{format_of}

-- the name of a row
abbrev pub name_at : Data → List ℕ
name_at row = unwrap_or (text_at (codes "name") row) []

-- the number of the affinity of this name, where these are the names so far: the number that is one
-- past the last that an affinity can have, where there is none
abbrev pub place_of : List (List ℕ) → List ℕ → ℕ
place_of names name = unwrap_or (position (bytes_eq name) names) MAX_AFFINITIES

-- the node that a row adds to the tree so far
abbrev pub node_in : List Node → Data → Node
node_in tree row = record {
  name = name_at row;
  parent = option_map (place_of (map (λ node. node.name) tree)) (text_at (codes "parent") row);
}

-- what an affinity may be named: a name, but no hyphen where messages may have no affinity, since a
-- hyphen tells that
abbrev pub is_affinity_name : Format → List ℕ → Bool
is_affinity_name format name = is_name name && not (may_lock format && bytes_eq name (codes "-"))

-- why a row adds no node to the tree so far
abbrev pub row_refusal : Format → List Node → Data → Option TreeError
row_refusal format tree row =
    if is_affinity_name format (name_at row) then refusal_of tree (node_in tree row) else Some Name

-- the tree so far with the rows after it: the first row that is refused decides
unfoldable pub tree_from : Format → List Node → List Data → Result (List Node) TreeError
tree_from format tree [] = Ok tree
tree_from format tree (row ∷ more) = do
  _ ← passed (row_refusal format tree row)
  tree_from format (tree ++ node_in tree row ∷ []) more

-- the tree of these rows
abbrev pub tree_of : Format → List Data → Result (List Node) TreeError
tree_of format [] = Err NoRoot
tree_of format (row ∷ more) = tree_from format [] (row ∷ more)

-- the tree of a document's affinities
abbrev pub tree_in : Data → Result (List Node) TreeError
tree_in document = tree_of (format_of document) (rows_at (codes "affinity") document)
