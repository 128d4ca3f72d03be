-- The affinities of a layout that is read have names.
use Rattle.std.proofs.Common.{◌≡◌, ℕ, List, [], ◌∷◌, ◌++◌, map, true, false, Bool, Option, Some, None, Ok, codes, refl, sym, subst}
use Rattle.std.specs.Prelude.{All, if◌then◌else◌, not}
use Rattle.std.proofs.lemmas.List.Elements.{All-nil, All-push}
use Rattle.toml.specs.Data.{Data}
use Rattle.waff_parse.specs.Refusals.{◌>>=◌}
use Rattle.waff_model.specs.Layout.{Hierarchy}
use Rattle.waff_model.specs.Names.{is_name}
use Rattle.waff_model.specs.declared.format.Format.{Format}
use Rattle.waff_model.specs.Tree.{Node}
use Rattle.waff_model.specs.TreeRefusal.{node_checks, refusal_of}
use Rattle.waff_model.specs.declared.tree.TreeError.{TreeError}
use Rattle.waff_model.specs.declared.tree.TreeError.TheVariants.{Name}
use Rattle.waff_model.proofs.RefusalLemmas.{none_holds}
use Rattle.waff_read.specs.Affinities.{is_affinity_name, name_at, node_in, row_refusal, tree_from, tree_of}
use Rattle.waff_read.specs.Checks.{passed}
use Rattle.waff_read.specs.Documents.{rows_at}
use Rattle.waff_read.specs.Formats.{format_of}
use Rattle.waff_read.specs.Hierarchies.{hierarchy_of}
use Rattle.waff_read.specs.Spaces.{space_of, map_of}
use Rattle.waff_read.proofs.HierarchyLaws.{hierarchy_is_exact, layout_of-over}

-- the name of a node is one
abbrev pub IsNamed : Node → Type 0
IsNamed node = is_name node.name ≡ true

not_false : (b : Bool) → not b ≡ false → b ≡ true
not_false true h = refl
not_false false h = absurd (cc)

named_unless_refused : (tree : List Node) (node : Node) → refusal_of tree node ≡ None → IsNamed node
named_unless_refused tree node accepted =
    let checks = none_holds (node_checks tree node) accepted in
    not_false (is_name node.name) checks.0

row_named : (format : Format) (tree : List Node) (row : Data) → row_refusal format tree row ≡ None → IsNamed (node_in tree row)
row_named format tree row accepted = by (is_affinity_name format (name_at row)) accepted
  where
    by : (named : Bool) → (if named then refusal_of tree (node_in tree row) else Some Name) ≡ None → IsNamed (node_in tree row)
    by true accepted = named_unless_refused tree (node_in tree row) accepted
    by false refused = absurd (cc)

named-tree_from : (format : Format) (tree : List Node) (rows : List Data) (read : List Node) → All IsNamed tree → tree_from format tree rows ≡ Ok read → All IsNamed read
unfolding tree_from
named-tree_from format tree [] read named done = let same : tree ≡ read = cc in rw (← same) named
named-tree_from format tree (row ∷ more) read named done =
    by (row_refusal format tree row) refl done (named-tree_from format (tree ++ node_in tree row ∷ []) more read)
  where
    by : (check : Option TreeError) → row_refusal format tree row ≡ check
        → (passed check >>= (λ _. tree_from format (tree ++ node_in tree row ∷ []) more)) ≡ Ok read
        → (All IsNamed (tree ++ node_in tree row ∷ []) → tree_from format (tree ++ node_in tree row ∷ []) more ≡ Ok read → All IsNamed read)
        → All IsNamed read
    by None accepted done rest = rest (All-push IsNamed tree (node_in tree row) named (row_named format tree row accepted)) done
    by (Some e) refused done rest = absurd (cc)

named-tree_of : (format : Format) (rows : List Data) (read : List Node) → tree_of format rows ≡ Ok read → All IsNamed read
named-tree_of format [] read done = absurd (cc)
named-tree_of format (row ∷ more) read done = named-tree_from format [] (row ∷ more) read (All-nil IsNamed) done

pub affinities_are_named : (bytes : List ℕ) (layout : Hierarchy) → hierarchy_of bytes ≡ Ok layout → All IsNamed layout.tree
affinities_are_named bytes layout read =
    let d = (hierarchy_is_exact bytes layout).0 read in
    let over = layout_of-over (format_of d.document) d.kind d.tree (map (space_of (format_of d.document)) (rows_at (codes "space") d.document)) (map map_of (rows_at (codes "map") d.document)) layout d.is_layout in
    subst (All IsNamed) (sym over.1) (named-tree_of (format_of d.document) (rows_at (codes "affinity") d.document) d.tree d.is_tree)
