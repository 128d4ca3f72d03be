-- The layout that a hierarchy file is read as.
use Rattle.std.specs.Prelude.{ℕ, nat_lt, List, Option, Some, None}
use Rattle.std.specs.Prelude.{option_map, option_and_then}
use Rattle.std.specs.Prelude.{unwrap_or, position, Result, codes, if◌then◌else◌}
use Rattle.std.specs.Option.{ok_or}
use Rattle.std.specs.Str.{bytes_eq}
use Rattle.toml.specs.Data.{Data}
use Rattle.waff_parse.specs.Refusals.{◌>>=◌, told}
use Rattle.waff_model.specs.Tree.{Node}
use Rattle.waff_model.specs.Layout.{Hierarchy}
use Rattle.waff_model.specs.LayoutOf.{layout_of}
use Rattle.waff_model.specs.declared.kind.Kind.{Kind}
use Rattle.waff_model.specs.declared.kind.Kind.TheVariants.{Classical, Hierarchical}
use Rattle.waff_model.specs.declared.layout_rows.LayoutError.{LayoutError}
use Rattle.waff_read.specs.Checks.{passed}
use Rattle.waff_read.specs.HierRefusals.{shape_error, tree_error, level_error, layout_error}
use Rattle.waff_read.specs.Documents.{document_of, text_at}
use Rattle.waff_read.specs.Formats.{format_of}
use Rattle.waff_read.specs.Shapes.{shape_refusal}
use Rattle.waff_read.specs.Affinities.{tree_in}
use Rattle.waff_read.specs.Spaces.{spaces_in, maps_in}
use Rattle.waff_read.specs.declared.hier_error.HierError.{HierError}
use Rattle.waff_read.specs.declared.hier_error.HierError.TheVariants.{Toml, Model}

-- the kind of this name
abbrev pub kind_named : List ℕ → Option Kind
kind_named name =
    if bytes_eq name (codes "classical") then Some Classical
    else (if bytes_eq name (codes "hierarchical") then Some Hierarchical else None)

-- the kind that the document names as its model
abbrev pub kind_of : Data → Option Kind
kind_of document = option_and_then kind_named (text_at (codes "model") document)

-- the first affinity whose parent is another than the root
abbrev pub third_level_of : List Node → Option ℕ
third_level_of tree = position (λ node. nat_lt 0 (unwrap_or node.parent 0)) tree

-- why a tree is not one of this kind: a classical tree has two levels at most
abbrev pub kind_refusal : Kind → List Node → Option HierError
kind_refusal Classical tree = option_map level_error (third_level_of tree)
kind_refusal Hierarchical tree = None

-- the layout of the document's spaces and maps over the tree, in its format
abbrev pub layout_at : Kind → List Node → Data → Result Hierarchy LayoutError
layout_at kind tree document =
    layout_of (format_of document) kind tree (spaces_in document) (maps_in document)

-- the layout that the document describes, or the first check that fails
abbrev pub layout_in : Data → Result Hierarchy HierError
layout_in document = do
  kind ← ok_or (kind_of document) Model
  _ ← passed (option_map shape_error (shape_refusal document))
  tree ← told tree_error (tree_in document)
  _ ← passed (kind_refusal kind tree)
  told layout_error (layout_at kind tree document)

-- the layout that the bytes are read as, or the first check that fails
unfoldable pub hierarchy_of : List ℕ → Result Hierarchy HierError
hierarchy_of bytes = ok_or (document_of bytes) Toml >>= layout_in
