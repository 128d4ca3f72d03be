-- What the reader of hierarchies answers.
use Rattle.std.specs.Prelude.{◌≡◌, ℕ, Result, Ok, Err}
use Rattle.waff_model.specs.declared.tree.TreeError.{TreeError}
use Rattle.waff_model.specs.declared.layout_rows.LayoutError.{LayoutError}
use Rattle.waff_read.specs.declared.hier_error.Key.{Key}
use Rattle.waff_read.specs.declared.hier_error.HierError.{HierError}
use Rattle.waff_read.specs.declared.hier_error.HierError.TheVariants as error

-- the errors that tell of a key, of the tree, of an affinity and of the layout
abbrev pub shape_error : Key → HierError
shape_error key = error.Shape key

abbrev pub tree_error : TreeError → HierError
tree_error refusal = error.Tree refusal

abbrev pub level_error : ℕ → HierError
level_error affinity = error.NotClassical (record { 0 = affinity })

abbrev pub layout_error : LayoutError → HierError
layout_error refusal = error.Layout refusal

-- an error tells the fault of the reading, unless memory ran out
abbrev pub Tells : {Y : Type 0} → HierError → Result Y HierError → Type 0
Tells error.Memory read = Unit {0}
Tells fault read = read ≡ Err fault

-- what a function returned, seen by view, is what the reading gives, unless memory ran out
abbrev pub Reads : {X Y : Type 0} → (X → Y) → Result X HierError → Result Y HierError → Type 0
Reads view (Ok x) read = read ≡ Ok (view x)
Reads view (Err e) read = Tells e read
