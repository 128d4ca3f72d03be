-- What a hierarchy is refused for, and the tree of one that is accepted, in the words of the
-- format.
use Rattle.std.specs.Prelude.{◌≡◌, ◌↔◌, ◌⊎◌, ℕ, ◌<◌, ◌≤◌, List, [], length, take, false, Option}
use Rattle.std.specs.Prelude.{Some, None, Ok, Err, IsSome, IsTrue, slice_get, codes}
use Rattle.toml.specs.Data.{Data}
use Rattle.waff_model.specs.Tree.{Node, number_of}
use Rattle.waff_model.specs.declared.format.Format.{Format}
use Rattle.waff_model.specs.declared.kind.Kind.{Kind}
use Rattle.waff_model.specs.declared.limits.TheConstants.{MAX_AFFINITIES}
use Rattle.waff_model.specs.declared.tree.TreeError.{TreeError}
use Rattle.waff_model.specs.declared.tree.TreeError.TheVariants as refusal
use Rattle.waff_read.specs.Affinities.{name_at, is_affinity_name, tree_of, tree_in}
use Rattle.waff_read.specs.Documents.{document_of, text_at}
use Rattle.waff_read.specs.Hierarchies.{hierarchy_of, kind_of, kind_refusal, layout_at}
use Rattle.waff_read.specs.Shapes.{shape_refusal}
use Rattle.waff_read.specs.declared.hier_error.HierError.{HierError}
use Rattle.waff_read.specs.declared.hier_error.HierError.TheVariants as error

-- a row's parent, by its name: none where the row names none, else the affinity of that name among
-- those before
abbrev pub IsParent : List Node → Option (List ℕ) → Option ℕ → Type 0
IsParent before None parent = parent ≡ None
IsParent before (Some name) parent = (p : ℕ) × (number_of before name ≡ Some p) × (parent ≡ Some p)

-- a row behind the rows of these affinities is that of this one
pub record IsAffinity (format : Format) (before : List Node) (row : Data) (node : Node) : Type 0 where
  pub name : name_at row ≡ node.name
  pub named : IsTrue (is_affinity_name format node.name)
  pub new : number_of before node.name ≡ None
  pub parent : IsParent before (text_at (codes "parent") row) node.parent
  pub root : node.parent ≡ None → length before ≡ 0
  pub few : length before < MAX_AFFINITIES

-- each of these affinities is that of the row at its place
pub record AreAffinities (format : Format) (rows : List Data) (tree : List Node) : Type 0 where
  pub count : length tree ≡ length rows
  pub each : (k : ℕ) (row : Data) (node : Node) → slice_get rows k ≡ Some row
      → slice_get tree k ≡ Some node → IsAffinity format (take k tree) row node

-- rows are read as a tree exactly where there is one, and the affinities of the tree are theirs
abbrev pub TreeIsExact : Format → List Data → Type 0
TreeIsExact format rows =
    (tree : List Node)
    → (tree_of format rows ≡ Ok tree) ↔ ((1 ≤ length rows) × AreAffinities format rows tree)

-- the check of this error holds of a row behind the rows of these affinities
abbrev pub HasTreeFault : Format → List Node → Data → TreeError → Type 0
HasTreeFault format before row refusal.Name = is_affinity_name format (name_at row) ≡ false
HasTreeFault format before row refusal.Twice = IsSome (number_of before (name_at row))
HasTreeFault format before row refusal.SecondRoot =
    (text_at (codes "parent") row ≡ None) × (1 ≤ length before)
HasTreeFault format before row refusal.ParentUnknown =
    (name : List ℕ) × (text_at (codes "parent") row ≡ Some name) × (number_of before name ≡ None)
HasTreeFault format before row refusal.TooMany = MAX_AFFINITIES ≤ length before
HasTreeFault format before row refusal.NoRoot = ⊥
HasTreeFault format before row refusal.Memory = ⊥

-- the numbers of the checks
abbrev pub number : TreeError → ℕ
number refusal.Name = 1
number refusal.Twice = 2
number refusal.SecondRoot = 3
number refusal.NoRoot = 4
number refusal.ParentUnknown = 5
number refusal.TooMany = 6
number refusal.Memory = 7

-- the row at this place is refused for the check of least number that holds of it, and each row
-- before it is an affinity
pub record IsFirstRefused (format : Format) (rows : List Data)
    (tree : List Node) (row : Data) (e : TreeError) : Type 0 where
  pub there : slice_get rows (length tree) ≡ Some row
  pub before : AreAffinities format (take (length tree) rows) tree
  pub holds : HasTreeFault format tree row e
  pub least : (other : TreeError) → HasTreeFault format tree row other → number e ≤ number other

-- rows that are no tree are none, or the first row that is no affinity decides
abbrev pub FirstAffinityDecides : Format → List Data → Type 0
FirstAffinityDecides format rows =
    (e : TreeError) → tree_of format rows ≡ Err e
    → ((rows ≡ []) × (e ≡ refusal.NoRoot))
    ⊎ ((tree : List Node) × (row : Data) × IsFirstRefused format rows tree row e)

-- a document that names a kind and has each key that it has to have
pub record IsShaped (bytes : List ℕ) (document : Data) (kind : Kind) : Type 0 where
  pub is_document : document_of bytes ≡ Some document
  pub is_kind : kind_of document ≡ Some kind
  pub is_shaped : shape_refusal document ≡ None

-- and whose affinities are this tree
pub record HasTree (bytes : List ℕ) (document : Data)
    (kind : Kind) (tree : List Node) : Type 0 where
  pub shaped : IsShaped bytes document kind
  pub is_tree : tree_in document ≡ Ok tree

-- the check of this error holds of the bytes, and none before it
abbrev pub IsRefusedHierarchy : List ℕ → HierError → Type 0
IsRefusedHierarchy bytes error.Toml = document_of bytes ≡ None
IsRefusedHierarchy bytes error.Model =
    (document : Data) × (document_of bytes ≡ Some document) × (kind_of document ≡ None)
IsRefusedHierarchy bytes (error.Shape key) =
    (document : Data) × (kind : Kind) × (document_of bytes ≡ Some document)
    × (kind_of document ≡ Some kind) × (shape_refusal document ≡ Some key)
IsRefusedHierarchy bytes (error.Tree e) =
    (document : Data) × (kind : Kind) × IsShaped bytes document kind
    × (tree_in document ≡ Err e)
IsRefusedHierarchy bytes (error.NotClassical affinity) =
    (document : Data) × (kind : Kind) × (tree : List Node) × HasTree bytes document kind tree
    × (kind_refusal kind tree ≡ Some (error.NotClassical affinity))
IsRefusedHierarchy bytes (error.Layout e) =
    (document : Data) × (kind : Kind) × (tree : List Node)
    × HasTree bytes document kind tree × (kind_refusal kind tree ≡ None)
    × (layout_at kind tree document ≡ Err e)
IsRefusedHierarchy bytes error.Memory = ⊥

-- bytes are refused for an error exactly where its check is the first that holds
abbrev pub FirstCheckDecides : List ℕ → Type 0
FirstCheckDecides bytes = (e : HierError) → (hierarchy_of bytes ≡ Err e) ↔ IsRefusedHierarchy bytes e
