-- A hierarchy is accepted exactly where no check holds, and a classical one has two levels at most.
use Rattle.std.proofs.Common.{◌≡◌, false, ℕ, ◌<◌, ◌≤◌, nat_lt, List, [], ◌∷◌, ◌++◌, length, map, Option, Some, None, option_map, unwrap_or, Result, Ok, Err, IsSome, codes, refl, sym, ap, ◌∙◌, arith}
use Rattle.std.specs.Option.{ok_or}
use Rattle.std.proofs.lemmas.Bool.{ltb-false}
use Rattle.toml.specs.Data.{Data}
use Rattle.waff_parse.specs.Refusals.{◌>>=◌, told}
use Rattle.waff_model.specs.Tree.{Node, IsRooted, parent_of}
use Rattle.waff_model.specs.Layout.{Hierarchy}
use Rattle.waff_model.specs.LayoutOf as model
use Rattle.waff_model.specs.LayoutRefusal.{layout_refusal}
use Rattle.waff_model.specs.declared.format.Format.{Format}
use Rattle.waff_model.specs.declared.kind.Kind.{Kind}
use Rattle.waff_model.specs.declared.kind.Kind.TheVariants.{Classical}
use Rattle.waff_model.specs.declared.layout_rows.SpaceSpec.{SpaceSpec}
use Rattle.waff_model.specs.declared.layout_rows.MapSpec.{MapSpec}
use Rattle.waff_model.specs.declared.layout_rows.LayoutError.{LayoutError}
use Rattle.waff_model.specs.declared.tree.TreeError.{TreeError}
use Rattle.waff_model.proofs.TreeLemmas.{fits_unless_refused, rooted-push}
use Rattle.waff_read.specs.declared.hier_error.HierError.TheVariants as error
use Rattle.waff_read.specs.Affinities.{node_in, row_refusal, tree_from, tree_of, tree_in}
use Rattle.waff_read.specs.Checks.{passed}
use Rattle.waff_read.specs.Documents.{document_of, rows_at}
use Rattle.waff_read.specs.Formats.{format_of}
use Rattle.waff_read.specs.HierRefusals.{shape_error, tree_error, layout_error, level_error}
use Rattle.waff_read.specs.Hierarchies.{hierarchy_of, kind_of, kind_refusal, layout_at, layout_in, third_level_of}
use Rattle.waff_read.specs.Laws.{Describes, HierarchyIsExact, ClassicalHasTwoLevels}
use Rattle.waff_read.specs.Shapes.{shape_refusal}
use Rattle.waff_read.specs.Spaces.{space_of, map_of}
use Rattle.waff_read.proofs.AffinityLemmas.{row_accepted}
use Rattle.waff_read.proofs.HierarchyLemmas.{after_kind, after_shape, after_tree, after_level, at_document}
use Rattle.waff_read.proofs.LevelLemmas.{level_none}

-- where two readings in turn give a value, the first gives one, and the second then gives the value
bind_read : {F A B : Type 0} (r : Result A F) (f : A → Result B F) (b : B) → (r >>= f) ≡ Ok b → (a : A) × (r ≡ Ok a) × (f a ≡ Ok b)
bind_read (Ok a) f b h = (a, refl, h)
bind_read (Err e) f b h = absurd (cc)

ok_or-read : {F A : Type 0} (o : Option A) (e : F) (a : A) → ok_or o e ≡ Ok a → o ≡ Some a
ok_or-read None e a h = absurd (cc)
ok_or-read (Some x) e a h = cc

passed-read : {F : Type 0} (o : Option F) (u : Unit {0}) → passed o ≡ Ok u → o ≡ None
passed-read None u h = refl
passed-read (Some e) u h = absurd (cc)

map-none : {A B : Type 0} (f : A → B) (o : Option A) → option_map f o ≡ None → o ≡ None
map-none f None h = refl
map-none f (Some x) h = absurd (cc)

told-read : {E F A : Type 0} (name : E → F) (r : Result A E) (a : A) → told name r ≡ Ok a → r ≡ Ok a
told-read name (Ok x) a h = cc
told-read name (Err e) a h = absurd (cc)

module _ (bytes : List ℕ) (layout : Hierarchy) where
  read-describes : hierarchy_of bytes ≡ Ok layout → Describes bytes layout
  read-describes h =
      let d = bind_read (ok_or (document_of bytes) error.Toml) layout_in layout (sym (at_document bytes) ∙ h) in
      let k = bind_read (ok_or (kind_of d.0) error.Model) (after_kind d.0) layout d.2 in
      let s = bind_read (passed (option_map shape_error (shape_refusal d.0))) (λ _. after_shape d.0 k.0) layout k.2 in
      let t = bind_read (told tree_error (tree_in d.0)) (after_tree d.0 k.0) layout s.2 in
      let l = bind_read (passed (kind_refusal k.0 t.0)) (λ _. after_level d.0 k.0 t.0) layout t.2 in
      record {
        document = d.0;
        kind = k.0;
        tree = t.0;
        is_document = ok_or-read (document_of bytes) error.Toml d.0 d.1;
        is_kind = ok_or-read (kind_of d.0) error.Model k.0 k.1;
        is_shaped = map-none shape_error (shape_refusal d.0) (passed-read (option_map shape_error (shape_refusal d.0)) s.0 s.1);
        is_tree = told-read tree_error (tree_in d.0) t.0 t.1;
        fits = passed-read (kind_refusal k.0 t.0) l.0 l.1;
        is_layout = told-read layout_error (layout_at k.0 t.0 d.0) layout l.2;
      }

  describes-read : Describes bytes layout → hierarchy_of bytes ≡ Ok layout
  describes-read d = at_document bytes ∙ rw (d.is_document, d.is_kind, d.is_shaped, d.is_tree, d.fits, d.is_layout) refl

pub hierarchy_is_exact : (bytes : List ℕ) (layout : Hierarchy) → HierarchyIsExact bytes layout
hierarchy_is_exact bytes layout = (read-describes bytes layout, describes-read bytes layout)

-- rows that are read make a rooted tree
rooted-none : IsRooted []
rooted-none = record {
  root = refl;
  others = λ b above within. absurd (omega arith);
  earlier = λ b p parent. absurd (cc parent);
  few = omega arith;
}

rooted-tree_from : (format : Format) (tree : List Node) (rows : List Data) (read : List Node) → IsRooted tree → tree_from format tree rows ≡ Ok read → IsRooted read
unfolding tree_from
rooted-tree_from format tree [] read rooted done = let same : tree ≡ read = cc in rw (← same) rooted
rooted-tree_from format tree (row ∷ more) read rooted done =
    by (row_refusal format tree row) refl done (rooted-tree_from format (tree ++ node_in tree row ∷ []) more read)
  where
    by : (check : Option TreeError) → row_refusal format tree row ≡ check
        → (passed check >>= (λ _. tree_from format (tree ++ node_in tree row ∷ []) more)) ≡ Ok read
        → (IsRooted (tree ++ node_in tree row ∷ []) → tree_from format (tree ++ node_in tree row ∷ []) more ≡ Ok read → IsRooted read)
        → IsRooted read
    by None accepted done rest =
        rest (rooted-push tree (node_in tree row) rooted (fits_unless_refused tree (node_in tree row) (row_accepted format tree row accepted).1)) done
    by (Some e) refused done rest = absurd (cc)

pub rooted-tree_of : (format : Format) (rows : List Data) (read : List Node) → tree_of format rows ≡ Ok read → IsRooted read
rooted-tree_of format [] read done = absurd (cc)
rooted-tree_of format (row ∷ more) read done = rooted-tree_from format [] (row ∷ more) read rooted-none done

-- a layout is the one of the rows that it is made of
pub layout_of-made : (format : Format) (kind : Kind) (tree : List Node) (spaces : List SpaceSpec) (maps : List MapSpec) (layout : Hierarchy)
    → model.layout_of format kind tree spaces maps ≡ Ok layout → layout ≡ model.hierarchy_of format kind tree spaces maps
layout_of-made format kind tree spaces maps layout h = by (layout_refusal format tree spaces maps) refl
  where
    by : (o : Option LayoutError) → layout_refusal format tree spaces maps ≡ o → layout ≡ model.hierarchy_of format kind tree spaces maps
    by None is = let made = rw is at h in cc
    by (Some e) is = let made = rw is at h in absurd (cc)

-- and so of their kind and over their tree
pub layout_of-over : (format : Format) (kind : Kind) (tree : List Node) (spaces : List SpaceSpec) (maps : List MapSpec) (layout : Hierarchy)
    → model.layout_of format kind tree spaces maps ≡ Ok layout → (layout.kind ≡ kind) × (layout.tree ≡ tree)
layout_of-over format kind tree spaces maps layout h =
    let same = layout_of-made format kind tree spaces maps layout h in
    (ap (λ (l : Hierarchy). l.kind) same, ap (λ (l : Hierarchy). l.tree) same)

-- a parent that is none but the root is the root
root_parent : (parent : Option ℕ) → IsSome parent → nat_lt 0 (unwrap_or parent 0) ≡ false → parent ≡ Some 0
root_parent None some below = absurd (cc)
root_parent (Some p) some below =
    let at : p ≤ 0 = ltb-false 0 p below in
    let same : p ≡ 0 = omega arith in
    ap Some same

pub classical_has_two_levels : (bytes : List ℕ) (layout : Hierarchy) → ClassicalHasTwoLevels bytes layout
classical_has_two_levels bytes layout read classical affinity above inside =
    let d = read-describes bytes layout read in
    let over = layout_of-over (format_of d.document) d.kind d.tree (map (space_of (format_of d.document)) (rows_at (codes "space") d.document)) (map map_of (rows_at (codes "map") d.document)) layout d.is_layout in
    let kind : d.kind ≡ Classical = sym over.0 ∙ classical in
    let fits : kind_refusal Classical d.tree ≡ None = rw kind at d.fits in
    let none = map-none level_error (third_level_of d.tree) fits in
    let rooted = rooted-tree_of (format_of d.document) (rows_at (codes "affinity") d.document) d.tree d.is_tree in
    let within : affinity < length d.tree = rw over.1 at inside in
    rw over.1 (root_parent (parent_of d.tree affinity) (rooted.others affinity above within) (level_none d.tree none affinity within))
