-- The tree of rows of affinities, and which check of a hierarchy decides.
use Rattle.std.proofs.Common.{◌≡◌, ℕ, List, Option, Some, None, option_map, Result, Ok, Err, refl, sym, ◌∙◌, subst}
use Rattle.std.specs.Option.{ok_or}
use Rattle.toml.specs.Data.{Data}
use Rattle.waff_parse.specs.Refusals.{◌>>=◌, told}
use Rattle.waff_model.specs.Layout.{Hierarchy}
use Rattle.waff_model.specs.Tree.{Node}
use Rattle.waff_model.specs.declared.kind.Kind.{Kind}
use Rattle.waff_model.specs.declared.kind.Kind.TheVariants.{Classical, Hierarchical}
use Rattle.waff_model.specs.declared.layout_rows.LayoutError.{LayoutError}
use Rattle.waff_model.specs.declared.tree.TreeError.{TreeError}
use Rattle.waff_read.specs.Affinities.{tree_in}
use Rattle.waff_read.specs.Checks.{passed}
use Rattle.waff_read.specs.Documents.{document_of}
use Rattle.waff_read.specs.HierRefusals.{shape_error, tree_error, layout_error, level_error}
use Rattle.waff_read.specs.Hierarchies.{hierarchy_of, kind_of, kind_refusal, layout_at, layout_in, third_level_of}
use Rattle.waff_read.specs.Shapes.{shape_refusal}
use Rattle.waff_read.specs.declared.hier_error.HierError.{HierError}
use Rattle.waff_read.specs.declared.hier_error.HierError.TheVariants as error
use Rattle.waff_read.specs.declared.hier_error.Key.{Key}
use Rattle.waff_read.specs.Refused.{IsShaped, HasTree, IsRefusedHierarchy, FirstCheckDecides}
use Rattle.waff_read.proofs.HierarchyLemmas.{after_kind, after_shape, after_tree, after_level, at_document}

module _ (bytes : List ℕ) (e : HierError) where
  layout_refused : (document : Data) (kind : Kind) (tree : List Node) → HasTree bytes document kind tree → kind_refusal kind tree ≡ None
      → (r : Result Hierarchy LayoutError) → layout_at kind tree document ≡ r → told layout_error r ≡ Err e → IsRefusedHierarchy bytes e
  layout_refused document kind tree has fits (Ok layout) is same = absurd (cc)
  layout_refused document kind tree has fits (Err d) is same =
      let named : error.Layout d ≡ e = cc in
      subst (IsRefusedHierarchy bytes) named (document, kind, tree, has, fits, is)

  level_refused : (document : Data) (kind : Kind) (tree : List Node) → HasTree bytes document kind tree → (third : Option ℕ)
      → kind_refusal kind tree ≡ option_map level_error third
      → (passed (option_map level_error third) >>= (λ _. after_level document kind tree)) ≡ Err e → IsRefusedHierarchy bytes e
  level_refused document kind tree has None is same = layout_refused document kind tree has is (layout_at kind tree document) refl same
  level_refused document kind tree has (Some a) is same =
      let named : level_error a ≡ e = cc in
      subst (IsRefusedHierarchy bytes) named (document, kind, tree, has, is)

  kind_refused : (document : Data) (kind : Kind) (tree : List Node) → HasTree bytes document kind tree → after_tree document kind tree ≡ Err e → IsRefusedHierarchy bytes e
  kind_refused document Classical tree has same = level_refused document Classical tree has (third_level_of tree) refl same
  kind_refused document Hierarchical tree has same = level_refused document Hierarchical tree has None refl same

  tree_refused : (document : Data) (kind : Kind) → IsShaped bytes document kind → (r : Result (List Node) TreeError)
      → tree_in document ≡ r → (told tree_error r >>= after_tree document kind) ≡ Err e → IsRefusedHierarchy bytes e
  tree_refused document kind shaped (Ok tree) is same = kind_refused document kind tree (record { shaped = shaped; is_tree = is }) same
  tree_refused document kind shaped (Err d) is same =
      let named : error.Tree d ≡ e = cc in
      subst (IsRefusedHierarchy bytes) named (document, kind, shaped, is)

  shape_refused : (document : Data) (kind : Kind) → document_of bytes ≡ Some document → kind_of document ≡ Some kind → (o : Option Key)
      → shape_refusal document ≡ o → (passed (option_map shape_error o) >>= (λ _. after_shape document kind)) ≡ Err e → IsRefusedHierarchy bytes e
  shape_refused document kind is_document is_kind None is same =
      tree_refused document kind (record { is_document = is_document; is_kind = is_kind; is_shaped = is }) (tree_in document) refl same
  shape_refused document kind is_document is_kind (Some key) is same =
      let named : shape_error key ≡ e = cc in
      subst (IsRefusedHierarchy bytes) named (document, kind, is_document, is_kind, is)

  model_refused : (document : Data) → document_of bytes ≡ Some document → (o : Option Kind) → kind_of document ≡ o
      → (ok_or o error.Model >>= after_kind document) ≡ Err e → IsRefusedHierarchy bytes e
  model_refused document is_document (Some kind) is same = shape_refused document kind is_document is (shape_refusal document) refl same
  model_refused document is_document None is same =
      let named : error.Model ≡ e = cc in
      subst (IsRefusedHierarchy bytes) named (document, is_document, is)

  document_refused : (o : Option Data) → document_of bytes ≡ o → (ok_or o error.Toml >>= layout_in) ≡ Err e → IsRefusedHierarchy bytes e
  document_refused (Some document) is same = model_refused document is (kind_of document) refl same
  document_refused None is same =
      let named : error.Toml ≡ e = cc in
      subst (IsRefusedHierarchy bytes) named is

refused_is : (bytes : List ℕ) (e : HierError) → IsRefusedHierarchy bytes e → hierarchy_of bytes ≡ Err e
refused_is bytes error.Toml none = at_document bytes ∙ rw none refl
refused_is bytes error.Model (document, is, none) = at_document bytes ∙ rw (is, none) refl
refused_is bytes (error.Shape key) (document, kind, is, named, some) = at_document bytes ∙ rw (is, named, some) refl
refused_is bytes (error.Tree d) (document, kind, s, refused) = at_document bytes ∙ rw (s.is_document, s.is_kind, s.is_shaped, refused) refl
refused_is bytes (error.NotClassical a) (document, kind, tree, has, refused) =
    let s = has.shaped in
    at_document bytes ∙ rw (s.is_document, s.is_kind, s.is_shaped, has.is_tree, refused) refl
refused_is bytes (error.Layout d) (document, kind, tree, has, fits, refused) =
    let s = has.shaped in
    at_document bytes ∙ rw (s.is_document, s.is_kind, s.is_shaped, has.is_tree, fits, refused) refl
refused_is bytes error.Memory never = absurd never

pub first_check_decides : (bytes : List ℕ) → FirstCheckDecides bytes
first_check_decides bytes e = (
  λ refused. document_refused bytes e (document_of bytes) refl (sym (at_document bytes) ∙ refused),
  refused_is bytes e,
)
