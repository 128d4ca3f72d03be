-- How far the reading of a hierarchy has come.
use Rattle.std.proofs.Common.{◌≡◌, ◌≢◌, ℕ, List, Option, Some, None, Result, Ok, Err, option_map, unwrap_or, map, refl, sym, ap, ◌∙◌}
use Rattle.std.specs.Option.{ok_or}
use Rattle.toml.specs.Data.{Data}
use Rattle.toml.specs.View.{view}
use Rattle.toml.specs.declared.value.Value.{Value}
use Rattle.waff_parse.specs.Refusals.{◌>>=◌, told}
use Rattle.waff_model.specs.Tree.{Node}
use Rattle.waff_model.specs.Layout.{Hierarchy}
use Rattle.waff_model.specs.LayoutOf as model
use Rattle.waff_model.specs.LayoutRefusal.{layout_refusal}
use Rattle.waff_model.specs.declared.layout_rows.SpaceSpec.{SpaceSpec}
use Rattle.waff_model.specs.declared.layout_rows.MapSpec.{MapSpec}
use Rattle.waff_model.specs.declared.layout_rows.LayoutError.{LayoutError}
use Rattle.waff_model.specs.declared.layout_rows.LayoutError.TheVariants.{Memory}
use Rattle.waff_model.specs.declared.format.Format.{Format}
use Rattle.waff_model.specs.declared.kind.Kind.{Kind}
use Rattle.waff_read.specs.declared.hier_error.HierError.{HierError}
use Rattle.waff_read.specs.declared.hier_error.HierError.TheVariants as error
use Rattle.waff_read.specs.Checks.{passed}
use Rattle.waff_read.specs.Documents.{document_of}
use Rattle.waff_read.specs.Shapes.{shape_refusal}
use Rattle.waff_read.specs.Affinities.{tree_in}
use Rattle.waff_read.proofs.DocumentLemmas.{map_map}
use Rattle.waff_read.specs.HierRefusals.{Tells, shape_error, tree_error, layout_error}
use Rattle.waff_read.specs.Hierarchies.{kind_of, kind_refusal, layout_at, layout_in, hierarchy_of}

-- a fault tells a reading that ends in it
pub tells_at : {A : Type 0} (e : HierError) (read : Result A HierError) → read ≡ Err e → Tells e read
tells_at error.Toml read ends = ends
tells_at error.Model read ends = ends
tells_at (error.Shape key) read ends = ends
tells_at (error.Tree refusal) read ends = ends
tells_at (error.NotClassical affinity) read ends = ends
tells_at (error.Layout refusal) read ends = ends
tells_at error.Memory read ends = tt

-- an error that tells the first of two readings tells both
tells_bind : {A B : Type 0} (e : HierError) (read : Result A HierError) (next : A → Result B HierError) → Tells e read → Tells e (read >>= next)
tells_bind error.Toml read next tells = rw tells refl
tells_bind error.Model read next tells = rw tells refl
tells_bind (error.Shape key) read next tells = rw tells refl
tells_bind (error.Tree refusal) read next tells = rw tells refl
tells_bind (error.NotClassical affinity) read next tells = rw tells refl
tells_bind (error.Layout refusal) read next tells = rw tells refl
tells_bind error.Memory read next tells = tt

-- an error that tells the next step tells the whole
pub stops_at : {A : Type 0} (whole : Result Hierarchy HierError) (e : HierError) (read : Result A HierError) (next : A → Result Hierarchy HierError) → whole ≡ (read >>= next) → Tells e read → Tells e whole
stops_at whole e read next same tells = rw same (tells_bind e read next tells)

-- what is left to be read after each step
abbrev pub after_level : Data → Kind → List Node → Result Hierarchy HierError
after_level document kind tree = told layout_error (layout_at kind tree document)

abbrev pub after_tree : Data → Kind → List Node → Result Hierarchy HierError
after_tree document kind tree = passed (kind_refusal kind tree) >>= (λ _. after_level document kind tree)

abbrev pub after_shape : Data → Kind → Result Hierarchy HierError
after_shape document kind = told tree_error (tree_in document) >>= after_tree document kind

abbrev pub after_kind : Data → Kind → Result Hierarchy HierError
after_kind document kind = passed (option_map shape_error (shape_refusal document)) >>= (λ _. after_shape document kind)

module _ (bytes : List ℕ) where
  pub at_document : hierarchy_of bytes ≡ (ok_or (document_of bytes) error.Toml >>= layout_in)
  unfolding hierarchy_of
  at_document = refl

  pub at_layout_in : (document : Data) → ok_or (document_of bytes) error.Toml ≡ Ok document → hierarchy_of bytes ≡ layout_in document
  at_layout_in document read = at_document ∙ rw read refl

module _ (document : Data) (kind : Kind) where
  pub at_shape : Ok kind ≡ ok_or (kind_of document) error.Model → layout_in document ≡ after_kind document kind
  at_shape read = rw (← read) refl

  pub at_tree : layout_in document ≡ after_kind document kind → Ok tt ≡ passed (option_map shape_error (shape_refusal document)) → layout_in document ≡ after_shape document kind
  at_tree same read = same ∙ rw (← read) refl

  pub at_level : (tree : List Node) → layout_in document ≡ after_shape document kind → told tree_error (tree_in document) ≡ Ok tree → layout_in document ≡ after_tree document kind tree
  at_level tree same read = same ∙ rw read refl

  pub at_layout : (tree : List Node) → layout_in document ≡ after_tree document kind tree → Ok tt ≡ passed (kind_refusal kind tree) → layout_in document ≡ after_level document kind tree
  at_layout tree same read = same ∙ rw (← read) refl

refused_some : (refusal : Option LayoutError) (e : LayoutError) → e ≡ unwrap_or refusal Memory → e ≢ Memory → refusal ≡ Some e
refused_some None e same other = absurd (other same)
refused_some (Some refusal) e same other = ap Some (sym same)

module _ (format : Format) (kind : Kind) (tree : List Node) (spaces : List SpaceSpec) (maps : List MapSpec) where
  -- rows that are not refused are read as their layout
  pub layout_read : layout_refusal format tree spaces maps ≡ None → told layout_error (model.layout_of format kind tree spaces maps) ≡ Ok (model.hierarchy_of format kind tree spaces maps)
  layout_read accepted = rw accepted refl

  -- rows that are refused are read as that refusal
  pub layout_refused : (e : LayoutError) → e ≡ unwrap_or (layout_refusal format tree spaces maps) Memory → e ≢ Memory → told layout_error (model.layout_of format kind tree spaces maps) ≡ Err (error.Layout e)
  layout_refused e refused other =
      let refusal : layout_refusal format tree spaces maps ≡ Some e = refused_some (layout_refusal format tree spaces maps) e refused other in
      rw refusal refl

-- the rows of a document as spaces and as maps
pub all_of : {A : Type 0} (f : Data → A) (rows : List Value) (values : List Data) → map view rows ≡ values → map (λ row. f (view row)) rows ≡ map f values
all_of f rows values same = sym (map_map f view rows) ∙ ap (map f) same
