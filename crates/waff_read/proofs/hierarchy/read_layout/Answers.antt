use Rattle.std.proofs.Common.{option_map, refl, sym}
use Rattle.std.specs.Option.{ok_or}
use Rattle.std.proofs.lemmas.Result.{err_from_is_err_and}
use Rattle.toml.specs.View.{view}
use Rattle.waff_parse.specs.Refusals.{told}
use Rattle.waff_read.specs.declared.hier_error.HierError.TheVariants.{Model}
use Rattle.waff_read.specs.Checks.{passed}
use Rattle.waff_read.specs.Shapes.{shape_refusal}
use Rattle.waff_read.specs.Affinities.{tree_in}
use Rattle.waff_read.specs.HierRefusals.{shape_error, tree_error}
use Rattle.waff_read.specs.Hierarchies.{kind_of, kind_refusal, layout_in}
use Rattle.waff_read.proofs.HierarchyLemmas.{tells_at, stops_at, after_kind, after_shape, after_tree, after_level, at_shape, at_tree, at_level, at_layout}
use Rattle.waff_read.proofs.hierarchy.read_layout.Goals as goal

pub returns-in_err-kind : goal.returns-in_err-kind
returns-in_err-kind c =
    let document = view c.args.document.now in
    let p = err_from_is_err_and c.from_residual.result c.from_residual.ensures.1 in
    rw (p.1, p.2)
    (stops_at (layout_in document) c.in_err-kind.field-0.0 (ok_or (kind_of document) Model) (after_kind document) refl
    (tells_at c.in_err-kind.field-0.0 (ok_or (kind_of document) Model) (sym c.in_err-kind.ensures)))

pub returns-in_err-check_shape : goal.returns-in_err-check_shape
returns-in_err-check_shape c =
    let document = view c.args.document.now in
    let kind = c.in_ok-kind.kind in
    let check = passed (option_map shape_error (shape_refusal document)) in
    let p = err_from_is_err_and c.from_residual-in_err-check_shape.result c.from_residual-in_err-check_shape.ensures.1 in
    rw (p.1, p.2)
    (stops_at (layout_in document) c.in_err-check_shape.field-0.0 check (λ _. after_shape document kind) (at_shape document kind c.in_ok-kind.ensures)
    (tells_at c.in_err-check_shape.field-0.0 check (sym c.in_err-check_shape.ensures)))

pub returns-in_err-tree : goal.returns-in_err-tree
returns-in_err-tree c =
    let document = view c.args.document.now in
    let kind = c.in_ok-kind.kind in
    let same = at_tree document kind (at_shape document kind c.in_ok-kind.ensures) c.in_ok-check_shape.ensures in
    let p = err_from_is_err_and c.from_residual-in_err-tree.result c.from_residual-in_err-tree.ensures.1 in
    rw (p.1, p.2)
    (stops_at (layout_in document) c.in_err-tree.field-0.0 (told tree_error (tree_in document)) (after_tree document kind) same c.in_err-tree.ensures)

pub returns-in_err-check_kind : goal.returns-in_err-check_kind
returns-in_err-check_kind c =
    let document = view c.args.document.now in
    let kind = c.in_ok-kind.kind in
    let tree = c.in_ok-tree.tree in
    let check = passed (kind_refusal kind tree) in
    let shaped = at_tree document kind (at_shape document kind c.in_ok-kind.ensures) c.in_ok-check_shape.ensures in
    let p = err_from_is_err_and c.from_residual-in_err-check_kind.result c.from_residual-in_err-check_kind.ensures.1 in
    rw (p.1, p.2)
    (stops_at (layout_in document) c.in_err-check_kind.field-0.0 check (λ _. after_level document kind tree) (at_level document kind tree shaped c.in_ok-tree.ensures)
    (tells_at c.in_err-check_kind.field-0.0 check (sym c.in_err-check_kind.ensures)))

pub returns : goal.returns
returns c =
    let document = view c.args.document.now in
    let kind = c.in_ok-kind.kind in
    let tree = c.in_ok-tree.tree in
    let shaped = at_tree document kind (at_shape document kind c.in_ok-kind.ensures) c.in_ok-check_shape.ensures in
    rw (at_layout document kind tree (at_level document kind tree shaped c.in_ok-tree.ensures) c.in_ok-check_kind.ensures) c.lay_out.ensures
