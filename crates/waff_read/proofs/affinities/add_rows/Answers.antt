use Rattle.std.proofs.Common.{◌∙◌, ap, sym, subst, arith}
use Rattle.std.proofs.lemmas.Result.{err_from_is_err_and}
use Rattle.toml.specs.View.{view}
use Rattle.waff_parse.specs.Stopping.{Stops}
use Rattle.waff_parse.specs.declared.stop.Stop.TheVariants.{Fault}
use Rattle.waff_model.specs.declared.tree.TreeError.TheVariants.{Name}
use Rattle.waff_read.specs.Affinities.{is_affinity_name}
use Rattle.waff_read.proofs.AffinityLemmas.{row_named, row_unnamed, goes_on, stops, ends}
use Rattle.waff_read.proofs.affinities.add_rows.Goals as goal

pub returns-then-not-is_affinity_name : goal.returns-then-not-is_affinity_name
returns-then-not-is_affinity_name c =
    let row = c.row-item.result in
    let unnamed = sym (ap (is_affinity_name c.args.format) c.name_of.ensures) ∙ sym c.is_affinity_name.ensures ∙ c.if-not-is_affinity_name.true in
    stops c.args.format c.loop-row.tree c.args.rows.now c.loop-row.row-index row (omega arith) c.row-item.is (Fault Name)
    (row_unnamed c.args.format c.loop-row.tree (view row) unnamed) c.loop-row.invariant.tree

pub returns-in_err-add_row : goal.returns-in_err-add_row
returns-in_err-add_row c =
    let row = c.row-item.result in
    let named = sym (ap (is_affinity_name c.args.format) c.name_of.ensures) ∙ sym c.is_affinity_name.ensures ∙ c.if-not-is_affinity_name.false in
    let p = err_from_is_err_and c.from_residual.result c.from_residual.ensures.1 in
    let e = c.in_err-add_row.field-0.0 in
    rw (p.1, p.2)
    (stops c.args.format c.loop-row.tree c.args.rows.now c.loop-row.row-index row (omega arith) c.row-item.is e
    (subst (Stops e) (row_named c.args.format c.loop-row.tree (view row) named) c.in_err-add_row.ensures.checked) c.loop-row.invariant.tree)

pub loop-row-preserved : goal.loop-row-preserved
loop-row-preserved c =
    let row = c.row-item.result in
    let named = sym (ap (is_affinity_name c.args.format) c.name_of.ensures) ∙ sym c.is_affinity_name.ensures ∙ c.if-not-is_affinity_name.false in
    let accepted = sym (row_named c.args.format c.loop-row.tree (view row) named) ∙ c.in_ok-add_row.ensures.checked in record {
      names = c.in_ok-add_row.ensures.names;
      few = c.in_ok-add_row.ensures.few;
      tree = rw c.in_ok-add_row.ensures.added
          (goes_on c.args.format c.loop-row.tree c.args.rows.now c.loop-row.row-index row (omega arith) c.row-item.is accepted ∙ c.loop-row.invariant.tree);
    }

pub returns : goal.returns
returns c = ends c.args.format c.loop-row.tree c.args.rows.now c.loop-row.row-index (omega arith) c.loop-row.invariant.tree
