use Rattle.std.specs.Option.{ok_or}
use Rattle.std.proofs.lemmas.Result.{err_from_is_err_and}
use Rattle.toml.specs.View.{view}
use Rattle.waff_read.specs.declared.hier_error.HierError.TheVariants.{Toml}
use Rattle.waff_read.specs.Documents.{document_of}
use Rattle.waff_read.specs.Hierarchies.{hierarchy_of, layout_in}
use Rattle.waff_read.proofs.HierarchyLemmas.{stops_at, at_document, at_layout_in}
use Rattle.waff_read.proofs.hierarchy.read_hierarchy.Goals as goal

pub returns-in_err-document : goal.returns-in_err-document
returns-in_err-document c =
    let bytes = c.args.bytes.now in
    let p = err_from_is_err_and c.from_residual.result c.from_residual.ensures.1 in
    rw (p.1, p.2) (stops_at (hierarchy_of bytes) c.in_err-document.field-0.0 (ok_or (document_of bytes) Toml) layout_in (at_document bytes) c.in_err-document.ensures)

pub returns : goal.returns
returns c = rw (at_layout_in c.args.bytes.now (view c.in_ok-document.document) c.in_ok-document.ensures) c.read_layout.ensures
