use Rattle.std.proofs.Common.{◌∙◌, ap, map, codes}
use Rattle.toml.specs.View.{view}
use Rattle.toml.specs.declared.value.Value.{Value}
use Rattle.waff_read.specs.Documents.{rows_at}
use Rattle.waff_read.specs.Formats.{format_of}
use Rattle.waff_read.specs.Spaces.{space_of, map_of}
use Rattle.waff_read.proofs.HierarchyLemmas.{all_of}
use Rattle.waff_read.proofs.hierarchy.read_rows.Goals as goal

pub returns-in-Ok : goal.returns-in-Ok
returns-in-Ok c =
    let document = view c.args.document.now in record {
      spaces = c.in_ok-spaces.ensures ∙ ap (λ format. map (λ (row : Value). space_of format (view row)) c.rows.result.now) c.read_format-format.ensures ∙ all_of (space_of (format_of document)) c.rows.result.now (rows_at (codes "space") document) c.rows.ensures;
      maps = c.in-Ok.ensures ∙ all_of map_of c.rows-2.result.now (rows_at (codes "map") document) c.rows-2.ensures;
    }
