use Rattle.std.proofs.Common.{◌∙◌, ◌&&◌, Bool, codes, ap, refl}
use Rattle.toml.specs.Data.{Data}
use Rattle.toml.specs.View.{view}
use Rattle.waff_model.specs.Formats.{may_lock}
use Rattle.waff_read.specs.Documents.{rows_at}
use Rattle.waff_read.specs.Formats.{format_of}
use Rattle.waff_read.specs.Shapes.{lacks_text, lacks_integer, lacks_texts, has_other_than_text, has_other_than_locks}
use Rattle.waff_read.proofs.DocumentLemmas.{list_any-of}
use Rattle.waff_read.proofs.shape.shape_refusal.Goals as goal

pub returns : goal.returns
returns c =
    let document = view c.args.document.now in
    let affinities = λ (p : Data → Bool). list_any-of p view c.rows-affinities.result.now (rows_at (codes "affinity") document) c.rows-affinities.ensures in
    let spaces = λ (p : Data → Bool). list_any-of p view c.rows-spaces.result.now (rows_at (codes "space") document) c.rows-spaces.ensures in
    let maps = λ (p : Data → Bool). list_any-of p view c.rows-maps.result.now (rows_at (codes "map") document) c.rows-maps.ensures in
    let parent = c.any_has_other_than_text.ensures ∙ affinities (has_other_than_text (codes "parent")) in
    let size = c.any_lacks_integer.ensures ∙ spaces (lacks_integer (codes "size")) in
    let space = c.any_lacks_text.ensures ∙ maps (lacks_text (codes "space")) in
    let unit = c.any_lacks_integer-2.ensures ∙ maps (lacks_integer (codes "unit")) in
    let to = c.any_lacks_texts.ensures ∙ maps (lacks_texts (codes "to")) in
    let locks = c.has_bad_locks.ensures ∙ ap (λ b. may_lock (format_of document) && b) (spaces has_other_than_locks) in
    rw (c.first_refusal.ensures, c.lacks_tables.ensures, c.lacks_tables-2.ensures, c.lacks_maps.ensures, c.lacks_names.ensures, affinities (lacks_text (codes "name")), spaces (lacks_text (codes "name")), parent, size, space, unit, to, locks) refl
