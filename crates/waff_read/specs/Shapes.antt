-- Which key of a hierarchy file is missing or of another type than it should be.
use Rattle.std.specs.Prelude.{ℕ, Bool, true, List, [], ◌∷◌, Option, option_map, unwrap_or, is_some}
use Rattle.std.specs.Prelude.{is_none, not, ◌&&◌, ◌||◌, codes}
use Rattle.std.specs.List.{list_any}
use Rattle.toml.specs.Data.{Data, get, as_str, as_table}
use Rattle.waff_model.specs.Formats.{may_lock}
use Rattle.waff_model.specs.Refusals.{first_refusal}
use Rattle.waff_read.specs.Documents.{text_at, integer_at, items_at, rows_at}
use Rattle.waff_read.specs.Formats.{format_of}
use Rattle.waff_read.specs.Spaces.{locks_at}
use Rattle.waff_read.specs.declared.hier_error.Key.{Key}
use Rattle.waff_read.specs.declared.hier_error.Key.TheVariants as key

-- there is no array of tables at the key
abbrev pub lacks_tables : List ℕ → Data → Bool
lacks_tables key value =
    unwrap_or (option_map (list_any (λ row. is_none (as_table row))) (items_at key value)) true

-- there is no array of texts at the key
abbrev pub lacks_texts : List ℕ → Data → Bool
lacks_texts key value =
    unwrap_or (option_map (list_any (λ text. is_none (as_str text))) (items_at key value)) true

-- there is no text at the key
abbrev pub lacks_text : List ℕ → Data → Bool
lacks_text key value = is_none (text_at key value)

-- there is no integer at the key
abbrev pub lacks_integer : List ℕ → Data → Bool
lacks_integer key value = is_none (integer_at key value)

-- there is something else than a text at the key
abbrev pub has_other_than_text : List ℕ → Data → Bool
has_other_than_text key value = is_some (get key value) && lacks_text key value

-- there is no array of tables at the key of the maps, which may be missing where the format has locks
abbrev pub lacks_maps : Data → Bool
lacks_maps document =
    (not (may_lock (format_of document)) || is_some (get (codes "map") document))
    && lacks_tables (codes "map") document

-- there is something else than the name of locks at their key
abbrev pub has_other_than_locks : Data → Bool
has_other_than_locks row = is_some (get (codes "locks") row) && is_none (locks_at row)

-- what is checked of a document's shape, in order
abbrev pub shape_checks : Data → List (Bool × Key)
shape_checks document =
    (lacks_tables (codes "affinity") document, key.Affinities)
    ∷ (lacks_tables (codes "space") document, key.Spaces)
    ∷ (lacks_maps document, key.Maps)
    ∷ (
      list_any (lacks_text (codes "name")) (rows_at (codes "affinity") document)
          || list_any (lacks_text (codes "name")) (rows_at (codes "space") document),
      key.Name,
    )
    ∷ (
      list_any (has_other_than_text (codes "parent")) (rows_at (codes "affinity") document),
      key.Parent,
    )
    ∷ (list_any (lacks_integer (codes "size")) (rows_at (codes "space") document), key.Size)
    ∷ (list_any (lacks_text (codes "space")) (rows_at (codes "map") document), key.Space)
    ∷ (list_any (lacks_integer (codes "unit")) (rows_at (codes "map") document), key.Unit)
    ∷ (list_any (lacks_texts (codes "to")) (rows_at (codes "map") document), key.To)
    ∷ (
      may_lock (format_of document)
          && list_any has_other_than_locks (rows_at (codes "space") document),
      key.Locks,
    )
    ∷ []

-- the first key that is missing or of another type
abbrev pub shape_refusal : Data → Option Key
shape_refusal document = first_refusal (shape_checks document)
