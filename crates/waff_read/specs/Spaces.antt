-- The spaces and the maps of a hierarchy file.
use Rattle.std.specs.Prelude.{ℕ, List, pos, [], Option, Some, None, option_and_then, unwrap_or, map}
use Rattle.std.specs.Prelude.{codes, if◌then◌else◌}
use Rattle.std.specs.Str.{bytes_eq}
use Rattle.toml.specs.Data.{Data, as_str}
use Rattle.waff_model.specs.Formats.{may_lock}
use Rattle.waff_model.specs.declared.format.Format.{Format}
use Rattle.waff_model.specs.declared.layout_rows.SpaceSpec.{SpaceSpec}
use Rattle.waff_model.specs.declared.locking.Locking.{Locking}
use Rattle.waff_model.specs.declared.locking.Locking.TheVariants.{Unlocked, Exclusive, Shared}
use Rattle.waff_model.specs.declared.layout_rows.MapSpec.{MapSpec}
use Rattle.waff_read.specs.Documents.{text_at, integer_at, rows_at}
use Rattle.waff_read.specs.Formats.{format_of}

-- the locks of this name
abbrev pub locks_named : List ℕ → Option Locking
locks_named name =
    if bytes_eq name (codes "exclusive") then Some Exclusive
    else (if bytes_eq name (codes "shared") then Some Shared else None)

-- the locks that a row names
abbrev pub locks_at : Data → Option Locking
locks_at row = option_and_then locks_named (text_at (codes "locks") row)

-- the locks of a row's space: what it names counts where the format has locks
abbrev pub locks_of : Format → Data → Locking
locks_of format row = if may_lock format then unwrap_or (locks_at row) Unlocked else Unlocked

-- the space of a row
abbrev pub space_of : Format → Data → SpaceSpec
space_of format row = record {
  name = unwrap_or (text_at (codes "name") row) [];
  size = unwrap_or (integer_at (codes "size") row) (pos 0);
  locks = locks_of format row;
}

-- the map of a row
abbrev pub map_of : Data → MapSpec
map_of row = record {
  space = unwrap_or (text_at (codes "space") row) [];
  unit = unwrap_or (integer_at (codes "unit") row) (pos 0);
  to = map (λ text. unwrap_or (as_str text) []) (rows_at (codes "to") row);
}

-- the spaces and the maps of a document
abbrev pub spaces_in : Data → List SpaceSpec
spaces_in document = map (space_of (format_of document)) (rows_at (codes "space") document)

abbrev pub maps_in : Data → List MapSpec
maps_in document = map map_of (rows_at (codes "map") document)
