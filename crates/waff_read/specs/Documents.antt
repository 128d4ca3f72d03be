-- What the values of a TOML document have at their keys.
use Rattle.std.specs.Prelude.{ℕ, ℤ, List, [], ◌∷◌, Option, None, option_map, option_and_then}
use Rattle.std.specs.Prelude.{unwrap_or, if◌then◌else◌}
use Rattle.std.specs.Str.{is_utf8}
use Rattle.toml.specs.Data.{Data, table, Items, no_items, item, get, as_str, as_integer, as_array}
use Rattle.toml.specs.Parse.{parse_document}

-- the document that the bytes are
abbrev pub document_of : List ℕ → Option Data
document_of bytes = if is_utf8 bytes then option_map table (parse_document bytes) else None

-- the items of an array as a list
abbrev pub list_of : Items → List Data
list_of no_items = []
list_of (item value more) = value ∷ list_of more

-- the text at a key, if there is one
abbrev pub text_at : List ℕ → Data → Option (List ℕ)
text_at key value = option_and_then as_str (get key value)

-- the integer at a key, if there is one
abbrev pub integer_at : List ℕ → Data → Option ℤ
integer_at key value = option_and_then as_integer (get key value)

-- the items of the array at a key, if there is one
abbrev pub items_at : List ℕ → Data → Option (List Data)
items_at key value = option_map list_of (option_and_then as_array (get key value))

-- the items of the array at a key, none where there is no array
abbrev pub rows_at : List ℕ → Data → List Data
rows_at key value = unwrap_or (items_at key value) []
