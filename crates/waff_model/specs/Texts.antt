-- The bytes of a text, wherever they are kept.
use Rattle.std.specs.Prelude.{ℕ, List, string_bytes}
use Rattle.waff_model.specs.declared.name.Bytes.{Bytes}
use Rattle.waff_model.specs.declared.name.Bytes.TheVariants.{Short, Long}

abbrev pub bytes_of : Bytes → List ℕ
bytes_of (Short text) = text.bytes
bytes_of (Long text) = string_bytes text
