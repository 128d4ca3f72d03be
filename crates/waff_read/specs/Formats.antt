-- The format of a hierarchy file.
use Rattle.std.specs.Prelude.{ℤ, pos, negsuc, ◌==◌, option_map, unwrap_or, codes, if◌then◌else◌}
use Rattle.toml.specs.Data.{Data}
use Rattle.waff_model.specs.declared.format.Format.{Format}
use Rattle.waff_model.specs.declared.format.Format.TheVariants.{F1, F2, F3}
use Rattle.waff_read.specs.Documents.{integer_at}

-- the format of this number: the second and the third have one, and all others count for nothing
abbrev pub format_numbered : ℤ → Format
format_numbered (pos n) = if n == 2 then F2 else (if n == 3 then F3 else F1)
format_numbered (negsuc n) = F1

-- the format of a document, the first where it names none
abbrev pub format_of : Data → Format
format_of document =
    unwrap_or (option_map format_numbered (integer_at (codes "format") document)) F1
