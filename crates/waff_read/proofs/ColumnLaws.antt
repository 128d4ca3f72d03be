-- A record of the columns of a version has them.
use Rattle.std.proofs.Common.{◌≡◌, Some, refl}
use Rattle.csv.specs.Records.{field_at}
use Rattle.waff_model.specs.declared.message.Version.{Version}
use Rattle.waff_model.specs.declared.message.Version.TheVariants.{V1, V2, V3, V4}
use Rattle.waff_parse.specs.Fields.{Field}
use Rattle.waff_read.specs.Messages.{columns_of, columns_with, row_of}

pub columns_there : (version : Version) (name cost release client think after ops : Field) → let columns = columns_with version name cost release client think after ops in
    columns_of version (row_of columns) ≡ Some columns
unfolding field_at
columns_there V1 name cost release client think after ops = refl
columns_there V2 name cost release client think after ops = refl
columns_there V3 name cost release client think after ops = refl
columns_there V4 name cost release client think after ops = refl
