-- Messages as records of a trace.
use Rattle.std.specs.Prelude.{ℕ, ◌+◌, ◌-◌, ◌==◌, List, [], ◌∷◌, ◌++◌, length, Option, Some, None}
use Rattle.std.specs.Prelude.{ok_or, Result, Ok, Err, codes, nat_le, nat_lt, Bool, true, false}
use Rattle.std.specs.Prelude.{◌&&◌, if◌then◌else◌}
use Rattle.std.specs.Str.{bytes_eq}
use Rattle.waff_model.specs.Layout.{Space}
use Rattle.waff_model.specs.Messages.{no_client}
use Rattle.waff_model.specs.Names.{is_name}
use Rattle.waff_model.specs.Versions as versions
use Rattle.waff_model.specs.Versions.{has_after, has_clients, has_releases}
use Rattle.waff_model.specs.declared.limits.TheConstants.{MAX_COST, MAX_RELEASE, MAX_THINK}
use Rattle.waff_model.specs.declared.message.Message.{Message}
use Rattle.waff_model.specs.declared.message.Version.{Version}
use Rattle.waff_model.specs.declared.message.Version.TheVariants.{V1, V2, V3, V4}
use Rattle.waff_parse.specs.Fields.{Field, field_of}
use Rattle.waff_parse.specs.Refusals.{◌>>=◌}
use Rattle.waff_parse.specs.Rows.{Record}
use Rattle.waff_parse.specs.Texts.{number_within}
use Rattle.waff_read.specs.Awaits.{after_of}
use Rattle.waff_read.specs.Pieces.{ops_of}
use Rattle.waff_read.specs.Places.{most_ops}
use Rattle.waff_read.specs.declared.place.Place.{Place}
use Rattle.waff_read.specs.declared.trace_fault.TraceFault.{TraceFault}
use Rattle.waff_read.specs.declared.trace_fault.TraceFault.TheVariants as fault

-- the fields of a message: none is the field of a column that the version has not
pub record Columns : Type 0 where
  pub name : Field
  pub cost : Field
  pub release : Option Field
  pub client : Option Field
  pub think : Option Field
  pub after : Option Field
  pub ops : Field

-- the field of a column that is there
abbrev pub only : Bool → Field → Option Field
only has text = if has then Some text else None

-- the columns of a version, with a field for each that it may have
abbrev pub columns_with : Version
    → Field → Field → Field → Field → Field → Field → Field → Columns
columns_with version name cost release client think after ops = record {
  name = name;
  cost = cost;
  release = only (has_releases version) release;
  client = only (has_clients version) client;
  think = only (has_clients version) think;
  after = only (has_after version) after;
  ops = ops;
}

-- the field that is there
abbrev pub there : Option Field → Record
there None = []
there (Some text) = text ∷ []

-- the record of fields, in the order of the columns
abbrev pub row_of : Columns → Record
row_of columns = columns.name
    ∷ columns.cost
    ∷ there columns.release ++ (there columns.client ++ (there columns.think
    ++ (there columns.after ++ columns.ops ∷ [])))

-- the header of a trace
abbrev pub header_row : Version → Record
header_row version = row_of (columns_with version (codes "message") (codes "cost") (codes "release")
    (codes "client") (codes "think") (codes "after") (codes "ops"))

-- the fields of a record that has as many as the header of its version, the operations in the last
abbrev pub columns_of : Version → Record → Option Columns
columns_of version row =
    if length row == length (header_row version) then Some (columns_with version (field_of row 0)
    (field_of row 1) (field_of row 2) (field_of row 3) (field_of row 4) (field_of row 5)
    (field_of row (length row - 1)))
    else None

-- the field of a column that is there is its title
abbrev pub is_title : Field → Option Field → Bool
is_title title None = true
is_title title (Some text) = bytes_eq text title

-- each field is the title of its column
abbrev pub are_titles : Columns → Bool
are_titles columns =
    bytes_eq columns.name (codes "message") && (bytes_eq columns.cost (codes "cost")
    && (is_title (codes "release") columns.release && (is_title (codes "client") columns.client
    && (is_title (codes "think") columns.think && (is_title (codes "after") columns.after
    && bytes_eq columns.ops (codes "ops"))))))

-- a record is the header of a version
abbrev pub is_header : Option Columns → Bool
is_header None = false
is_header (Some columns) = are_titles columns

-- the version that a header tells
abbrev pub told_version : Record → Result Version TraceFault
told_version row =
    if is_header (columns_of V1 row) then Ok V1
    else if is_header (columns_of V2 row) then Ok V2
    else if is_header (columns_of V3 row) then Ok V3
    else if is_header (columns_of V4 row) then Ok V4
    else Err fault.Header

-- a version up to the newest that is known
abbrev pub known : Version → Version → Result Version TraceFault
known newest version =
    if nat_le (versions.number version) (versions.number newest) then Ok version
    else Err fault.Header

-- the version that a header tells, up to the newest that is known
abbrev pub version_of : Version → Record → Result Version TraceFault
version_of newest row = told_version row >>= known newest

-- a name
abbrev pub name_of : Field → Result Field TraceFault
name_of text = if is_name text then Ok text else Err fault.Name

-- a cost
abbrev pub cost_of : Field → Result ℕ TraceFault
cost_of text = ok_or (number_within 1 MAX_COST text) fault.Cost

-- the number of the record, if its message is not one too many: message n is record n + 1
abbrev pub counted : Version → ℕ → Result ℕ TraceFault
counted version at =
    if nat_lt (versions.max_messages version + 1) at then Err fault.TooManyMessages else Ok at

-- a release, which is 0 where there is no field for it
abbrev pub release_of : Option Field → Result ℕ TraceFault
release_of None = Ok 0
release_of (Some text) = ok_or (number_within 0 MAX_RELEASE text) fault.Release

-- the name of a client, which is that of none where there is no field for it
abbrev pub client_of : Option Field → Result Field TraceFault
client_of None = Ok no_client
client_of (Some text) = if is_name text then Ok text else Err fault.Client

-- a think time, which is 0 where there is no field for it
abbrev pub think_of : Option Field → Result ℕ TraceFault
think_of None = Ok 0
think_of (Some text) = ok_or (number_within 0 MAX_THINK text) fault.Think

-- the message that fields spell in the record at this place
unfoldable pub message_of_columns : Version
    → List Space → Place → Columns → Result Message TraceFault
message_of_columns version spaces place columns = do
  name ← name_of columns.name
  cost ← cost_of columns.cost
  ops ← ops_of version spaces (most_ops version place) columns.ops
  _ ← counted version place.at
  release ← release_of columns.release
  client ← client_of columns.client
  think ← think_of columns.think
  after ← after_of place columns.after
  Ok (record {
    name = name;
    cost = cost;
    release = release;
    client = client;
    think = think;
    after = after;
    ops = ops;
  })

-- the message of the fields of a record, if there are as many as its version wants
abbrev pub message_of_row : Version
    → List Space → Place → Option Columns → Result Message TraceFault
message_of_row version spaces place None = Err fault.Fields
message_of_row version spaces place (Some columns) = message_of_columns version spaces place columns

-- the message of the record at this place
abbrev pub message_of : Version → List Space → Place → Record → Result Message TraceFault
message_of version spaces place row = message_of_row version spaces place (columns_of version row)
