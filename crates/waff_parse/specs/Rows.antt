-- The records of bytes, as `csv` reads them.
use Rattle.std.specs.Prelude.{◌≡◌, ◌+◌, ℕ, List, [], ◌∷◌, length, Bool, true, false, Option, Some}
use Rattle.std.specs.Prelude.{None, Result, Ok, Err}
use Rattle.std.specs.Borrow.{Bor}
use Rattle.std.specs.List.{list_all}
use Rattle.std.specs.Str.{is_utf8}
use Rattle.csv.specs.Reading.{Ready, default_config, strip_bom, records, records_from, source_of}
use Rattle.csv.specs.Reading.{reader_config, reader_state, reader_trim, is_flexible, has_failed}
use Rattle.csv.specs.declared.error.ErrorKind.{ErrorKind}
use Rattle.csv.specs.declared.error.ErrorKind.TheVariants as kind
use Rattle.csv.specs.declared.parser.State.{State}
use Rattle.csv.specs.declared.reader.Reader.{Reader}
use Rattle.csv.specs.declared.reader.Trim.TheVariants as trim
use Rattle.waff_parse.specs.declared.stop.Stop.{Stop}
use Rattle.waff_parse.specs.declared.stop.Stop.TheVariants as stop
use Rattle.waff_parse.specs.declared.rows.NotText.{NotText}

-- the fields of a record
abbrev pub Record : Type 0
Record = List (List ℕ)

-- the records of bytes, without a byte order mark at their start
abbrev pub records_of : List ℕ → List Record
records_of bytes = records default_config (strip_bom bytes)

-- the records of the rest of a text from a state, where the rest is known
unfoldable pub records_after : State → Option (List ℕ) → List Record
records_after s None = []
records_after s (Some rest) = records_from default_config (length rest + 1) s rest

-- the records that a reader has left
abbrev pub records_left : Reader (Bor (List ℕ)) → List Record
records_left rdr = records_after (reader_state rdr) (source_of (λ s. Some s.now) rdr)

-- a reader of records of any number of fields, untrimmed, with no header row and the usual signs
pub record Reads (rdr : Reader (Bor (List ℕ))) : Type 0 where
  pub config : reader_config rdr ≡ default_config
  pub untrimmed : reader_trim rdr ≡ trim.None
  pub flexible : is_flexible rdr ≡ true
  pub ready : Ready rdr
  pub goes_on : has_failed rdr ≡ false

-- each field of a record is text
abbrev pub is_text : Record → Bool
is_text fields = list_all is_utf8 fields

-- an error with which a record may be refused here
abbrev pub RefusesRecord : ErrorKind → Type 0
RefusesRecord (kind.Io e) = Unit {0}
RefusesRecord (kind.Utf8 pos err) = Unit {0}
RefusesRecord kind.OutOfMemory = Unit {0}
RefusesRecord (kind.UnequalLengths pos expected len) = ⊥
RefusesRecord (kind.Serialize text) = ⊥
RefusesRecord (kind.Deserialize pos err) = ⊥

-- whether an error tells of a field that is no text
abbrev pub is_not_text : ErrorKind → Bool
is_not_text (kind.Utf8 pos err) = true
is_not_text (kind.Io e) = false
is_not_text kind.OutOfMemory = false
is_not_text (kind.UnequalLengths pos expected len) = false
is_not_text (kind.Serialize text) = false
is_not_text (kind.Deserialize pos err) = false

-- the records begin with one that is no text
abbrev pub BeginsWithNoText : List Record → Type 0
BeginsWithNoText left =
    (bad : Record) × (more : List Record) × (left ≡ bad ∷ more) × (is_text bad ≡ false)

-- what a read gives is the first of the records, which is text, and leaves the others; no record
-- where there is none; a fault where the first is no text
abbrev pub GivesNext : Result Bool (Stop NotText) → List Record → Record → List Record → Type 0
GivesNext (Ok true) left row others = (left ≡ row ∷ others) × (is_text row ≡ true)
GivesNext (Ok false) left row others = left ≡ []
GivesNext (Err stop.Memory) left row others = Unit {0}
GivesNext (Err (stop.Fault fault)) left row others = BeginsWithNoText left
