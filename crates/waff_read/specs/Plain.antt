-- Records without quotes.
use Rattle.std.specs.Prelude.{◌≡◌, ℕ, List, ◌∷◌, ◌++◌, Bool, true, false, Option, Some, None}
use Rattle.std.specs.Str.{is_utf8}
use Rattle.std.specs.List.{list_any}
use Rattle.csv.specs.Writing.{default_writer, needs_quotes}
use Rattle.csv.specs.declared.parser.State.TheVariants.{StartRecord}
use Rattle.memchr.specs.Find.{is_byte2}
use Rattle.waff_model.specs.declared.message.Version.{Version}
use Rattle.waff_parse.specs.Rows.{Record, is_text, records_after}
use Rattle.waff_read.specs.Messages.{Columns, columns_of}

-- the records of a text at the start of one
abbrev pub records_in : List ℕ → List Record
records_in text = records_after StartRecord (Some text)

-- a text has neither a quote nor a carriage return
abbrev pub IsPlain : List ℕ → Type 0
IsPlain text = list_any (is_byte2 34 13) text ≡ false

-- text is a field without quotes, the byte that ends it, and rest, which is plain
pub record IsField (end : ℕ) (text field rest : List ℕ) : Type 0 where
  pub whole : text ≡ field ++ end ∷ rest
  pub bare : needs_quotes default_writer field ≡ false
  pub is_text : is_utf8 field ≡ true
  pub plain : IsPlain rest

-- the same of a column that is there, whose field a comma ends; of none nothing stands before rest
abbrev pub IsFieldIf : Bool → List ℕ → Option (List ℕ) → List ℕ → Type 0
IsFieldIf true text (Some field) rest = IsField 44 text field rest
IsFieldIf false text None rest = text ≡ rest
IsFieldIf _ text field rest = ⊥

-- text is a record of these columns, and rest, which is plain
pub record IsRow (version : Version) (text : List ℕ) (columns : Columns) (rest : List ℕ)
    : Type 0 where
  pub row : Record
  pub has_columns : columns_of version row ≡ Some columns
  pub are_text : is_text row ≡ true
  pub records : records_in text ≡ row ∷ records_in rest
  pub plain : IsPlain rest
