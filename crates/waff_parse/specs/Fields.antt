-- The fields of records, and of records of a known number of fields.
use Rattle.std.specs.Prelude.{ℕ, List, [], ◌∷◌, Option, Some, None, unwrap_or}
use Rattle.std.specs.Borrow.{Bor}
use Rattle.csv.specs.Records.{field_at}
use Rattle.waff_parse.specs.Rows.{Record}

-- a field
abbrev pub Field : Type 0
Field = List ℕ

-- the field at a place, empty where there is none
abbrev pub field_of : Record → ℕ → Field
field_of row place = unwrap_or (field_at row place) []

-- the two fields of a record of two
abbrev pub two_of : Record → Option (Field × Field)
two_of [] = None
two_of (a ∷ []) = None
two_of (a ∷ b ∷ []) = Some (a, b)
two_of (a ∷ b ∷ c ∷ more) = None

-- the three fields of a record of three
abbrev pub three_of : Record → Option (Field × Field × Field)
three_of [] = None
three_of (a ∷ []) = None
three_of (a ∷ b ∷ []) = None
three_of (a ∷ b ∷ c ∷ []) = Some (a, b, c)
three_of (a ∷ b ∷ c ∷ d ∷ more) = None

-- the five fields of a record of five
abbrev pub five_of : Record → Option (Field × Field × Field × Field × Field)
five_of [] = None
five_of (a ∷ []) = None
five_of (a ∷ b ∷ []) = None
five_of (a ∷ b ∷ c ∷ []) = None
five_of (a ∷ b ∷ c ∷ d ∷ []) = None
five_of (a ∷ b ∷ c ∷ d ∷ e ∷ []) = Some (a, b, c, d, e)
five_of (a ∷ b ∷ c ∷ d ∷ e ∷ f ∷ more) = None

-- the texts that were borrowed of a record
abbrev pub two_texts : Bor Field × Bor Field → Field × Field
two_texts fields = (fields.0.now, fields.1.now)

abbrev pub three_texts : Bor Field × Bor Field × Bor Field → Field × Field × Field
three_texts fields = (fields.0.now, fields.1.now, fields.2.now)

abbrev pub five_texts : Bor Field × Bor Field × Bor Field × Bor Field × Bor Field
    → Field × Field × Field × Field × Field
five_texts fields = (fields.0.now, fields.1.now, fields.2.now, fields.3.now, fields.4.now)
