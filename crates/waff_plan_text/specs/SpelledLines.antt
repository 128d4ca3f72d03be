-- One line of a summary, in the words of the format: which record is one, and which is refused for
-- what.
use Rattle.std.specs.Prelude.{◌≡◌, ◌≢◌, ◌⊎◌, ℕ, ◌≤◌, List, [], ◌∷◌, map, Option, Some, None, codes}
use Rattle.waff_model.specs.declared.limits.TheConstants.{MAX_TICK}
use Rattle.waff_parse.specs.Fields.{Field}
use Rattle.waff_parse.specs.Rows.{Record}
use Rattle.waff_parse.specs.Texts.{number_of, parts}
use Rattle.waff_plan.specs.Bound.{IsWorkers}
use Rattle.waff_plan.specs.Chain.{IsListed}
use Rattle.waff_plan_text.specs.Refused.{refused}
use Rattle.waff_plan_text.specs.Table.{Told, line_name}
use Rattle.waff_plan_text.specs.declared.refusal.Refusal.TheVariants as refusal
use Rattle.waff_plan_text.specs.declared.table.Line.{Line}
use Rattle.waff_plan_text.specs.declared.table.Line.TheVariants.{Bound, Chain, Workers}

-- a field writes the number of workers: a dash for none
abbrev pub IsWorkersField : Field → Option ℕ → Type 0
IsWorkersField text None = text ≡ codes "-"
IsWorkersField text (Some k) = (number_of text ≡ Some k) × IsWorkers k

-- a field writes numbers joined by one space; nothing for none
abbrev pub AreNumbers : Field → List ℕ → Type 0
AreNumbers text numbers = ((text ≡ []) × (numbers ≡ []))
    ⊎ ((text ≢ []) × (map number_of (parts 32 text) ≡ map Some numbers))

-- a record has this name and one field behind it, which writes a value
abbrev pub IsPair : Field → (Field → Type 0) → Record → Type 0
IsPair name Writes fields = (text : Field) × (fields ≡ name ∷ text ∷ []) × Writes text

abbrev pub IsBoundLine : Record → ℕ × ℕ → Type 0
IsBoundLine fields sides =
    (left : Field) × (right : Field) × (fields ≡ line_name Bound ∷ left ∷ right ∷ [])
    × (number_of left ≡ Some sides.0) × (number_of right ≡ Some sides.1)

-- a record is this line, which tells this, also above the limit
abbrev pub IsLine : ℕ → (line : Line) → Record → Told line → Type 0
IsLine messages Workers fields workers =
    IsPair (line_name Workers) (λ text. IsWorkersField text workers) fields
IsLine messages Chain fields chain =
    IsPair (line_name Chain) (λ text. AreNumbers text chain × IsListed messages chain) fields
IsLine messages Bound fields sides = IsBoundLine fields sides
IsLine messages line fields n = IsPair (line_name line) (λ text. number_of text ≡ Some n) fields

-- what a line tells is within the limit
abbrev pub IsSmall : (line : Line) → Told line → Type 0
IsSmall Workers workers = Unit {0}
IsSmall Chain chain = Unit {0}
IsSmall Bound sides = (sides.0 ≤ MAX_TICK) × (sides.1 ≤ MAX_TICK)
IsSmall _ n = n ≤ MAX_TICK

-- a record is accepted as a line where it is that line, within the limit; refused for a number
-- where that is above it; and refused as no line where it is none
pub record LinesAreExact (messages : ℕ) (line : Line) (fields : Record) : Type 0 where
  pub accepted : (value : Told line) → IsLine messages line fields value → IsSmall line value
      → refused messages line fields ≡ None
  pub large : (value : Told line) → IsLine messages line fields value → (IsSmall line value → ⊥)
      → refused messages line fields ≡ Some refusal.TooLarge
  pub none : ((value : Told line) → IsLine messages line fields value → ⊥)
      → refused messages line fields ≡ Some refusal.Summary
