-- What the text of a plan is refused for, in the words of the format. Records here are those after
-- the header.
use Rattle.std.specs.Prelude.{◌≡◌, ◌↔◌, ◌⊎◌, ℕ, ◌+◌, ◌<◌, ◌≤◌, true, false, if◌then◌else◌, List, []}
use Rattle.std.specs.Prelude.{◌∷◌, ◌++◌, drop, length, take, Contains, Option, Some, None, IfSome}
use Rattle.std.specs.Prelude.{IsSome, Result, Ok, Err, slice_get, codes}
use Rattle.waff_model.specs.Names.{is_name}
use Rattle.waff_model.specs.declared.limits.TheConstants.{MAX_TICK}
use Rattle.waff_model.specs.declared.message.Version.{Version}
use Rattle.waff_parse.specs.Fields.{Field, five_of}
use Rattle.waff_parse.specs.Rows.{Record, is_text, records_of}
use Rattle.waff_parse.specs.Texts.{number_of}
use Rattle.waff_plan_text.specs.PlanTexts.{header_of, plan_of}
use Rattle.waff_plan_text.specs.Rows.{IsWithinLimit}
use Rattle.waff_plan_text.specs.Summaries.{begins_summary, read_line}
use Rattle.waff_plan_text.specs.Table.{lines_of}
use Rattle.waff_plan_text.specs.declared.refusal.PlanTextError.{PlanTextError}
use Rattle.waff_plan_text.specs.declared.refusal.PlanTextError.TheVariants as error
use Rattle.waff_plan_text.specs.declared.refusal.Refusal.{Refusal}
use Rattle.waff_plan_text.specs.declared.refusal.Refusal.TheVariants as refusal
use Rattle.waff_plan_text.specs.declared.row.Row.{Row}
use Rattle.waff_plan_text.specs.declared.table.Line.{Line}

-- a worker's field: a dash for none, or a number
abbrev pub IsWorkerField : Field → Option ℕ → Type 0
IsWorkerField text None = text ≡ codes "-"
IsWorkerField text (Some worker) = number_of text ≡ Some worker

-- five fields are a row of message n of as many messages, which says this, in numbers of any length
pub record SpellsRow (messages : ℕ) (number_text name start_text finish_text worker_text : Field)
    (n : ℕ) (row : Row) : Type 0 where
  pub number : number_of number_text ≡ Some n
  pub from : 1 ≤ n
  pub to : n ≤ messages
  pub named : is_name name ≡ true
  pub affinity : row.affinity ≡ name
  pub start : number_of start_text ≡ Some row.start
  pub finish : number_of finish_text ≡ Some row.finish
  pub worker : IsWorkerField worker_text row.worker

-- a record is a row of message n, which says this: it has five fields
abbrev pub IsRowOfFive : ℕ → Option (Field × Field × Field × Field × Field) → ℕ → Row → Type 0
IsRowOfFive messages None n row = ⊥
IsRowOfFive messages (Some f) n row = SpellsRow messages f.0 f.1 f.2 f.3 f.4 n row

abbrev pub IsRowOf : ℕ → Record → ℕ → Row → Type 0
IsRowOf messages fields n row = IsRowOfFive messages (five_of fields) n row

-- each number of a row is within the limit
pub record HasSmallNumbers (row : Row) : Type 0 where
  pub times : IsWithinLimit row
  pub worker : IfSome row.worker (λ w. w ≤ MAX_TICK)

-- one of the records is a row of message n
abbrev pub HasRow : ℕ → List Record → ℕ → Type 0
HasRow messages records n =
    (fields : Record) × (row : Row) × Contains records fields × IsRowOf messages fields n row

-- the least message without a row
pub record IsMissing (messages : ℕ) (records : List Record) (message : ℕ) : Type 0 where
  pub from : 1 ≤ message
  pub to : message ≤ messages
  pub none : HasRow messages records message → ⊥
  pub least : (n : ℕ) → 1 ≤ n → n < message → HasRow messages records n

-- the records from the first one on that begins the summary
abbrev pub summary_in : List Record → List Record
summary_in [] = []
summary_in (row ∷ more) = if begins_summary row then row ∷ more else summary_in more

-- why a reading refuses a record, if it does
abbrev pub refusal_of : {F A : Type 0} → Result A F → Option F
refusal_of (Ok value) = None
refusal_of (Err e) = Some e

-- why a record is refused as this line, if it is
abbrev pub refused : ℕ → Line → Record → Option Refusal
refused messages line row = refusal_of (read_line messages line row)

-- the line that comes next after these records, if the summary has one more
abbrev pub next_of : Version → List Record → Option Line
next_of version before = slice_get (lines_of version) (length (summary_in before))

-- a record behind these stands before the summary, or in it
abbrev pub IsAmongRows : List Record → Record → Type 0
IsAmongRows before fields = summary_in (before ++ fields ∷ []) ≡ []

abbrev pub IsInSummary : List Record → Record → Type 0
IsInSummary before fields = 1 ≤ length (summary_in (before ++ fields ∷ []))

-- a record is refused for this as the line that it has to be; where no line is left it is one too
-- many
abbrev pub IsNotLine : ℕ → Option Line → Record → Type 0
IsNotLine messages None fields = Unit {0}
IsNotLine messages (Some line) fields = refused messages line fields ≡ Some refusal.Summary

abbrev pub IsTooLargeLine : ℕ → Option Line → Record → Type 0
IsTooLargeLine messages None fields = ⊥
IsTooLargeLine messages (Some line) fields = refused messages line fields ≡ Some refusal.TooLarge

-- a record is a row of a message, with a number above the limit
abbrev pub IsTooLargeRow : ℕ → Record → Type 0
IsTooLargeRow messages fields =
    (n : ℕ) × (row : Row) × IsRowOf messages fields n row × (HasSmallNumbers row → ⊥)

-- the number of the record behind these; the header has number 1
abbrev pub number_behind : List Record → ℕ
number_behind before = length before + 2

-- the check of this error holds of a record behind these
abbrev pub HoldsOf : Version → ℕ → List Record → Record → PlanTextError → Type 0
HoldsOf version messages before fields (error.Csv at) =
    (at ≡ number_behind before) × (is_text fields ≡ false)
HoldsOf version messages before fields (error.Row at) =
    (at ≡ number_behind before) × IsAmongRows before fields
    × ((n : ℕ) (row : Row) → IsRowOf messages fields n row → ⊥)
HoldsOf version messages before fields (error.Missing message) =
    (summary_in before ≡ []) × (begins_summary fields ≡ true) × IsMissing messages before message
HoldsOf version messages before fields (error.Twice at) =
    (at ≡ number_behind before) × IsAmongRows before fields
    × ((n : ℕ) × (row : Row) × IsRowOf messages fields n row × HasRow messages before n)
HoldsOf version messages before fields (error.Summary at) =
    (at ≡ number_behind before) × IsInSummary before fields
    × IsNotLine messages (next_of version before) fields
HoldsOf version messages before fields (error.TooLarge at) =
    (at ≡ number_behind before)
    × ((IsAmongRows before fields × IsTooLargeRow messages fields)
    ⊎ (IsInSummary before fields × IsTooLargeLine messages (next_of version before) fields))
HoldsOf version messages before fields _ = ⊥

-- and of the end behind these records, which counts as one more record: a row is missing, or a line
-- of the summary
abbrev pub HoldsAtEnd : Version → ℕ → List Record → PlanTextError → Type 0
HoldsAtEnd version messages before (error.Missing message) =
    (summary_in before ≡ []) × IsMissing messages before message
HoldsAtEnd version messages before (error.Summary at) =
    (at ≡ number_behind before) × IsSome (next_of version before)
HoldsAtEnd version messages before _ = ⊥

-- the check of this error holds of what is behind these records: one more, or the end
abbrev pub HasFault : Version → ℕ → List Record → Option Record → PlanTextError → Type 0
HasFault version messages before (Some fields) e = HoldsOf version messages before fields e
HasFault version messages before None e = HoldsAtEnd version messages before e

-- the numbers of the checks
abbrev pub number : PlanTextError → ℕ
number (error.Csv at) = 1
number (error.Header at) = 2
number (error.Row at) = 3
number (error.Missing message) = 4
number (error.Twice at) = 5
number (error.Summary at) = 6
number (error.TooLarge at) = 7
number error.Memory = 8

-- at this place the check of this error holds, no check of a lower number does, and at no place
-- before it does any
pub record IsFirstFault (version : Version)
    (messages : ℕ) (records : List Record) (place : ℕ) (e : PlanTextError) : Type 0 where
  pub there : place ≤ length records
  pub holds : HasFault version messages (take place records) (slice_get records place) e
  pub least : (other : PlanTextError)
      → HasFault version messages (take place records) (slice_get records place) other
      → number e ≤ number other
  pub before : (k : ℕ) (other : PlanTextError)
      → k < place → HasFault version messages (take k records) (slice_get records k) other → ⊥

-- the header is refused with this error, or it is one and the first record behind it with a fault
-- is refused for its least
abbrev pub IsRefusedPlan : Version → ℕ → List Record → PlanTextError → Type 0
IsRefusedPlan version messages records e =
    (header_of records ≡ Err e)
    ⊎ ((header_of records ≡ Ok tt)
    × ((place : ℕ) × IsFirstFault version messages (drop 1 records) place e))

-- the first record with a fault decides, and of its faults the one of least number
abbrev pub FirstFaultDecides : Version → ℕ → List ℕ → Type 0
FirstFaultDecides version messages bytes = (e : PlanTextError)
    → (plan_of version messages bytes ≡ Err e) ↔ IsRefusedPlan version messages (records_of bytes) e
