-- Which texts are read as a plan, in the words of the format. Records here are those after the
-- header.
use Rattle.std.specs.Prelude.{◌≡◌, ◌↔◌, ℕ, ◌≤◌, if◌then◌else◌, List, [], ◌∷◌, drop, length}
use Rattle.std.specs.Prelude.{Contains, Some, Ok, slice_get}
use Rattle.waff_model.specs.declared.message.Version.{Version}
use Rattle.waff_parse.specs.Rows.{Record, records_of}
use Rattle.waff_plan_text.specs.Given.{Given, row_at}
use Rattle.waff_plan_text.specs.PlanTexts.{header_of, plan_of}
use Rattle.waff_plan_text.specs.Refused.{HasSmallNumbers, IsRowOf, summary_in}
use Rattle.waff_plan_text.specs.SpelledSummaries.{AreTexts, SpellsSummary}
use Rattle.waff_plan_text.specs.Summaries.{begins_summary}
use Rattle.waff_plan_text.specs.declared.row.Row.{Row}

-- the records before the first one that begins the summary
abbrev pub rows_in_front : List Record → List Record
rows_in_front [] = []
rows_in_front (row ∷ more) = if begins_summary row then [] else row ∷ rows_in_front more

-- a record is the row of a message, which says what these rows say of it, within the limit
abbrev pub IsRowIn : ℕ → List Row → Record → Type 0
IsRowIn messages rows fields =
    (n : ℕ) × IsRowOf messages fields n (row_at rows n) × HasSmallNumbers (row_at rows n)

-- exactly one of the records is a row of message n
pub record HasOneRow (messages : ℕ) (records : List Record) (n : ℕ) : Type 0 where
  pub place : ℕ
  pub fields : Record
  pub row : Row
  pub there : slice_get records place ≡ Some fields
  pub is : IsRowOf messages fields n row
  pub only : (other : ℕ) (another : Record) (says : Row)
      → slice_get records other ≡ Some another → IsRowOf messages another n says → other ≡ place

-- each record before the summary is the row of a message, each message has exactly one, the plan
-- has them by message, and the records from the summary on are its lines in their order, with its
-- values
pub record IsReadAs (version : Version) (messages : ℕ)
    (records : List Record) (plan : Given) : Type 0 where
  pub text : AreTexts records
  pub rows : (fields : Record) → Contains (rows_in_front records) fields
      → IsRowIn messages plan.rows fields
  pub once : (n : ℕ) → 1 ≤ n → n ≤ messages → HasOneRow messages (rows_in_front records) n
  pub count : length plan.rows ≡ messages
  pub summary : SpellsSummary version messages (summary_in records) plan.summary
  pub of_version : plan.version ≡ version

-- bytes are read as a plan exactly where the first record is the header and the others are its rows
-- and its summary
abbrev pub PlanIsExact : Version → ℕ → List ℕ → Given → Type 0
PlanIsExact version messages bytes plan =
    (plan_of version messages bytes ≡ Ok plan)
    ↔ ((header_of (records_of bytes) ≡ Ok tt)
    × IsReadAs version messages (drop 1 (records_of bytes)) plan)
