-- The summary of a plan text, in the words of the format: which records are its lines, with which
-- values.
use Rattle.std.specs.Prelude.{◌≡◌, ◌↔◌, ℕ, true, false, List, [], ◌∷◌, Contains, Ok}
use Rattle.waff_model.specs.declared.message.Version.{Version}
use Rattle.waff_model.specs.Versions.{has_releases}
use Rattle.waff_parse.specs.Rows.{Record, is_text}
use Rattle.waff_plan_text.specs.Given.{SummaryLines}
use Rattle.waff_plan_text.specs.SpelledLines.{IsLine, IsSmall}
use Rattle.waff_plan_text.specs.Summaries.{summary_of}
use Rattle.waff_plan_text.specs.Table.{lines_of, told_of}
use Rattle.waff_plan_text.specs.declared.table.Line.{Line}

-- a record is this line of a summary, within the limit
abbrev pub IsLineOf : ℕ → SummaryLines → Line → Record → Type 0
IsLineOf messages summary line fields =
    IsLine messages line fields (told_of line summary) × IsSmall line (told_of line summary)

-- records are these lines of a summary, one for each
abbrev pub AreLinesOf : ℕ → SummaryLines → List Line → List Record → Type 0
AreLinesOf messages summary [] [] = Unit {0}
AreLinesOf messages summary (line ∷ lines) (fields ∷ records) =
    IsLineOf messages summary line fields × AreLinesOf messages summary lines records
AreLinesOf messages summary _ _ = ⊥

-- records are the lines of a summary in their order, with its values; the release is 0 where the
-- version has no releases
pub record SpellsSummary (version : Version)
    (messages : ℕ) (records : List Record) (summary : SummaryLines) : Type 0 where
  pub lines : AreLinesOf messages summary (lines_of version) records
  pub no_release : has_releases version ≡ false → summary.totals.release ≡ 0

-- each field of these records is text
abbrev pub AreTexts : List Record → Type 0
AreTexts records = (fields : Record) → Contains records fields → is_text fields ≡ true

-- records of text are read as a summary exactly where they are its lines in their order, with these
-- values
abbrev pub SummaryIsExact : Version → ℕ → ℕ → List Record → SummaryLines → Type 0
SummaryIsExact version messages at records summary =
    AreTexts records → (summary_of version messages at records ≡ Ok summary)
    ↔ SpellsSummary version messages records summary
