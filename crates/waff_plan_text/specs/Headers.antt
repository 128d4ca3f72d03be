-- The header of a plan text, in the words of the format.
use Rattle.std.specs.Prelude.{◌≡◌, ◌≢◌, true, false, List, [], ◌∷◌, Ok, Err}
use Rattle.waff_parse.specs.Rows.{Record, is_text}
use Rattle.waff_plan_text.specs.PlanTexts.{header_of}
use Rattle.waff_plan_text.specs.Spelling.{plan_header}
use Rattle.waff_plan_text.specs.declared.refusal.PlanTextError.TheVariants as error

-- records are accepted where the first is the header; refused where there is none, where the first
-- is no text, and where it is another
pub record HeaderIsExact (records : List Record) : Type 0 where
  pub header : (rows : List Record) → records ≡ plan_header ∷ rows → header_of records ≡ Ok tt
  pub none : records ≡ [] → header_of records ≡ Err (error.Header 1)
  pub no_text : (first : Record) (rows : List Record)
      → records ≡ first ∷ rows → is_text first ≡ false → header_of records ≡ Err (error.Csv 1)
  pub other : (first : Record) (rows : List Record)
      → records ≡ first ∷ rows → is_text first ≡ true → first ≢ plan_header
      → header_of records ≡ Err (error.Header 1)
