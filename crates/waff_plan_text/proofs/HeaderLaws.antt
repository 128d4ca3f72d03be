-- The header is accepted, and nothing else.
use Rattle.std.proofs.Common.{◌≡◌, ◌≢◌, List, [], ◌∷◌, Bool, true, false, Result, Ok, Err, refl, ap, ◌∙◌}
use Rattle.std.specs.Prelude.{if◌then◌else◌}
use Rattle.std.proofs.lemmas.Slice.Eq.{bytes_eq-Decides, slice_eq-Decides}
use Rattle.waff_parse.specs.Fields.{five_of}
use Rattle.waff_parse.specs.Rows.{Record}
use Rattle.waff_parse.proofs.WrittenRows.{bare_is_text}
use Rattle.waff_plan_text.specs.Headers.{HeaderIsExact}
use Rattle.waff_plan_text.specs.PlanTexts.{header_of, is_header}
use Rattle.waff_plan_text.specs.Spelling.{plan_header}
use Rattle.waff_plan_text.specs.declared.refusal.PlanTextError.{PlanTextError}
use Rattle.waff_plan_text.specs.declared.refusal.PlanTextError.TheVariants as error
use Rattle.waff_plan_text.proofs.WrittenPlans.{simple_header}

is_the_header : (first : Record) → is_header (five_of first) ≡ true → first ≡ plan_header
is_the_header (a ∷ b ∷ c ∷ d ∷ e ∷ []) h = (slice_eq-Decides bytes_eq-Decides (a ∷ b ∷ c ∷ d ∷ e ∷ []) plan_header _ refl).0 h
is_the_header _ h = absurd (cc)

-- what the first record leads to
abbrev Judged : Bool → Bool → Result (Unit {0}) PlanTextError
Judged text header = if text then (if header then Ok tt else Err (error.Header 1)) else Err (error.Csv 1)

other_first : (first : Record) → first ≢ plan_header → is_header (five_of first) ≡ false
other_first first differs = by (is_header (five_of first)) refl
  where
    by : (t : Bool) → is_header (five_of first) ≡ t → t ≡ false
    by false is = refl
    by true is = absurd (differs (is_the_header first is))

pub header_is_exact : (records : List Record) → HeaderIsExact records
header_is_exact records = record {
  header = λ rows is. ap header_of is ∙ ap (λ t. Judged t true) (bare_is_text plan_header simple_header);
  none = λ is. ap header_of is;
  no_text = λ first rows is bad. ap header_of is ∙ ap (λ t. Judged t (is_header (five_of first))) bad;
  other = λ first rows is text differs.
      ap header_of is ∙ ap (λ t. Judged t (is_header (five_of first))) text ∙ ap (λ t. Judged true t) (other_first first differs);
}
