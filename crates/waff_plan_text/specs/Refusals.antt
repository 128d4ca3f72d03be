-- What a reader of plan texts refuses.
use Rattle.std.specs.Prelude.{ℕ}
use Rattle.waff_plan_text.specs.declared.refusal.Refusal.{Refusal}
use Rattle.waff_plan_text.specs.declared.refusal.Refusal.TheVariants as refusal
use Rattle.waff_plan_text.specs.declared.refusal.PlanTextError.{PlanTextError}
use Rattle.waff_plan_text.specs.declared.refusal.PlanTextError.TheVariants as error

-- the error that tells a refusal and its record
abbrev pub at_record : ℕ → Refusal → PlanTextError
at_record at refusal.Csv = error.Csv at
at_record at refusal.Header = error.Header at
at_record at refusal.Row = error.Row at
at_record at refusal.Twice = error.Twice at
at_record at refusal.Summary = error.Summary at
at_record at refusal.TooLarge = error.TooLarge at
