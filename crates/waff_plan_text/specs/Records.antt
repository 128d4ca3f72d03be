-- What a read of the next record gives.
use Rattle.std.specs.Prelude.{◌≡◌, ℕ, Bool, true, false, List, [], ◌∷◌, Result, Ok, Err}
use Rattle.waff_parse.specs.Rows.{Record, is_text}
use Rattle.waff_parse.specs.declared.stop.Stop.{Stop}
use Rattle.waff_parse.specs.declared.stop.Stop.TheVariants as stop
use Rattle.waff_plan_text.specs.declared.refusal.PlanTextError.{PlanTextError}
use Rattle.waff_plan_text.specs.declared.refusal.PlanTextError.TheVariants as error

-- the records begin with one that is no text, and the error tells so
abbrev pub TellsNoText : ℕ → PlanTextError → List Record → Type 0
TellsNoText at e left = (bad : Record) × (more : List Record)
    × (left ≡ bad ∷ more) × (is_text bad ≡ false) × (e ≡ error.Csv at)

-- what a read gives is the first of the records, which is text, and leaves the others; no record
-- where there is none; an error where the first is no text
abbrev pub GivesRecord : ℕ → Result Bool (Stop PlanTextError)
    → List Record → Record → List Record → Type 0
GivesRecord at (Ok true) left row others = (left ≡ row ∷ others) × (is_text row ≡ true)
GivesRecord at (Ok false) left row others = left ≡ []
GivesRecord at (Err stop.Memory) left row others = Unit {0}
GivesRecord at (Err (stop.Fault e)) left row others = TellsNoText at e left
