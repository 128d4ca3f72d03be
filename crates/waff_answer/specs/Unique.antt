-- One answer to each question: of the same files one exit status and one text, or one error.
use Rattle.std.specs.Prelude.{◌≡◌, ℕ, List}
use Rattle.waff_model.specs.Unique.{AtMostOne}
use Rattle.waff_inputs.specs.Inputs.{TellsOfFiles}
use Rattle.waff_inputs.specs.declared.fault.ToolError.{ToolError}
use Rattle.waff_cli.specs.declared.words.Asked.{Asked}
use Rattle.waff_cli.specs.declared.words.Asked.TheVariants as asked
use Rattle.waff_answer.specs.Answers.{Answers, RefusesAsked}

-- two texts that answer what is asked are equal; of an explanation the words below its first line
-- are left open
abbrev pub IsSameText : Asked → List ℕ → List ℕ → Type 0
IsSameText asked.Explain text other = Unit {0}
IsSameText _ text other = text ≡ other

-- two answers to what is asked of the same files have one exit status and one text
abbrev pub AnswerIsOne : Asked → List (List ℕ) → Type 0
AnswerIsOne asked files =
    (status more : ℕ) (text other : List ℕ) → Answers asked files status text
    → Answers asked files more other → (status ≡ more) × IsSameText asked text other

-- the error that tells why what is asked of files is refused is one
abbrev pub RefusalIsOne : Asked → List (List ℕ) → Type 0
RefusalIsOne asked files = AtMostOne (λ e. TellsOfFiles e × RefusesAsked asked files e)

-- files on which what is asked has an answer are refused for no error that tells of them
abbrev pub AnsweredIsNotRefused : Asked → List (List ℕ) → Type 0
AnsweredIsNotRefused asked files =
    (status : ℕ) (text : List ℕ) (error : ToolError) → Answers asked files status text
    → TellsOfFiles error → ¬ RefusesAsked asked files error
