-- What a command answers: an answer is made of its files, and then the text of it is written.
use Rattle.std.specs.Prelude.{◌≢◌, ℕ, List, Option, Result, IfOk, IfErr, IsErrOf, IsOkAnd}
use Rattle.std.specs.Io.KnownBytes.{Appends, Keeps}
use Rattle.waff_io.specs.Writing.{AppendsPart}
use Rattle.waff_inputs.specs.declared.fault.ToolError.{ToolError}
use Rattle.waff_inputs.specs.declared.fault.ToolError.TheVariants as tool

-- what was made of the files: an answer that they have, or an error for which they are refused.
-- Nothing is written so far, so that no writer has failed
pub record Makes {A : Type 0} (IsAnswer : A → Type 0) (IsRefused : ToolError → Type 0)
    (result : Result A ToolError) : Type 0 where
  pub made : IfOk result IsAnswer
  pub refused : IfErr result IsRefused
  pub unwritten : IfErr result (λ error. error ≢ tool.Write)

-- the text of the answer was written. Where the writer failed it has a part of the text, from its
-- front; for any other error the files are refused, and nothing was written
pub record Delivers {A : Type 0} (IsText : A → List ℕ → Type 0) (IsRefused : ToolError → Type 0)
    (old new : Option (List ℕ)) (answered : Result A ToolError) : Type 0 where
  pub written : IfOk answered (λ a. (text : List ℕ) × IsText a text × Appends old new text)
  pub prefix : IsErrOf answered tool.Write
      → (a : A) × (text : List ℕ) × IsText a text × AppendsPart old new text
  pub refused : IfErr answered IsRefused
  pub nothing : IfErr answered (λ error. error ≢ tool.Write → Keeps old new)

-- the text that was made is written, or a part of it where the writer fails; where none was made,
-- nothing is written, and the error is answered
pub record HandsOn {S A : Type 0} (bytes : S → List ℕ) (made : Result S ToolError)
    (old new : Option (List ℕ)) (answered : Result A ToolError) : Type 0 where
  pub whole : IfOk answered (λ _. IsOkAnd made (λ text. Appends old new (bytes text)))
  pub part : IfOk made (λ text.
      IfErr answered (λ error. IsErrOf answered tool.Write × AppendsPart old new (bytes text)))
  pub none : IfErr made (λ error. IsErrOf answered error × Keeps old new)
