-- How the program ends: an answer on the output, or a line that tells of an error, and a status.
use Rattle.std.specs.Prelude.{◌≡◌, ◌≢◌, ℕ, ◌⊎◌, List, [], ◌++◌, Option}
use Rattle.std.specs.Io.KnownBytes.{Appends, Keeps}
use Rattle.waff_io.specs.Writing.{AppendsPart, Tells}
use Rattle.waff_inputs.specs.Fault.{fault_message, status_of}
use Rattle.waff_inputs.specs.declared.fault.ToolError.{ToolError}
use Rattle.waff_inputs.specs.declared.fault.ToolError.TheVariants as tool
use Rattle.waff_cli.specs.Refusals.{refusal_status, refusal_text}
use Rattle.waff_cli.specs.declared.refusal.Refusal.{Refusal}
use Rattle.waff_cli.specs.declared.words.Asked.{Asked}
use Rattle.waff_answer.specs.Answers.{Answers, RefusesAsked}

-- the error stream has this, and behind it advice, where it is not quiet: somebody reads it at a
-- terminal. Or it failed, and has a part of that. What the advice is, nothing says
pub record Advises (quiet : Type 0) (err new_err : Option (List ℕ)) (failed : Type 0) (text : List ℕ)
    : Type 0 where
  pub advice : List ℕ
  pub none : quiet → advice ≡ []
  pub told : Tells err new_err failed (text ++ advice)

-- an answer was written to the output, and nothing but advice to the error stream
pub record IsAnswered (asked : Asked) (files : List (List ℕ)) (quiet : Type 0)
    (out new_out err new_err : Option (List ℕ)) (failed : Type 0) (status : ℕ) : Type 0 where
  pub text : List ℕ
  pub answers : Answers asked files status text
  pub written : Appends out new_out text
  pub silent : Advises quiet err new_err failed []

-- the error stream has the line of an error, unless it failed, and the status is that of the error.
-- Where the output failed, it has a part of the text of an answer, from its front; for any other error
-- what is asked is refused, and nothing was written to the output
pub record IsFailed (asked : Asked) (files : List (List ℕ)) (quiet : Type 0)
    (out new_out err new_err : Option (List ℕ)) (failed : Type 0) (status : ℕ) : Type 0 where
  pub error : ToolError
  pub refused : RefusesAsked asked files error
  pub nothing : error ≢ tool.Write → Keeps out new_out
  pub prefix : error ≡ tool.Write → (answered : ℕ) × (text : List ℕ)
      × Answers asked files answered text × AppendsPart out new_out text
  pub told : Advises quiet err new_err failed (fault_message error)
  pub status_is : status ≡ status_of error

-- how the program ends with what it is asked of these files; `failed` says that a write to the error
-- stream failed, and `quiet` that nobody reads it
abbrev pub Ends : Asked → List (List ℕ) → Type 0 → Option (List ℕ) → Option (List ℕ)
    → Option (List ℕ) → Option (List ℕ) → Type 0 → ℕ → Type 0
Ends asked files quiet out new_out err new_err failed status =
    IsAnswered asked files quiet out new_out err new_err failed status
    ⊎ IsFailed asked files quiet out new_out err new_err failed status

-- how it ends where nothing is asked of files: the error stream has what is said of that, unless it
-- failed, and nothing was written to the output
pub record IsRefused (refusal : Refusal) (out new_out err new_err : Option (List ℕ)) (failed : Type 0)
    (status : ℕ) : Type 0 where
  pub told : Tells err new_err failed (refusal_text refusal)
  pub nothing : Keeps out new_out
  pub status_is : status ≡ refusal_status refusal
