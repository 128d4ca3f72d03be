-- How the program ends where it runs messages: the text of a run on the output, or a line that tells why there is none.
use Rattle.std.specs.Prelude.{◌≡◌, ℕ, ◌+◌, ◌⊎◌, false, true, if◌then◌else◌, is_some, List, [], ◌∷◌, ◌++◌, Option, Some, None, Ok, codes, decimal, length, string_bytes}
use Rattle.std.specs.Io.KnownBytes.{Appends, Keeps}
use Rattle.waff_io.specs.Writing.{AppendsPart}
use Rattle.waff_assign.specs.Instance.{Instance}
use Rattle.waff_read.specs.Hierarchies.{hierarchy_of}
use Rattle.waff_inputs.specs.Fault.{fault_message, status_of}
use Rattle.waff_inputs.specs.Inputs.{Accepts, Refuses}
use Rattle.waff_inputs.specs.declared.fault.ToolError.TheVariants as tool
use Rattle.waff_model.specs.Layout.{Hierarchy}
use Rattle.waff_model.specs.Messages.{Arrivals}
use Rattle.waff_run.specs.Faults.{IsOfRun, Told}
use Rattle.waff_run.specs.Opening.{job_of}
use Rattle.waff_run.specs.Places.{placing_of}
use Rattle.waff_run.specs.Texts.{TellPart, TellRun}
use Rattle.waff_run.specs.declared.fault.RunError.{RunError}
use Rattle.waff_run.specs.declared.fault.RunError.TheVariants as run
use Rattle.waff_cli.specs.declared.task.RunTask.{RunTask}
use Rattle.waff_cli.specs.declared.task.Task.{Task}
use Rattle.waff_cli.specs.declared.task.Task.TheVariants as task
use Rattle.waff_answer.specs.Answers.{bytes_of, first, second}
use Rattle.waff_answer.specs.Ends.{Advises, Ends}

-- the text tells a run of the messages of these files by k workers, in ticks of so many nanoseconds: it is that of a plan for
-- k workers, for the same messages with the costs that are told, and this plan is the rounding of what events of the machine
-- of a run left; and by how many per cent it is longer than what was measured, where that is more than one
pub record IsRunText (hierarchy_file trace_file : List ℕ) (k tick : ℕ) (text : List ℕ)
    (drift : Option ℕ) : Type 0 where
  pub instance : Instance
  pub accepts : Accepts hierarchy_file trace_file instance
  pub measured : List ℕ
  pub texts : TellRun hierarchy_file instance k tick measured text drift

-- the text tells what is left of such a run that broke off
pub record IsPartText (hierarchy_file trace_file : List ℕ) (k tick : ℕ) (text : List ℕ)
    (drift : Option ℕ) : Type 0 where
  pub instance : Instance
  pub accepts : Accepts hierarchy_file trace_file instance
  pub measured : List ℕ
  pub texts : TellPart hierarchy_file instance k tick measured text drift

-- the line that tells that what is told is longer than the run was
abbrev pub drift_message : Option ℕ → List ℕ
drift_message None = []
drift_message (Some percent) = codes "waff: Drift " ++ decimal percent ++ 10 ∷ []

-- the line that tells why there is no run
abbrev pub run_message : RunError → List ℕ
run_message (run.Tool error) = fault_message error
run_message (run.Tick m) = codes "waff: Tick " ++ decimal m ++ 10 ∷ []
run_message run.Folder = codes "waff: Store\n"
run_message (run.Same name) = codes "waff: Same " ++ string_bytes name ++ 10 ∷ []
run_message (run.Foreign name) = codes "waff: Store " ++ string_bytes name ++ 10 ∷ []
run_message (run.File name) = codes "waff: Store " ++ string_bytes name ++ 10 ∷ []
run_message (run.Threads workers) = codes "waff: Threads " ++ decimal workers ++ 10 ∷ []
run_message run.Run = codes "waff: Run\n"

-- the exit status that tells of it
abbrev pub run_status : RunError → ℕ
run_status (run.Tool error) = status_of error
run_status (run.Tick m) = 3
run_status run.Folder = 4
run_status (run.Same name) = 3
run_status (run.Foreign name) = 4
run_status (run.File name) = 4
run_status (run.Threads workers) = 4
run_status run.Run = 4

-- what is told to a run by its words and the files that were read: whether files that no run has made are written over, whether the
-- measured trace is wanted, and how many files there are beside those of cells
abbrev pub told_by : RunTask → Told
told_by wanted = record {
  over = wanted.words.over;
  measured = is_some wanted.words.trace;
  others = 1 + length wanted.names.items + (if is_some wanted.words.trace then 2 else 0);
}

-- the error is one of a run of these messages under this layout, as it is wanted
abbrev pub IsOfTask : Hierarchy → Arrivals → RunTask → RunError → Type 0
IsOfTask layout trace wanted error =
    IsOfRun (job_of layout (placing_of layout.spaces wanted.words.cell) trace) (told_by wanted)
    wanted.words.workers error

-- the error tells why the messages of these files were not run to their end: a file was refused; or both were accepted, and
-- the error is one of a run of their messages. An allocation failure and a writer's fault tell nothing of the files
abbrev pub RefusesRun : List ℕ → List ℕ → RunTask → RunError → Type 0
RefusesRun hierarchy_file trace_file wanted (run.Tool error) = Refuses hierarchy_file trace_file error
RefusesRun hierarchy_file trace_file wanted error =
    (instance : Instance) × (layout : Hierarchy) × Accepts hierarchy_file trace_file instance
    × (hierarchy_of hierarchy_file ≡ Ok layout) × IsOfTask layout instance.trace wanted error

-- the text of a run was written to the output, and to the error stream nothing but its drift, where it has one, and advice
pub record IsRun (hierarchy_file trace_file : List ℕ) (k tick : ℕ) (quiet : Type 0)
    (out new_out err new_err : Option (List ℕ)) (failed : Type 0) (status : ℕ) : Type 0 where
  pub text : List ℕ
  pub drift : Option ℕ
  pub is_text : IsRunText hierarchy_file trace_file k tick text drift
  pub written : Appends out new_out text
  pub told : Advises quiet err new_err failed (drift_message drift)
  pub status_is : status ≡ 0

-- what is left of a run that broke off for this error was written to the output, and nothing of it failed
pub record IsLeftOnOutput (hierarchy_file trace_file : List ℕ) (wanted : RunTask) (error : RunError) (drift : Option ℕ)
    (out new_out : Option (List ℕ)) : Type 0 where
  pub wanted_so : wanted.words.partial ≡ true
  pub text : List ℕ
  pub is_text : IsPartText hierarchy_file trace_file wanted.words.workers wanted.words.tick text drift
  pub written : Appends out new_out text

-- the output failed, and has a part of the text of a run, from its front; or of what is left of one, where that is wanted
abbrev pub HasPart : List ℕ → List ℕ → RunTask → RunError → Option (List ℕ) → Option (List ℕ) → Type 0
HasPart hierarchy_file trace_file wanted error out new_out =
    (text : List ℕ) × (drift : Option ℕ)
    × (((error ≡ run.Tool tool.Write)
    × IsRunText hierarchy_file trace_file wanted.words.workers wanted.words.tick text drift)
    ⊎ ((wanted.words.partial ≡ true)
    × IsPartText hierarchy_file trace_file wanted.words.workers wanted.words.tick text drift))
    × AppendsPart out new_out text

-- where there is no run to its end, the output has what is left of one, where that is wanted, and its drift is told; or no drift
-- is told, and the output has nothing, or failed
abbrev pub LeavesPart : List ℕ → List ℕ → RunTask → RunError → Option ℕ → Option (List ℕ) → Option (List ℕ)
    → Type 0
LeavesPart hierarchy_file trace_file wanted error drift out new_out =
    IsLeftOnOutput hierarchy_file trace_file wanted error drift out new_out
    ⊎ ((drift ≡ None)
    × (Keeps out new_out ⊎ HasPart hierarchy_file trace_file wanted error out new_out))

-- the error stream has the line of an error that tells why there is no run to its end, behind the drift of what is left of
-- one, unless it failed, and the status is that of the error
pub record IsNoRun (hierarchy_file trace_file : List ℕ) (wanted : RunTask)
    (out new_out err new_err : Option (List ℕ)) (failed : Type 0) (status : ℕ) : Type 0 where
  pub error : RunError
  pub drift : Option ℕ
  pub refused : RefusesRun hierarchy_file trace_file wanted error
  pub part : LeavesPart hierarchy_file trace_file wanted error drift out new_out
  pub told : Advises (wanted.loud ≡ false) err new_err failed (drift_message drift ++ run_message error)
  pub status_is : status ≡ run_status error

-- how the program ends where it runs the messages of these files as it is wanted
abbrev pub EndsRun : List ℕ → List ℕ → RunTask → Option (List ℕ) → Option (List ℕ) → Option (List ℕ)
    → Option (List ℕ) → Type 0 → ℕ → Type 0
EndsRun hierarchy_file trace_file wanted out new_out err new_err failed status =
    IsRun hierarchy_file trace_file wanted.words.workers wanted.words.tick (wanted.loud ≡ false)
    out new_out err new_err failed status
    ⊎ IsNoRun hierarchy_file trace_file wanted out new_out err new_err failed status

-- how it ends with what it is to do: where somebody reads the error stream, a question has names of its files, and a run is
-- loud
abbrev pub EndsTask : Task → Option (List ℕ) → Option (List ℕ) → Option (List ℕ) → Option (List ℕ) → Type 0 → ℕ → Type 0
EndsTask (task.Question question) out new_out err new_err failed status =
    Ends question.asked (bytes_of question.files.items) (question.names.items ≡ [])
    out new_out err new_err failed status
EndsTask (task.Run wanted) out new_out err new_err failed status =
    EndsRun (first (bytes_of wanted.files.items)) (second (bytes_of wanted.files.items)) wanted
    out new_out err new_err failed status
