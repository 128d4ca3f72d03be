-- Why messages of accepted files are not run to their end.
use Rattle.std.specs.Prelude.{◌≡◌, ◌⊎◌, ℕ, ◌<◌, ◌≤◌, ◌+◌, Bool, true, false, List, Option, Some, None, codes, if◌then◌else◌, length, nat_lt, slice_index, string_bytes}
use Rattle.waff_inputs.specs.declared.fault.ToolError.TheVariants as tool
use Rattle.waff_run.specs.Files.{AreCellFiles, Job, NamesFile, file_name}
use Rattle.waff_run.specs.Named.{cells_named}
use Rattle.waff_run.specs.Same.{IsFirstOfTwo}
use Rattle.waff_run.specs.declared.fault.RunError.{RunError}
use Rattle.waff_run.specs.declared.fault.RunError.TheVariants as run
use Rattle.waff_run.specs.declared.same.Identity.{Identity}

-- what a run is told beside its messages: whether files that no run has made are written over, whether the measured trace is
-- wanted, and how many files there are beside those of cells
pub record Told : Type 0 where
  pub over : Bool
  pub measured : Bool
  pub others : ℕ

-- what was found of the files of a run: first of those in which its messages name cells, which have these numbers, then of so
-- many others
pub record IsFound (job : Job) (others : ℕ) (numbers : List ℕ) (found : List (Option Identity)) : Type 0 where
  pub files : AreCellFiles job.placing (cells_named job.messages) numbers
  pub count : length found ≡ length numbers + others

-- how the file at this place of those of a run is told: a file of cells by its name, each other as `trace`
abbrev pub told_name : Job → List ℕ → ℕ → List ℕ
told_name job numbers at =
    if nat_lt at (length numbers) then file_name job.spaces job.placing (slice_index numbers at) else codes "trace"

-- two of the files of a run are one by what was found of them, and so the first is told that is another one too
pub record IsSame (job : Job) (others : ℕ) (name : List ℕ) : Type 0 where
  pub numbers : List ℕ
  pub found : List (Option Identity)
  pub is_found : IsFound job others numbers found
  pub at : ℕ
  pub two : IsFirstOfTwo found (Some at)
  pub is : name ≡ told_name job numbers at

-- by what was found of the files of a run none is another one
pub record AreTold (job : Job) (others : ℕ) (found : List (Option Identity)) : Type 0 where
  pub numbers : List ℕ
  pub is_found : IsFound job others numbers found
  pub none : IsFirstOfTwo found None

-- why the files of a run are not opened: memory was refused; the measured trace is wanted, and its file could not be made; the
-- folder is none; two files are one; a file in which the messages name a cell is there that no run has made, and it is not to be
-- written over; or one could not be opened, or the mark could not be made
abbrev pub IsOfOpening : Job → Told → RunError → Type 0
IsOfOpening job told (run.Tool error) =
    (error ≡ tool.Memory) ⊎ ((error ≡ tool.Write) × (told.measured ≡ true))
IsOfOpening job told run.Folder = Unit {0}
IsOfOpening job told (run.Same name) = IsSame job told.others (string_bytes name)
IsOfOpening job told (run.Foreign name) = (told.over ≡ false) × NamesFile job (string_bytes name)
IsOfOpening job told (run.File name) =
    NamesFile job (string_bytes name) ⊎ (string_bytes name ≡ codes ".waff")
IsOfOpening job told error = ⊥

-- why messages are not run to their end by so many workers on files that are open: memory was refused; one of them ran for too
-- long; not all workers could be started, the first being there; in a file in which they name a cell something could not be done; or
-- what was run is at fault
abbrev pub IsOfRunning : Job → ℕ → RunError → Type 0
IsOfRunning job workers (run.Tool error) = error ≡ tool.Memory
IsOfRunning job workers (run.Tick m) = (1 ≤ m) × (m ≤ length job.messages)
IsOfRunning job workers (run.Threads started) = (1 ≤ started) × (started < workers)
IsOfRunning job workers (run.File name) = NamesFile job (string_bytes name)
IsOfRunning job workers run.Run = Unit {0}
IsOfRunning job workers error = ⊥

-- why the messages were not run to their end
abbrev pub IsOfRun : Job → Told → ℕ → RunError → Type 0
IsOfRun job told workers error = IsOfOpening job told error ⊎ IsOfRunning job workers error
