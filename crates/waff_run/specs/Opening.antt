-- How the files of a run are opened, and why not.
use Rattle.std.specs.Prelude.{◌≡◌, ◌+◌, ℕ, Bool, true, false, List, Option, Some, Contains, codes, if◌then◌else◌, is_some, length, nat_lt, slice_index, string_bytes}
use Rattle.waff_model.specs.Layout.{Hierarchy, Space}
use Rattle.waff_model.specs.Messages.{Arrivals}
use Rattle.waff_inputs.specs.declared.fault.ToolError.TheVariants as tool
use Rattle.waff_run.specs.Faults.{Told}
use Rattle.waff_run.specs.Files.{Job, file_name, others_of}
use Rattle.waff_run.specs.Places.{Placing}
use Rattle.waff_run.specs.Same.{IsFirstOfTwo}
use Rattle.waff_run.specs.declared.fault.RunError.{RunError}
use Rattle.waff_run.specs.declared.fault.RunError.TheVariants as run
use Rattle.waff_run.specs.declared.opening.Entry.{Entry}
use Rattle.waff_run.specs.declared.opening.Entry.TheVariants as entry
use Rattle.waff_run.specs.declared.opening.How.{How}
use Rattle.waff_run.specs.declared.opening.How.TheVariants as how
use Rattle.waff_run.specs.declared.opening.Site.{Site}
use Rattle.waff_run.specs.declared.same.Identity.{Identity}

-- what is there under a name is made where it is nothing, and taken only where it is a regular file that may be written over
abbrev pub how_opened : Entry → Bool → How
how_opened entry.Nothing own = how.Make
how_opened entry.Regular true = how.Take
how_opened entry.Regular false = how.Foreign
how_opened entry.Other own = how.Never

-- a run of these messages under this layout
abbrev pub job_of : Hierarchy → Placing → Arrivals → Job
job_of layout placing trace =
    record { spaces = layout.spaces; placing = placing; messages = trace.messages }

-- what is told to a run by where it reads and writes
abbrev pub told_of : Site → Told
told_of site =
    record { over = site.over; measured = is_some site.measured; others = others_of site }

-- a file is named of those with these numbers
pub record NamesOne (spaces : List Space) (placing : Placing) (numbers : List ℕ) (name : List ℕ) : Type 0 where
  pub file : ℕ
  pub one : Contains numbers file
  pub is : name ≡ file_name spaces placing file

-- why one of the files of cells with these numbers is not opened: memory was refused; it is not to be written over; or it could not be
abbrev pub IsOfCell : List Space → Placing → List ℕ → Bool → RunError → Type 0
IsOfCell spaces placing numbers own (run.Tool error) = error ≡ tool.Memory
IsOfCell spaces placing numbers own (run.Foreign name) =
    (own ≡ false) × NamesOne spaces placing numbers (string_bytes name)
IsOfCell spaces placing numbers own (run.File name) = NamesOne spaces placing numbers (string_bytes name)
IsOfCell spaces placing numbers own error = ⊥

-- two files are one of those of cells with these numbers and of so many others, by what was found of them
pub record IsTwo (spaces : List Space) (placing : Placing) (numbers : List ℕ) (others : ℕ) (name : List ℕ) : Type 0 where
  pub found : List (Option Identity)
  pub count : length found ≡ length numbers + others
  pub at : ℕ
  pub two : IsFirstOfTwo found (Some at)
  pub is : name
      ≡ (if nat_lt at (length numbers) then file_name spaces placing (slice_index numbers at) else codes "trace")

-- why the files are not told apart: memory was refused, or two are one
abbrev pub IsOfTelling : List Space → Placing → List ℕ → ℕ → RunError → Type 0
IsOfTelling spaces placing numbers others (run.Tool error) = error ≡ tool.Memory
IsOfTelling spaces placing numbers others (run.Same name) =
    IsTwo spaces placing numbers others (string_bytes name)
IsOfTelling spaces placing numbers others error = ⊥
