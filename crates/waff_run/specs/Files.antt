-- The files of a run, and their names.
use Rattle.std.specs.Prelude.{◌≡◌, ℕ, ◌+◌, ◌<◌, List, ◌∷◌, ◌++◌, Contains, Option, Some, None, decimal, length, map, option_map, unwrap_or, if◌then◌else◌, is_some}
use Rattle.std.specs.Ordering.{nat_cmp}
use Rattle.std.specs.List.Sorted.{IsStrictlySortedBy}
use Rattle.waff_model.specs.Layout.{Space, name_at}
use Rattle.waff_model.specs.declared.cell.Cell.{Cell}
use Rattle.waff_model.specs.declared.message.Message.{Message}
use Rattle.waff_run.specs.Named.{cells_named}
use Rattle.waff_run.specs.Places.{Placing, place_of, spot_of}
use Rattle.waff_run.specs.declared.opening.CellFile.{CellFile}
use Rattle.waff_run.specs.declared.opening.Site.{Site}

-- what a run is of: the spaces of its layout, where their cells lie, and its messages
pub record Job : Type 0 where
  pub spaces : List Space
  pub placing : Placing
  pub messages : List Message

-- the name of the file for this place of the list of the map of this space: the name of the space, a point, the place
abbrev pub place_name : List Space → ℕ × ℕ → Option (List ℕ)
place_name spaces place =
    option_map (λ name. name ++ 46 ∷ decimal place.1) (name_at spaces place.0)

-- the name of the file for a place, where there is one, else this number
abbrev pub name_or : List Space → ℕ → Option (ℕ × ℕ) → List ℕ
name_or spaces number (Some place) = unwrap_or (place_name spaces place) (decimal number)
name_or spaces number None = decimal number

-- the name of the file with this number; of the file of no space, its number
abbrev pub file_name : List Space → Placing → ℕ → List ℕ
file_name spaces placing file = name_or spaces file (place_of placing file)

-- one of these cells lies in the file
pub record HasCell (placing : Placing) (cells : List Cell) (file : ℕ) : Type 0 where
  pub cell : Cell
  pub named : Contains cells cell
  pub here : (spot_of placing cell).file ≡ file

-- the files in which these cells lie, by their numbers, in order
pub record AreCellFiles (placing : Placing) (cells : List Cell) (files : List ℕ) : Type 0 where
  pub each : (file : ℕ) → Contains files file → HasCell placing cells file
  pub all : 0 < placing.bytes → (file : ℕ) → file < placing.files → HasCell placing cells file
      → Contains files file
  pub rising : IsStrictlySortedBy nat_cmp files

-- the numbers of files of cells
abbrev pub numbers_of : List CellFile → List ℕ
numbers_of files = map (λ file. file.number) files

-- so a file is named in which the messages name a cell
pub record NamesFile (job : Job) (name : List ℕ) : Type 0 where
  pub file : ℕ
  pub has_cell : HasCell job.placing (cells_named job.messages) file
  pub is : name ≡ file_name job.spaces job.placing file

-- how many files a run has beside those of cells: the mark, those that were read, and where it is wanted that of the measured
-- trace and the one beside it
abbrev pub others_of : Site → ℕ
others_of site = 1 + length site.inputs.now + (if is_some site.measured then 2 else 0)
