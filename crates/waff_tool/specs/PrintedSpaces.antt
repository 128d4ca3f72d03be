-- The spaces of a layout, as far as they are printed.
use Rattle.std.specs.Prelude.{◌≡◌, ℕ, ◌<◌, List, Some, length, slice_index_or}
use Rattle.waff_model.specs.Layout.{Space, name_at, size_at}
use Rattle.waff_tool.specs.declared.state_text.PrintedSpace.{PrintedSpace}

-- the first of these spaces are printed so: under their names, with their sizes
pub record ArePrinted (spaces : List Space) (printed : List PrintedSpace) : Type 0 where
  pub name : (s : ℕ) (d : PrintedSpace) → s < length printed
      → name_at spaces s ≡ Some (slice_index_or printed s d).name
  pub size : (s : ℕ) (d : PrintedSpace) → s < length printed
      → size_at spaces s ≡ (slice_index_or printed s d).size

-- all of them are
pub record AreAllPrinted (spaces : List Space) (printed : List PrintedSpace) : Type 0 where
  pub count : length printed ≡ length spaces
  pub each : ArePrinted spaces printed
