-- The cells that a message names are in the parcels of its footprint's owners, and in rows of a state.
use Rattle.std.proofs.Common.{◌≡◌, ℕ, ◌<◌, List, get_or, All, refl, sym, ◌∙◌, ap, subst}
use Rattle.std.proofs.lemmas.List.Elements.{Contains-get_or}
use Rattle.waff_model.specs.Cells.{cells_of, LiesIn}
use Rattle.waff_model.specs.Layout.{Space, IsCell, owner_of}
use Rattle.waff_model.specs.Messages.{sizes_of}
use Rattle.waff_model.specs.declared.cell.Cell.{Cell}
use Rattle.waff_model.proofs.TraceLemmas.{slice_index-sizes_of}
use Rattle.waff_cells.specs.Parcel.{IsOwned}
use Rattle.waff_cells.specs.Serial.{ops_of}
use Rattle.waff_core.specs.Job.{JobValue, IsJob, IsIn, owners_of}
use Rattle.waff_core.proofs.Listing.{cell_listed}

-- what is a cell lies in rows of the sizes of the spaces
pub cells_lie : (sizes : List ℕ) (spaces : List Space) (cells : List Cell) → sizes ≡ sizes_of spaces
    → All (IsCell spaces) cells → All (LiesIn sizes) cells
cells_lie sizes spaces cells same are k d within =
    let cell = get_or cells k d in
    let size : get_or sizes cell.space 0 ≡ _ = ap (λ xs. get_or xs cell.space 0) same ∙ slice_index-sizes_of spaces cell.space in
    subst (λ n. cell.index < n) (sym size) (are k d within)

-- the cells that message n names are those of its owners
pub message_owned : (job : JobValue) → IsJob job → (n : ℕ) → IsIn job n
    → All (IsOwned job.layout.spaces (owners_of job.owners n)) (cells_of (ops_of job.ops n))
message_owned job is n inside k d within =
    let cell = get_or (cells_of (ops_of job.ops n)) k d in
    let named = Contains-get_or (cells_of (ops_of job.ops n)) k d within in
    record {
      there = cell_listed job is n inside cell named;
      owned = ((is.owners n inside).each (owner_of job.layout.spaces cell)).1 (record { cell = cell; named = named; owned = refl });
    }
