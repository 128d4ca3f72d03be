-- Cells that are not of the layout, which no message changes.
use Rattle.std.proofs.Common.{◌≡◌, ⊎_elim, ℕ, zero, suc, ◌<◌, ◌≤◌, List, [], All, Contains, length, get_or, refl, sym, ap, ◌∙◌, subst, arith}
use Rattle.std.proofs.lemmas.Bool.{cases_lt}
use Rattle.std.proofs.lemmas.List.{get_or-map, get_or_past}
use Rattle.std.proofs.lemmas.List.Elements.{All-get_or, All-contains}
use Rattle.waff_model.specs.Cells.{cells_of}
use Rattle.waff_model.specs.Layout.{Space, IsCell, size_at}
use Rattle.waff_model.specs.Messages.{sizes_of}
use Rattle.waff_model.specs.declared.cell.Cell.{Cell}
use Rattle.waff_model.specs.declared.op.Op.{Op}
use Rattle.waff_cells.specs.Grid.{cells_in, HasSizes}
use Rattle.waff_cells.specs.Serial.{ops_of, serial}
use Rattle.waff_cells.proofs.MeaningLaws.{meaning_other}
use Rattle.waff_cells.proofs.Zeros.{size_is}
use Rattle.waff_core.specs.Job.{JobValue, IsJob}

module _ (job : JobValue) (is : IsJob job) (cell : Cell) where
  named_is : (n : ℕ) → Contains (cells_of (get_or job.ops n [])) cell → IsCell job.layout.spaces cell
  named_is n named = ⊎_elim {C = IsCell job.layout.spaces cell}
      (λ (within : n < length job.ops).
      All-contains (IsCell job.layout.spaces) (cells_of (get_or job.ops n [])) cell
      (All-get_or (λ (ops : List Op). All (IsCell job.layout.spaces) (cells_of ops)) job.ops n [] within is.cells) named)
      (λ (past : length job.ops ≤ n).
      let none : Contains (cells_of []) cell = subst (λ ops. Contains (cells_of ops) cell) (get_or_past job.ops n [] past) named in
      let within = none.1 in absurd (omega (arith, within)))
      (cases_lt n (length job.ops))

  serial_outside : ¬ IsCell job.layout.spaces cell → (n : ℕ) → serial job.ops n cell ≡ 0
  serial_outside outside zero = refl
  serial_outside outside (suc n) =
      meaning_other (ops_of job.ops (suc n)) (serial job.ops n) cell (λ named. outside (named_is n named)) ∙ serial_outside outside n

-- a state has no number past a row's end
past_row : (spaces : List Space) (rows : List (List ℕ)) → HasSizes rows (sizes_of spaces) → (cell : Cell) → size_at spaces cell.space ≤ cell.index
    → cells_in rows cell ≡ 0
past_row spaces rows sized cell past = get_or_past (get_or rows cell.space []) cell.index 0 (⊎_elim {C = length (get_or rows cell.space []) ≤ cell.index}
    (λ (within : cell.space < length rows).
    let size : length (get_or rows cell.space []) ≡ size_at spaces cell.space
    = sym (get_or-map length rows cell.space [] 0 within) ∙ ap (λ sizes. get_or sizes cell.space 0) sized ∙ size_is spaces cell.space in
    omega (arith, size, past))
    (λ (none : length rows ≤ cell.space).
    let size : length (get_or rows cell.space []) ≡ 0 = ap length (get_or_past rows cell.space [] none) in
    omega (arith, size))
    (cases_lt cell.space (length rows)))

-- what holds of the cells of the layout holds of all
pub everywhere : (job : JobValue) → IsJob job → (rows : List (List ℕ)) (n : ℕ) → HasSizes rows (sizes_of job.layout.spaces)
    → ((cell : Cell) → IsCell job.layout.spaces cell → cells_in rows cell ≡ serial job.ops n cell)
    → (cell : Cell) → cells_in rows cell ≡ serial job.ops n cell
everywhere job is rows n sized inside cell = ⊎_elim {C = cells_in rows cell ≡ serial job.ops n cell}
    (λ (there : IsCell job.layout.spaces cell). inside cell there)
    (λ (past : size_at job.layout.spaces cell.space ≤ cell.index).
    past_row job.layout.spaces rows sized cell past
    ∙ sym (serial_outside job is cell (λ there. absurd (omega (arith, there, past))) n))
    (cases_lt cell.index (size_at job.layout.spaces cell.space))
