use Rattle.std.proofs.Common.{◌≡◌, [], ◌∷◌, ◌++◌, inl, inr, append_assoc, ⊎_elim, ap, sym, subst, ◌∙◌}
use Rattle.waff_model.specs.Cells.{cells_of_op}
use Rattle.waff_run.specs.Named.{AreEnds}
use Rattle.waff_run.proofs.spots.note_ends_of_op.Goals as goal

pub returns-in-Set : goal.returns-in-Set
returns-in-Set c = λ cells are.
    let all : cells_of_op c.args.op ≡ c.in-Set.cell ∷ [] = elim c.in-Set.is [
      | inl set ↦ ap cells_of_op set.1
      | inr (inl add) ↦ ap cells_of_op add.1
      | inr (inr read) ↦ ap cells_of_op read
    ] in
    subst (λ xs. AreEnds c.args.places.now (cells ++ xs) c.note_end-in-Set.new.ends) (sym all) (c.note_end-in-Set.ensures cells are)

pub returns-in-Copy : goal.returns-in-Copy
returns-in-Copy c = λ cells are.
    let cell = c.in-Copy.cell in
    let other = c.in-Copy.other in
    let all : cells_of_op c.args.op ≡ cell ∷ other ∷ [] = ⊎_elim {C = cells_of_op c.args.op ≡ cell ∷ other ∷ []} (ap cells_of_op) (ap cells_of_op) c.in-Copy.is in
    subst (λ xs. AreEnds c.args.places.now xs c.note_end-in-Copy.new.ends)
    (append_assoc cells (cell ∷ []) (other ∷ []) ∙ ap (λ xs. cells ++ xs) (sym all))
    (c.note_end-in-Copy.ensures (cells ++ cell ∷ []) (c.note_end.ensures cells are))
