use Rattle.std.proofs.Common.{◌≡◌, List, [], ◌∷◌, ◌++◌, inl, inr, sym, ◌∙◌, ap, subst, append_assoc, ⊎_elim}
use Rattle.std.specs.Prelude.{option_map}
use Rattle.waff_model.specs.Cells.{cells_of_op}
use Rattle.waff_model.specs.declared.cell.Cell.{Cell}
use Rattle.waff_model.specs.declared.tree.AffinityId.{AffinityId}
use Rattle.waff_assign.specs.Lowest.{IsAffinityAmong}
use Rattle.waff_assign.proofs.assignment.lowered_by_op.Goals as goal

pub returns-in-Copy-clause-lowest : goal.returns-in-Copy-clause-lowest
returns-in-Copy-clause-lowest c = λ cells before.
    let cell = c.in-Copy.cell in
    let other = c.in-Copy.other in
    let all : cells_of_op c.args.op ≡ cell ∷ other ∷ []
    = ⊎_elim {C = cells_of_op c.args.op ≡ cell ∷ other ∷ []} (ap cells_of_op) (ap cells_of_op) c.in-Copy.is in
    let parts : (cells ++ cell ∷ []) ++ other ∷ [] ≡ cells ++ cells_of_op c.args.op
    = append_assoc cells (cell ∷ []) (other ∷ []) ∙ ap (λ (xs : List Cell). cells ++ xs) (sym all) in
    subst (λ xs. IsAffinityAmong c.args.layout.now xs (option_map (λ (a : AffinityId). a.0) c.lowered-in-Copy.result)) parts
    (c.lowered-in-Copy.ensures.lowest (cells ++ cell ∷ []) (c.lowered.ensures.lowest cells before))

pub returns-in-Set-clause-lowest : goal.returns-in-Set-clause-lowest
returns-in-Set-clause-lowest c = λ cells before.
    let all : cells_of_op c.args.op ≡ c.in-Set.cell ∷ [] = elim c.in-Set.is [
      | inl set ↦ ap cells_of_op set.1
      | inr (inl add) ↦ ap cells_of_op add.1
      | inr (inr read) ↦ ap cells_of_op read
    ] in
    subst (λ (xs : List Cell). IsAffinityAmong c.args.layout.now (cells ++ xs) (option_map (λ (a : AffinityId). a.0) c.lowered-in-Set.result)) (sym all)
    (c.lowered-in-Set.ensures.lowest cells before)
