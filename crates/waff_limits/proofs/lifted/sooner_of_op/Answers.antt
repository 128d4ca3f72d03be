use Rattle.std.proofs.Common.{◌≡◌, [], ◌∷◌, ◌++◌, option_map, append_assoc, sym, ap, subst, inl, inr, ⊎_elim}
use Rattle.waff_model.specs.Cells.{cells_of_op}
use Rattle.waff_limits.specs.Lifted.{IsFirstAmong, IsOutside}
use Rattle.waff_limits.proofs.lifted.sooner_of_op.Goals as goal

pub returns-in-Copy : goal.returns-in-Copy
returns-in-Copy c = λ cells is.
    let IsMeant = IsOutside c.args.layout.now (option_map (λ a. a.0) c.args.below) in
    let cell = c.in-Copy.cell in
    let other = c.in-Copy.other in
    let all : cells_of_op c.args.op ≡ cell ∷ other ∷ [] = ⊎_elim {C = cells_of_op c.args.op ≡ cell ∷ other ∷ []} (ap cells_of_op) (ap cells_of_op) c.in-Copy.is in
    let one = c.sooner-first.ensures cells is in
    let two = c.sooner.ensures (cells ++ cell ∷ []) one in
    subst (λ cs. IsFirstAmong (cells ++ cs) IsMeant c.sooner.result) (sym all)
    (subst (λ cs. IsFirstAmong cs IsMeant c.sooner.result) (append_assoc cells (cell ∷ []) (other ∷ [])) two)

pub returns-in-Set : goal.returns-in-Set
returns-in-Set c = λ cells is.
    let IsMeant = IsOutside c.args.layout.now (option_map (λ a. a.0) c.args.below) in
    let all : cells_of_op c.args.op ≡ c.in-Set.cell ∷ [] = elim c.in-Set.is [
      | inl set ↦ ap cells_of_op set.1
      | inr (inl add) ↦ ap cells_of_op add.1
      | inr (inr read) ↦ ap cells_of_op read
    ] in
    subst (λ cs. IsFirstAmong (cells ++ cs) IsMeant c.sooner-in-Set.result) (sym all) (c.sooner-in-Set.ensures cells is)
