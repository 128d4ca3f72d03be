use Rattle.std.proofs.Common.{◌≡◌, ℕ, List, [], ◌∷◌, Contains, sym, ap, subst, inl, inr, ⊎_elim}
use Rattle.waff_model.specs.Cells.{cells_of_op}
use Rattle.waff_model.specs.Tree.{Node, AtOrAbove}
use Rattle.waff_assign.specs.Lowest.{IsLowest}
use Rattle.waff_assign.proofs.Coverings.{lowest_of_one, lowest_of_both}
use Rattle.waff_assign.proofs.assignment.lowest_of_op.Goals as goal

pub returns-in-Set-clause-lowest : goal.returns-in-Set-clause-lowest
returns-in-Set-clause-lowest c =
    let low = c.owner-in-Set.result.0 in
    let all : cells_of_op c.args.op ≡ c.in-Set.cell ∷ [] = elim c.in-Set.is [
      | inl set ↦ ap cells_of_op set.1
      | inr (inl add) ↦ ap cells_of_op add.1
      | inr (inr read) ↦ ap cells_of_op read
    ] in
    subst (λ cells. IsLowest c.args.layout.now (Contains cells) low) (sym all)
    (lowest_of_one c.args.layout.now c.in-Set.cell low c.owner-in-Set.ensures.within c.owner-in-Set.ensures.owner)

pub returns-in-Copy-clause-lowest : goal.returns-in-Copy-clause-lowest
returns-in-Copy-clause-lowest c =
    let layout = c.args.layout.now in
    let cell = c.in-Copy.cell in
    let other = c.in-Copy.other in
    let first = c.owner.result.0 in
    let second = c.owner-in-Copy.result.0 in
    let low = c.lowest_above.result.0 in
    let h = c.lowest_above.ensures in
    let same = c.tree.ensures in
    let all : cells_of_op c.args.op ≡ cell ∷ other ∷ [] = ⊎_elim {C = cells_of_op c.args.op ≡ cell ∷ other ∷ []} (ap cells_of_op) (ap cells_of_op) c.in-Copy.is in
    subst (λ cells. IsLowest layout (Contains cells) low) (sym all)
    (lowest_of_both layout (cell ∷ []) (other ∷ []) first second low
    (lowest_of_one layout cell first c.owner.ensures.within c.owner.ensures.owner)
    (lowest_of_one layout other second c.owner-in-Copy.ensures.within c.owner-in-Copy.ensures.owner)
    (subst (λ (t : List Node). AtOrAbove t low first) same h.first)
    (subst (λ (t : List Node). AtOrAbove t low second) same h.second)
    (subst (λ (t : List Node). (a : ℕ) → AtOrAbove t a first → AtOrAbove t a second → AtOrAbove t a low) same h.lowest))
