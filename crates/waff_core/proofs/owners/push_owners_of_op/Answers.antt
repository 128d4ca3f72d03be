use Rattle.std.proofs.Common.{◌≡◌, ◌∷◌, [], ◌∙◌, ap, refl, ⊎_elim}
use Rattle.std.proofs.lemmas.Result.{on_ok_weaker}
use Rattle.waff_model.specs.Cells.{cells_of_op}
use Rattle.waff_model.specs.Layout.{owner_of}
use Rattle.waff_model.specs.declared.op.Op.{Op}
use Rattle.waff_core.specs.Owners.{owners_in}
use Rattle.waff_core.proofs.Listing.{added_both}
use Rattle.waff_core.proofs.owners.push_owners_of_op.Goals as goal

pub returns-in_ok-insert-in-Copy-clause-added : goal.returns-in_ok-insert-in-Copy-clause-added
returns-in_ok-insert-in-Copy-clause-added c =
    let spaces = c.args.table.now.spaces in
    let first = c.owner.result.0 in
    let second = c.owner-in-Copy.result.0 in
    let named : owner_of spaces c.in-Copy.cell ∷ owner_of spaces c.in-Copy.other ∷ [] ≡ first ∷ second ∷ []
    = rw (c.owner.ensures, c.owner-in-Copy.ensures) refl in
    let two : owners_in spaces (cells_of_op c.args.op) ≡ first ∷ second ∷ []
    = ⊎_elim {C = owners_in spaces (cells_of_op c.args.op) ≡ first ∷ second ∷ []}
    (λ is. ap (λ (op : Op). owners_in spaces (cells_of_op op)) is ∙ named) (λ is. ap (λ (op : Op). owners_in spaces (cells_of_op op)) is ∙ named) c.in-Copy.is in
    on_ok_weaker c.insert-in-Copy.result
    (λ last. rw two (added_both (first ∷ []) (second ∷ []) c.args.owners.now.owners c.insert.new.self.owners c.insert-in-Copy.new.self.owners
    c.in_ok-insert-in-Copy.ensures.added last))
    c.insert-in-Copy.ensures.added
