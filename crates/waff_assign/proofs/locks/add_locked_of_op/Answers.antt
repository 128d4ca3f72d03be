use Rattle.std.proofs.Common.{◌≡◌, ◌++◌, ◌∷◌, [], sym, ◌∙◌, ap, subst, ⊎_elim}
use Rattle.std.proofs.lemmas.List.Elements.{filter-append}
use Rattle.waff_model.specs.Cells.{cells_of_op}
use Rattle.waff_assign.specs.Uses.{Adds, is_locked, locked_cells}
use Rattle.waff_assign.proofs.Adding.{adds_more}
use Rattle.waff_assign.proofs.locks.add_locked_of_op.Goals as goal

pub returns-in_ok-add_where_locked-in-Copy-2 : goal.returns-in_ok-add_where_locked-in-Copy-2
returns-in_ok-add_where_locked-in-Copy-2 c =
    let spaces = c.args.layout.now.spaces in
    let cell = c.in-Copy.cell in
    let other = c.in-Copy.other in
    let all : cells_of_op c.args.op ≡ cell ∷ other ∷ []
    = ⊎_elim {C = cells_of_op c.args.op ≡ cell ∷ other ∷ []} (ap cells_of_op) (ap cells_of_op) c.in-Copy.is in
    let parts : locked_cells spaces (cell ∷ []) ++ locked_cells spaces (other ∷ []) ≡ locked_cells spaces (cells_of_op c.args.op)
    = sym (filter-append (is_locked spaces) (cell ∷ []) (other ∷ [])) ∙ ap (locked_cells spaces) (sym all) in
    subst (λ cells. Adds c.args.cells.now.items c.add_where_locked-in-Copy.new.cells.items cells) parts
    (adds_more c.args.cells.now.items c.add_where_locked.new.cells.items c.add_where_locked-in-Copy.new.cells.items
    (locked_cells spaces (cell ∷ [])) (locked_cells spaces (other ∷ []))
    c.in_ok-add_where_locked-in-Copy.ensures c.in_ok-add_where_locked-in-Copy-2.ensures)
