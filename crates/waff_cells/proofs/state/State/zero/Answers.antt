use Rattle.std.proofs.Common.{◌≡◌, ℕ, ◌<◌, ◌≤◌, List, [], ◌∷◌, ◌++◌, length, take, replicate, Vec, Global, arith, rules, sym, ◌∙◌, ap, subst}
use Rattle.std.proofs.lemmas.List.{map_push, take_all, length-map}
use Rattle.waff_model.specs.Layout.{size_at}
use Rattle.waff_model.specs.Messages.{sizes_of}
use Rattle.waff_cells.specs.Grid.{cells_in, HasSizes}
use Rattle.waff_cells.specs.Held.{rows_of}
use Rattle.waff_cells.proofs.Zeros.{zero_rows, zero_sizes, zero_cells, zero_more}
use Rattle.waff_cells.proofs.state.State.zero.Goals as goal

pub loop-s-preserved : goal.loop-s-preserved
loop-s-preserved c =
    let spaces = c.args.layout.now.spaces in
    let short : c.loop-s.s < length spaces = omega (arith, c.space_count-s-end.ensures.count) in
    let row : c.in_ok-vec.field-0.items ≡ replicate (size_at spaces c.loop-s.s) 0 = search rules in
    ap rows_of c.in_ok-push.ensures.items ∙ map_push (λ (v : Vec ℕ Global). v.items) c.loop-s.rows.items c.in_ok-vec.field-0
    ∙ ap (λ rows. rows ++ c.in_ok-vec.field-0.items ∷ []) c.loop-s.invariant
    ∙ ap (λ xs. zero_rows (take c.loop-s.s (sizes_of spaces)) ++ xs ∷ []) row ∙ sym (zero_more spaces c.loop-s.s short)

rows_are : (vecs : List (Vec ℕ Global)) (sizes : List ℕ) (n : ℕ) → rows_of vecs ≡ zero_rows (take n sizes) → length sizes ≤ n
    → rows_of vecs ≡ zero_rows sizes
rows_are vecs sizes n same all = same ∙ ap zero_rows (take_all n sizes all)

pub returns-clause-sizes : goal.returns-clause-sizes
returns-clause-sizes c =
    let sizes = sizes_of c.args.layout.now.spaces in
    let all : length sizes ≤ c.loop-s.s
    = omega (arith, c.space_count-s-end.ensures.count, length-map c.args.layout.now.spaces (λ space. space.size)) in
    subst (λ rows. HasSizes rows sizes) (sym (rows_are c.loop-s.rows.items sizes c.loop-s.s c.loop-s.invariant all)) (zero_sizes sizes)

pub returns-clause-cells : goal.returns-clause-cells
returns-clause-cells c =
    let sizes = sizes_of c.args.layout.now.spaces in
    let all : length sizes ≤ c.loop-s.s
    = omega (arith, c.space_count-s-end.ensures.count, length-map c.args.layout.now.spaces (λ space. space.size)) in
    λ cell. ap (λ rows. cells_in rows cell) (rows_are c.loop-s.rows.items sizes c.loop-s.s c.loop-s.invariant all) ∙ zero_cells sizes cell
