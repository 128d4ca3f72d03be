use Rattle.std.proofs.Common.{◌≡◌, ℕ, ◌<◌, length, arith, [], get_or, Vec, Global, ◌∙◌, ap}
use Rattle.waff_cells.specs.Held.{rows_of}
use Rattle.waff_cells.proofs.Writes.{inside, row_of, count_of}
use Rattle.waff_cells.proofs.rows.number_at.Goals as goal

pub index-requires : goal.index-requires
index-requires c =
    let vecs = c.args.rows.now in
    let at = c.args.at in
    let vec = c.index-rows-at.result in
    let there = inside (rows_of vecs) at c.requires in
    let short : at.0 < length vecs = omega (arith, there.row, count_of vecs) in
    let same : vec.items ≡ get_or (rows_of vecs) at.0 []
    = ap (λ (v : Vec ℕ Global). v.items) c.index-rows-at.is ∙ row_of vecs at.0 vec short in
    omega (arith, there.column, ap length same, vec.ok.0)
