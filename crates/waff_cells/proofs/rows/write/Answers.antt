use Rattle.std.proofs.Common.{◌≡◌, ◌<◌, length, map, arith, [], get_or, ◌∙◌, ap}
use Rattle.waff_cells.specs.Held.{rows_of, Address}
use Rattle.waff_cells.proofs.Writes.{inside, row_of, count_of, written_rows, written_sizes}
use Rattle.waff_cells.proofs.rows.write.Goals as goal

pub index_mut-requires : goal.index_mut-requires
index_mut-requires c =
    let vecs = c.args.rows.now in
    let vec = c.index-rows-at.result in
    let there = inside (rows_of vecs) c.args.at c.requires in
    let short : c.args.at.0 < length vecs = omega (arith, there.row, count_of vecs) in
    let same : (get_or vecs c.args.at.0 vec).items ≡ get_or (rows_of vecs) c.args.at.0 [] = row_of vecs c.args.at.0 vec short in
    omega (arith, there.column, ap length same, (get_or vecs c.args.at.0 vec).ok.0)

pub returns-clause-sizes : goal.returns-clause-sizes
returns-clause-sizes c =
    let vecs = c.args.rows.now in
    let at : Address = c.args.at in
    let vec = c.index-rows-at.result in
    let there = inside (rows_of vecs) at c.requires in
    let short : c.args.at.0 < length vecs = omega (arith, there.row, count_of vecs) in
    ap (map length) (written_rows vecs at vec c.args.number short) ∙ written_sizes (rows_of vecs) at c.args.number there

pub returns-clause-rows : goal.returns-clause-rows
returns-clause-rows c =
    let vecs = c.args.rows.now in
    let at : Address = c.args.at in
    let there = inside (rows_of vecs) at c.requires in
    let short : c.args.at.0 < length vecs = omega (arith, there.row, count_of vecs) in
    written_rows vecs at c.index-rows-at.result c.args.number short
