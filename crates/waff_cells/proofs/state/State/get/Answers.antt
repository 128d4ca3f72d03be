use Rattle.std.proofs.Common.{◌≡◌, ℕ, ◌<◌, [], length, get_or, Vec, Global, arith, ◌∙◌, ap}
use Rattle.waff_cells.specs.Held.{Address}
use Rattle.waff_cells.proofs.Writes.{inside, row_of, count_of}
use Rattle.waff_cells.proofs.state.State.get.Goals as goal

pub index-requires-2 : goal.index-requires-2
index-requires-2 c =
    let vecs = c.self.inside.rows.items in
    let vec = c.index.result.now in
    let at : Address = (c.args.cell.space, c.args.cell.index) in
    let there = inside c.args.self.now at c.requires in
    let short : at.0 < length vecs = omega (arith, there.row, count_of vecs, ap length c.self.view_is) in
    let same : vec.items ≡ get_or c.args.self.now at.0 []
    = ap (λ (v : Vec ℕ Global). v.items) c.index.ensures ∙ row_of vecs at.0 vec short ∙ ap (λ rows. get_or rows at.0 []) c.self.view_is in
    omega (arith, there.column, ap length same, vec.ok.0)
