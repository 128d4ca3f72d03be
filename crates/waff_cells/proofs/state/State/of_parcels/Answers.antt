use Rattle.std.proofs.Common.{ℕ, ◌<◌, length, Vec, Global, arith, ◌∙◌, ap}
use Rattle.std.proofs.lemmas.List.{map_push}
use Rattle.waff_model.specs.Layout.{Hierarchy}
use Rattle.waff_cells.specs.Held.{rows_of}
use Rattle.waff_cells.proofs.Gathers.{rows_more, all_rows}
use Rattle.waff_cells.proofs.state.State.of_parcels.Goals as goal

pub loop-s-preserved : goal.loop-s-preserved
loop-s-preserved c =
    let spaces = c.args.table.now.spaces in
    let short : c.loop-s.s < length spaces = omega (arith, c.loop-s-test.true, c.space_count-count.ensures.count, ap (λ (layout : Hierarchy). length layout.spaces) c.layout.ensures) in
    let row = c.in_ok-row_of.field-0 in
    rows_more spaces (rows_of c.args.parcels.now) (rows_of c.loop-s.rows.items) (rows_of c.push.new.self.items) row.items c.loop-s.s short
    (ap rows_of c.in_ok-push.ensures.items ∙ map_push (λ (v : Vec ℕ Global). v.items) c.loop-s.rows.items row)
    c.in_ok-row_of.ensures c.loop-s.invariant

pub returns-clause-cells : goal.returns-clause-cells
returns-clause-cells c =
    all_rows c.args.table.now.spaces (rows_of c.args.parcels.now) (rows_of c.loop-s.rows.items) c.loop-s.s
    (omega (arith, c.loop-s-test.false, c.space_count-count.ensures.count, ap (λ (layout : Hierarchy). length layout.spaces) c.layout.ensures)) c.loop-s.invariant
