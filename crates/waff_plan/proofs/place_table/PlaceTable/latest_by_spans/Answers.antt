use Rattle.std.proofs.Common.{◌≤◌, length, arith, sym, ◌∙◌, ap, ap₂, subst}
use Rattle.waff_plan.specs.Latest.{later_of}
use Rattle.waff_plan.specs.Table.{PlaceTable, IsPlaceTable}
use Rattle.waff_plan.proofs.PlaceTables.{latest_meeting}
use Rattle.waff_plan.proofs.place_table.PlaceTable.latest_by_spans.Goals as goal

pub returns : goal.returns
returns c = λ spans assigned finish noted table.
    let now : PlaceTable = record { own = c.self.inside.own; over = c.self.inside.over; last = c.self.inside.last } in
    let long = ap (λ (t : PlaceTable). length t.own) c.self.view_is in
    let within : c.args.span.end ≤ length now.own = omega (arith, long, c.requires.within) in
    latest_meeting spans assigned finish noted c.args.span now c.later.result c.requires.forward within
    (subst (IsPlaceTable spans assigned finish noted) (sym c.self.view_is) table)
    (c.later.ensures ∙ ap₂ later_of c.at-above.ensures c.latest-below.ensures)
