use Rattle.std.proofs.Common.{Contains, sym, subst}
use Rattle.waff_plan.specs.Latest.{IsFound}
use Rattle.waff_plan.specs.Table.{IsPlaceTable, StandsOver}
use Rattle.waff_plan.proofs.place_table.PlaceTable.latest_over.Goals as goal

pub returns : goal.returns
returns c = λ spans assigned finish noted table.
    let h = subst (IsPlaceTable spans assigned finish noted) (sym c.self.view_is) table in
    subst (λ x. IsFound (λ i. Contains noted i × StandsOver spans assigned i c.args.place) finish x) (sym c.at.ensures) (h.over c.args.place)
