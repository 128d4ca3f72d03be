-- The first place at which a search finds something.
use Rattle.std.proofs.Common.{◌≡◌, ◌-◌, arith, ap, ◌∙◌}
use Rattle.std.specs.List.{range_with_len}
use Rattle.rayon.specs.Numbers.{nat_range}
use Rattle.rayon.proofs.ToStd.{nat_range-All}
use Rattle.waff_plan.specs.Planned.{planned_work}
use Rattle.waff_check.specs.Searches.{HasOverlap, IsSearchable}
use Rattle.waff_check.proofs.PlaceLaws.{first-place}
use Rattle.waff_check.proofs.overlap.first_place.Goals as goal

pub position_first-requires-clause-items : goal.position_first-requires-clause-items
position_first-requires-clause-items g c κs =
    let ends = c.into_par_iter.ensures in
    let few = c.len.ensures.table.few in
    let inside = nat_range-All (IsSearchable c.args.planned.now) c.args.from c.len.result
    (λ i low high. record { few = few; below = omega (arith, c.len.ensures.count) }) in
    rw (ends.0, ends.1) (λ crossing. inside)

pub returns-clause-first : goal.returns-clause-first
returns-clause-first g c =
    let ends = c.into_par_iter.ensures in
    let done = c.position_first.ensures in
    let n = (planned_work c.args.planned.now).count - c.args.from in
    let count : c.len.result - c.args.from ≡ n = omega (arith, c.len.ensures.count) in
    let list = done.2 ∙ (λ i. nat_range (ends.0 i) (ends.1 i)) ∙ ap (range_with_len c.args.from) count in
    first-place (HasOverlap c.args.planned.now) c.args.from n done.0 done.1 c.position_first.result done.3 list (omega (arith, c.len.ensures.table.few)) done.4
