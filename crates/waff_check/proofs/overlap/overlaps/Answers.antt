-- A pair overlaps where it is one, and is at odds.
use Rattle.std.proofs.Common.{refl}
use Rattle.waff_assign.specs.Case.{pairs_of}
use Rattle.waff_plan.specs.Planned.{planned_starts, planned_work}
use Rattle.waff_check.specs.Searches.{planned_clients}
use Rattle.waff_check.proofs.FirstLaws.{refuted}
use Rattle.waff_check.proofs.OverlapLaws.{overlap_from, overlap_parts}
use Rattle.waff_check.proofs.overlap.overlaps.Goals as goal

pub returns-then-not-are_at_odds : goal.returns-then-not-are_at_odds
returns-then-not-are_at_odds c =
    let planned = c.args.planned.now in (
      λ t. absurd (cc t),
      λ h. absurd (refuted c.if-not-are_at_odds.ensures.1
          (overlap_parts (planned_clients planned) (pairs_of planned.case) (planned_work planned) (planned_starts planned) c.args.i c.args.j h).1),
    )

pub returns : goal.returns
returns c =
    let planned = c.args.planned.now in
    let work = planned_work planned in
    let start = planned_starts planned in (
      λ t. overlap_from (planned_clients planned) (pairs_of planned.case) work start c.args.i c.args.j (c.is_ordered.ensures.0 t) (c.if-not-are_at_odds.ensures.0 refl),
      λ h. c.is_ordered.ensures.1 (overlap_parts (planned_clients planned) (pairs_of planned.case) work start c.args.i c.args.j h).0,
    )
