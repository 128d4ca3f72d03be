use Rattle.std.proofs.Common.{◌≡◌, ◌+◌, [], get_or, length, arith, sym, ◌∙◌, ap}
use Rattle.std.specs.Map.{values_of}
use Rattle.waff_plan.specs.Timetable.{starts_in, work_in}
use Rattle.waff_plan.specs.Work.{finish_of}
use Rattle.waff_draw.specs.Loose.{lanes_over, loose_entries, loose_lanes}
use Rattle.waff_draw.proofs.LooseLemmas.{unlocked_entries, zeros}
use Rattle.waff_draw.proofs.loose.loose_lanes.Goals as goal

pub returns-then-is_unlocked-clause-ends : goal.returns-then-is_unlocked-clause-ends
unfolding loose_lanes
returns-then-is_unlocked-clause-ends c =
    let tree = c.args.case.now.tree.now in
    let assigned = c.args.case.now.assigned.now in
    let plan = c.args.plan.now in
    let start = starts_in plan in
    let finish = finish_of (work_in plan) start in
    let none : loose_entries assigned start (length assigned) ≡ []
    = unlocked_entries tree assigned start c.args.case.now.known (c.is_unlocked.ensures.0 c.if-is_unlocked.true) (length assigned) (omega arith) in
    c.new.ensures.items ∙ sym (ap (λ es. (lanes_over start finish (length assigned) (values_of es)).ends) none)

pub returns-then-is_unlocked-clause-places : goal.returns-then-is_unlocked-clause-places
unfolding loose_lanes
returns-then-is_unlocked-clause-places c n =
    let tree = c.args.case.now.tree.now in
    let assigned = c.args.case.now.assigned.now in
    let plan = c.args.plan.now in
    let start = starts_in plan in
    let finish = finish_of (work_in plan) start in
    let none : loose_entries assigned start (length assigned) ≡ []
    = unlocked_entries tree assigned start c.args.case.now.known (c.is_unlocked.ensures.0 c.if-is_unlocked.true) (length assigned) (omega arith) in
    ap (λ ps. get_or ps n 0) c.new-then-is_unlocked.ensures.items
    ∙ sym (zeros (length assigned + 1) n)
    ∙ sym (ap (λ es. get_or (lanes_over start finish (length assigned) (values_of es)).places n 0) none)
