-- What each message waited for since its release is its link.
use Rattle.std.proofs.Common.{List, Option, ℕ, length, subst, sym}
use Rattle.waff_plan.specs.Links.{AreLinks}
use Rattle.waff_plan.specs.Serving.{started_in}
use Rattle.waff_plan.specs.Timetable.{starts_in, work_in}
use Rattle.waff_plan.proofs.ServingLemmas.{served_obeys_apart}
use Rattle.waff_plan.proofs.printed.chain.Goals as goal

pub waits-requires-clause-apart : goal.waits-requires-clause-apart
waits-requires-clause-apart c =
    let plan = c.args.plan.now in
    served_obeys_apart c.args.tree.now c.args.assigned.now plan.timings (starts_in plan) c.requires.lengths plan.version c.len-messages.ensures.table.timings c.requires.served

pub linked_chain-requires-clause-links : goal.linked_chain-requires-clause-links
linked_chain-requires-clause-links c =
    let plan = c.args.plan.now in
    subst (λ (xs : List (Option ℕ)). AreLinks (started_in c.args.tree.now c.args.assigned.now plan) (work_in plan) (starts_in plan) (length plan.timings) xs)
    (sym c.as_slice.ensures.value) c.in_ok-links.ensures.waits
