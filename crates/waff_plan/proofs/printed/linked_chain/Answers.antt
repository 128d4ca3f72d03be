-- The cost of the chain and its release are told with it.
use Rattle.std.proofs.Common.{◌≡◌, ◌+◌, ◌∙◌, ap, arith, sym, subst}
use Rattle.waff_plan.specs.Chain.{IsListed, chain_cost, chain_release}
use Rattle.waff_plan.specs.Serving.{started_in}
use Rattle.waff_plan.specs.Timetable.{starts_in, work_in}
use Rattle.waff_plan.specs.Work.{length_of}
use Rattle.std.proofs.Common.{length}
use Rattle.waff_plan.proofs.Chains.{printed_is_as_long}
use Rattle.waff_plan.proofs.ServingLemmas.{served_obeys_apart, started_forward}
use Rattle.waff_plan.proofs.printed.linked_chain.Goals as goal

pub walk-requires-clause-apart : goal.walk-requires-clause-apart
walk-requires-clause-apart c =
    let plan = c.args.plan.now in
    served_obeys_apart c.args.tree.now c.args.assigned.now plan.timings (starts_in plan) c.requires.lengths plan.version c.len-messages.ensures.table.timings c.requires.served

pub cost_of-cost-requires : goal.cost_of-cost-requires
cost_of-cost-requires c = subst (IsListed (length c.args.plan.now.timings)) (sym c.as_slice.ensures.value) c.in_ok-messages.ensures.listed

pub release_of-release-requires : goal.release_of-release-requires
release_of-release-requires c = subst (IsListed (length c.args.plan.now.timings)) (sym c.as_slice-2.ensures.value) c.in_ok-messages.ensures.listed

pub returns-clause-as_long : goal.returns-clause-as_long
returns-clause-as_long c = λ least.
    let plan = c.args.plan.now in
    let tree = c.args.tree.now in
    let assigned = c.args.assigned.now in
    let work = work_in plan in
    let start = starts_in plan in
    let messages = c.in_ok-messages.messages.items in
    let long : chain_release work messages + chain_cost work messages ≡ length_of work start
    = printed_is_as_long (started_in tree assigned plan) work
    (started_forward tree assigned plan.timings start c.requires.lengths plan.version c.len-messages.ensures.table.timings c.requires.served) start messages least c.in_ok-messages.ensures.printed in
    let cost : c.cost_of-cost.result ≡ chain_cost work messages = c.cost_of-cost.ensures.cost ∙ ap (chain_cost work) c.as_slice.ensures.value in
    let release : c.release_of-release.result ≡ chain_release work messages = c.release_of-release.ensures.release ∙ ap (chain_release work) c.as_slice-2.ensures.value in
    omega (arith, long, cost, release, ap (λ chain. chain.cost) c.new.ensures, ap (λ chain. chain.release) c.new.ensures)
