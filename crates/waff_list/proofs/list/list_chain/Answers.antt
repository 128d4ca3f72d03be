use Rattle.std.proofs.Common.{Result, Ok, Err, IfOk, subst}
use Rattle.waff_plan.specs.Chain.{IsPrinted}
use Rattle.waff_plan.specs.CostedChain.{CostedChain}
use Rattle.waff_plan.specs.Serving.{started_in}
use Rattle.waff_plan.specs.Timetable.{IsTimetable, Timetable, starts_in, work_in}
use Rattle.waff_list.proofs.ServedPlans.{served_within, served_within_twice, served_within_ratio}
use Rattle.waff_list.proofs.list.list_chain.Goals as goal
use Rattle.waff_list.proofs.list.list_chain.Goals.{After-chain}

-- what follows from what the chain's call says
then : {E : Type 0} (P Q : CostedChain → Type 0) (r : Result CostedChain E) → ((chain : CostedChain) → P chain → Q chain) → IfOk r P → IfOk r Q
then P Q (Ok chain) follows h = follows chain h
then P Q (Err e) follows h = tt

printed : (c : After-chain) → IfOk c.chain.result (λ chain. IsPrinted (started_in c.args.tree.now c.args.assigned.now c.args.made.now.plan) (work_in c.args.made.now.plan) (starts_in c.args.made.now.plan) chain.messages)
printed c = rw c.plan-plan.ensures.plan at c.chain.ensures.printed

table : (c : After-chain) → IsTimetable c.args.made.now.plan
table c = subst (λ (plan : Timetable). IsTimetable plan) c.plan-plan.ensures.plan c.len-messages.ensures.table

pub returns-clause-bound : goal.returns-clause-bound
returns-clause-bound c = then _ _ c.chain.result (λ chain is_printed. served_within c.args.tree.now c.args.assigned.now c.args.made.now.plan (table c) c.requires.lengths c.args.made.now.workers c.requires.served
    c.plan-plan.ensures.seating.some chain.messages is_printed) (printed c)

pub returns-clause-twice : goal.returns-clause-twice
returns-clause-twice c = then _ _ c.chain.result (λ chain is_printed. served_within_twice c.args.tree.now c.args.assigned.now c.args.made.now.plan (table c) c.requires.lengths c.args.made.now.workers c.requires.served
    c.plan-plan.ensures.seating.some chain.messages is_printed) (printed c)

pub returns-clause-ratio : goal.returns-clause-ratio
returns-clause-ratio c = then _ _ c.chain.result (λ chain is_printed. served_within_ratio c.args.tree.now c.args.assigned.now c.args.made.now.plan (table c) c.requires.lengths c.args.made.now.workers c.requires.served
    c.plan-plan.ensures.seating.some chain.messages is_printed) (printed c)
