use Rattle.std.proofs.Common.{◌≡◌, ℕ, Result, Ok, Err, IfOk, List, false, refl, sym, ap, ◌∙◌}
use Rattle.std.proofs.lemmas.Bool.{false≢true}
use Rattle.waff_model.specs.Tree.{Node}
use Rattle.waff_model.specs.Versions.{has_clients}
use Rattle.waff_model.specs.declared.message.Version.{Version}
use Rattle.waff_model.specs.declared.message.Version.TheVariants.{V1, V2, V3, V4}
use Rattle.waff_assign.specs.Order.{IsOrdered}
use Rattle.waff_plan.specs.Timetable.{starts_in, work_in}
use Rattle.waff_plan.specs.Work.{Work}
use Rattle.waff_list.specs.Rules.{IsPlanBy}
use Rattle.waff_list.specs.Served.{IsPlanServed}
use Rattle.waff_list.specs.declared.rule.Rule.{Rule}
use Rattle.waff_list.proofs.RuleLemmas.{rule_over_pairs}
use Rattle.waff_list.proofs.list.list_plan_of.Goals as goal
use Rattle.waff_assign.specs.Held.{Held}

then : {X E : Type 0} (P Q : X → Type 0) (r : Result X E) → ((x : X) → P x → Q x) → IfOk r P → IfOk r Q
then P Q (Ok x) follows h = follows x h
then P Q (Err e) follows h = tt

-- without clients what comes first in the trace is served first
served : (version : Version) (rule : Rule) (tree : List Node) (assigned : List Held) (work : Work) (k : ℕ) (start : ℕ → ℕ) → has_clients version ≡ false
    → IsPlanBy rule (IsOrdered tree assigned) work k start → IsPlanServed version rule tree assigned work k start
served V1 rule tree assigned work k start without plan = plan
served V2 rule tree assigned work k start without plan = plan
served V3 rule tree assigned work k start without plan = absurd (false≢true (sym without))
served V4 rule tree assigned work k start without plan = absurd (false≢true (sym without))

pub plan_served-requires : goal.plan_served-requires
plan_served-requires c =
    rw (c.in_ok-issued.ensures.case, c.in_ok-issued.ensures.messages) (record { workers = c.requires.workers; serves = c.args.case.lengths; fresh = (refl, c.in_ok-issued.ensures.joined) })

pub returns-clause-follows : goal.returns-clause-follows
returns-clause-follows c =
    let case = c.args.case in
    let without : has_clients case.trace.now.version ≡ false = ap has_clients (sym c.version.ensures) ∙ sym c.has_clients.ensures ∙ c.if-has_clients.false in
    then _ _ c.list_plan_by.result
    (λ made plan. served case.trace.now.version c.args.rule case.tree.now case.assigned.now (work_in made.plan) c.args.k (starts_in made.plan) without
    (rule_over_pairs case.tree.now case.assigned.now c.in_ok-needs.needs (work_in made.plan) c.args.rule c.args.k (starts_in made.plan) c.in_ok-needs.ensures.needs plan))
    c.list_plan_by.ensures.follows
