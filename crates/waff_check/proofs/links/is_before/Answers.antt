-- The messages are an ordered pair, or where messages have clients the first one starts first.
use Rattle.std.proofs.Common.{◌↔◌, ◌∙◌, IsTrue, ap, subst, sym}
use Rattle.waff_model.specs.Versions.{has_clients}
use Rattle.waff_assign.specs.Order.{Relation}
use Rattle.waff_plan.specs.Planned.{planned_starts}
use Rattle.waff_check.proofs.LinkLaws.{by_starts, in_turn}
use Rattle.waff_check.proofs.links.is_before.Goals as goal

pub returns-then-has_clients : goal.returns-then-has_clients
returns-then-has_clients c =
    let planned = c.args.planned.now in
    let some = ap has_clients (sym c.version.ensures) ∙ sym c.has_clients.ensures ∙ c.if-has_clients.true in
    subst (λ (before : Relation). IsTrue c.starts_first.result ↔ before c.args.i c.args.j)
    (sym (by_starts planned.case.trace.now.version planned.case.tree.now planned.case.assigned.now (planned_starts planned) some)) c.starts_first.ensures

pub returns-else-has_clients : goal.returns-else-has_clients
returns-else-has_clients c =
    let planned = c.args.planned.now in
    let none = ap has_clients (sym c.version.ensures) ∙ sym c.has_clients.ensures ∙ c.if-has_clients.false in
    subst (λ (before : Relation). IsTrue c.is_ordered.result ↔ before c.args.i c.args.j)
    (sym (in_turn planned.case.trace.now.version planned.case.tree.now planned.case.assigned.now (planned_starts planned) none)) c.is_ordered.ensures
