use Rattle.std.proofs.Common.{◌≡◌, Bool, true, false, IfOk, List, ℕ, ap, sym, ◌∙◌, subst}
use Rattle.std.proofs.lemmas.Result.{IfOk-weaker}
use Rattle.waff_model.specs.Versions.{has_clients}
use Rattle.waff_core.specs.Job.{IsOrder}
use Rattle.waff_tool.specs.ListOrder.{IsReplayOrderWhere}
use Rattle.waff_tool.proofs.OrderLemmas.{numbers_are_order}
use Rattle.waff_tool.proofs.replays.order_of.Goals as goal

pub returns-then-has_clients-clause-order : goal.returns-then-has_clients-clause-order
returns-then-has_clients-clause-order c =
    let a = c.args.accepted.now in
    IfOk-weaker c.order_by_number.result _ _
    (λ order is.
    subst (λ (xs : List ℕ). IsOrder c.args.needs.now xs) (sym is)
    (numbers_are_order a.layout.tree a.assigned c.args.needs.now c.len.result c.requires.needs
    (c.requires.needs.count ∙ c.requires.assignment.count ∙ sym c.len.ensures.count)))
    c.order_by_number.ensures

pub returns-then-has_clients-clause-replay : goal.returns-then-has_clients-clause-replay
returns-then-has_clients-clause-replay c =
    let a = c.args.accepted.now in
    let clients : has_clients a.trace.version ≡ true = ap has_clients (sym c.version.ensures) ∙ sym c.has_clients.ensures ∙ c.if-has_clients.true in
    subst (λ (b : Bool). IfOk c.order_by_number.result (λ order. IsReplayOrderWhere b a.layout.tree a.assigned a.trace c.args.k order.items))
    (sym clients) (rw c.len.ensures.count at c.order_by_number.ensures)

pub returns-else-has_clients-clause-replay : goal.returns-else-has_clients-clause-replay
returns-else-has_clients-clause-replay c =
    let a = c.args.accepted.now in
    let without : has_clients a.trace.version ≡ false = ap has_clients (sym c.version.ensures) ∙ sym c.has_clients.ensures ∙ c.if-has_clients.false in
    subst (λ (b : Bool). IfOk c.list_order.result (λ order. IsReplayOrderWhere b a.layout.tree a.assigned a.trace c.args.k order.items))
    (sym without) c.list_order.ensures.list
