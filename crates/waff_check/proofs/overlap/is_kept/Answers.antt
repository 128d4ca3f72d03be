-- The first messages keep the order, or where messages have clients are apart.
use Rattle.std.proofs.Common.{◌↔◌, ◌∙◌, Bool, IsTrue, ap, subst, sym}
use Rattle.std.proofs.lemmas.Result.{IfOk-weaker}
use Rattle.waff_model.specs.Versions.{has_clients}
use Rattle.waff_assign.specs.Case.{pairs_of}
use Rattle.waff_plan.specs.Planned.{planned_starts, planned_work}
use Rattle.waff_check.proofs.OverlapLaws.{NoneOfFirst, apart_tells, order_tells}
use Rattle.waff_check.proofs.overlap.is_kept.Goals as goal

pub returns-then-has_clients : goal.returns-then-has_clients
returns-then-has_clients c =
    let planned = c.args.planned.now in
    let is = sym c.if-has_clients.true ∙ c.has_clients.ensures ∙ ap has_clients c.version.ensures in
    IfOk-weaker c.keeps_apart.result _ _
    (λ kept told. subst (λ (clients : Bool). IsTrue kept ↔ NoneOfFirst clients (pairs_of planned.case) (planned_work planned) (planned_starts planned) c.args.count) is
    (apart_tells (pairs_of planned.case) (planned_work planned) (planned_starts planned) c.args.count kept told))
    c.keeps_apart.ensures

pub returns-else-has_clients : goal.returns-else-has_clients
returns-else-has_clients c =
    let planned = c.args.planned.now in
    let is = sym c.if-has_clients.false ∙ c.has_clients.ensures ∙ ap has_clients c.version.ensures in
    IfOk-weaker c.keeps_order.result _ _
    (λ kept told. subst (λ (clients : Bool). IsTrue kept ↔ NoneOfFirst clients (pairs_of planned.case) (planned_work planned) (planned_starts planned) c.args.count) is
    (order_tells (pairs_of planned.case) (planned_work planned) (planned_starts planned) c.args.count kept told))
    c.keeps_order.ensures
