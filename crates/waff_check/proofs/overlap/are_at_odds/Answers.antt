-- The second message starts too early, or where messages have clients both run at a common tick.
use Rattle.std.proofs.Common.{◌↔◌, ◌∙◌, Bool, IsTrue, ap, subst, sym}
use Rattle.waff_model.specs.Versions.{has_clients}
use Rattle.waff_plan.specs.Planned.{planned_starts, planned_work}
use Rattle.waff_check.specs.Searches.{AreAtOddsWhere}
use Rattle.waff_check.proofs.overlap.are_at_odds.Goals as goal

pub returns-then-has_clients : goal.returns-then-has_clients
returns-then-has_clients c =
    let planned = c.args.planned.now in
    subst (λ (clients : Bool). IsTrue c.run_together.result ↔ AreAtOddsWhere clients (planned_work planned) (planned_starts planned) c.args.i c.args.j)
    (sym c.if-has_clients.true ∙ c.has_clients.ensures ∙ ap has_clients c.version.ensures) c.run_together.ensures

pub returns-else-has_clients : goal.returns-else-has_clients
returns-else-has_clients c =
    let planned = c.args.planned.now in
    subst (λ (clients : Bool). IsTrue c.is_too_soon.result ↔ AreAtOddsWhere clients (planned_work planned) (planned_starts planned) c.args.i c.args.j)
    (sym c.if-has_clients.false ∙ c.has_clients.ensures ∙ ap has_clients c.version.ensures) c.is_too_soon.ensures
