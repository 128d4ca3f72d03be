-- The chain reaches the length, or where messages have clients no plan is shorter.
use Rattle.std.proofs.Common.{◌↔◌, ◌∙◌, Bool, IsTrue, ap, subst, sym}
use Rattle.std.proofs.lemmas.Result.{IfOk-weaker}
use Rattle.waff_model.specs.Versions.{has_clients}
use Rattle.waff_check.specs.Claimed.{claimed}
use Rattle.waff_check.specs.Verdicts.{IsShortWhere}
use Rattle.waff_check.proofs.ShortLaws.{least_tells, reach_tells}
use Rattle.waff_check.proofs.checking.is_short.Goals as goal

pub returns-then-has_clients : goal.returns-then-has_clients
returns-then-has_clients c =
    let claim = claimed c.args.claim.now in
    let is = sym c.if-has_clients.true ∙ c.has_clients.ensures ∙ ap has_clients c.version.ensures in
    IfOk-weaker c.is_least.result _ _
    (λ told least. subst (λ (clients : Bool). IsTrue told ↔ IsShortWhere clients claim) is (least_tells claim c.args.totals.now c.requires.totals told least))
    c.is_least.ensures

pub returns-else-has_clients : goal.returns-else-has_clients
returns-else-has_clients c =
    let claim = claimed c.args.claim.now in
    let is = sym c.if-has_clients.false ∙ c.has_clients.ensures ∙ ap has_clients c.version.ensures in
    subst (λ (clients : Bool). IsTrue c.reaches.result ↔ IsShortWhere clients claim) is
    (reach_tells claim c.args.totals.now c.requires.totals c.reaches.result c.reaches.ensures)
