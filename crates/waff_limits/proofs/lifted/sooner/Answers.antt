use Rattle.std.proofs.Common.{option_map, sym, ◌∙◌}
use Rattle.std.proofs.lemmas.Bool.{false≢true}
use Rattle.waff_limits.specs.Lifted.{IsOutside}
use Rattle.waff_limits.proofs.FirstCells.{keeps, takes}
use Rattle.waff_limits.proofs.lifted.sooner.Goals as goal

pub returns-then-is_outside : goal.returns-then-is_outside
returns-then-is_outside c = λ cells is.
    takes (IsOutside c.args.layout.now (option_map (λ a. a.0) c.args.below)) cells c.args.cell c.args.first
    (c.is_sooner.ensures.0 c.if-not-is_sooner.false) (c.is_outside.ensures.0 c.if-is_outside.true) is

pub returns-else-is_outside : goal.returns-else-is_outside
returns-else-is_outside c = λ cells is.
    keeps (IsOutside c.args.layout.now (option_map (λ a. a.0) c.args.below)) cells c.args.cell c.args.first
    (λ sooner outside. false≢true (sym c.if-is_outside.false ∙ c.is_outside.ensures.1 outside)) is

pub returns-then-not-is_sooner : goal.returns-then-not-is_sooner
returns-then-not-is_sooner c = λ cells is.
    keeps (IsOutside c.args.layout.now (option_map (λ a. a.0) c.args.below)) cells c.args.cell c.args.first
    (λ sooner outside. false≢true (sym c.if-not-is_sooner.true ∙ c.is_sooner.ensures.1 sooner)) is
