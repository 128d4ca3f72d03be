use Rattle.std.proofs.Common.{◌≤◌, IfSome, subst}
use Rattle.waff_model.specs.declared.limits.TheConstants.{MAX_MESSAGES}
use Rattle.waff_plan.specs.declared.last.Placed.{Placed}
use Rattle.waff_plan.proofs.place_table.PlaceTable.latest.Goals as goal

pub one-requires : goal.one-requires
one-requires c = subst (λ x. IfSome x (λ (l : Placed). l.message.number ≤ MAX_MESSAGES)) c.in-Some.is c.self.invariant.1
