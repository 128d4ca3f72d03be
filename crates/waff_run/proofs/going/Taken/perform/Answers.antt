use Rattle.std.proofs.Common.{length, subst}
use Rattle.std.specs.Prelude.{IfSome}
use Rattle.waff_model.specs.Numbers.{IsAmongFirst}
use Rattle.waff_run.specs.Hands.{Asking, AsksNumber}
use Rattle.waff_run.proofs.Asking.{from_fresh}
use Rattle.waff_run.proofs.going.Taken.perform.Goals as goal

pub invariant_of-result : goal.invariant_of-result
invariant_of-result g c =
    let m = c.self.inside.message in
    let after = g.S.Store.log c.perform_message.new.hand in
    subst (λ (asking : Asking). IsAmongFirst (length asking.messages) m × IfSome after (AsksNumber asking m)) c.is_of_run.ensures (
      c.in-Ok.ensures.number,
      from_fresh (AsksNumber c.args.asking.now m) (g.S.Store.log c.self.inside.hand) after c.self.invariant c.in-Ok.ensures.asked,
    )
