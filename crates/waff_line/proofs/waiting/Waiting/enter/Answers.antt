use Rattle.std.proofs.Common.{inl, ◌∷◌, sym, subst}
use Rattle.std.specs.List.Sorted.{IsPermutation}
use Rattle.waff_line.specs.Entered.{ready_in}
use Rattle.waff_waits.specs.Waits.{WaitsForNone, WhoWaits}
use Rattle.waff_line.proofs.waiting.Waiting.enter.Goals as goal

pub returns-in_ok-push-clause-ready : goal.returns-in_ok-push-clause-ready
returns-in_ok-push-clause-ready c =
    let m = c.args.joined.message in
    inl (
      subst (λ (w : WhoWaits). WaitsForNone w m) (sym c.in_ok-push.ensures.waits) (c.in_ok-is_free.ensures.none.0 c.if-is_free.true),
      subst (λ rs. IsPermutation (m ∷ rs) (ready_in c.push.new.self)) c.note.ensures.ready c.in_ok-push.ensures.ready,
    )
