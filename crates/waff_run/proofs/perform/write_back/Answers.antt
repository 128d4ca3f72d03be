use Rattle.std.proofs.Common.{◌+◌, length, refl, rules, subst}
use Rattle.waff_run.specs.Asked.{AsksBack, AsksOneBack, GoesOn, no_place, place_more}
use Rattle.waff_run.proofs.Asking.{goes_nowhere, goes_on}
use Rattle.waff_run.proofs.perform.write_back.Goals as goal

pub loop-at-init : goal.loop-at-init
loop-at-init g c = (refl, goes_nowhere (AsksBack (length c.args.bytes.now) c.args.spots.now 0) no_place (g.S.Store.log c.args.hand.now))

pub loop-at-preserved : goal.loop-at-preserved
loop-at-preserved g c =
    let long = length c.args.bytes.now in
    let spots = c.args.spots.now in
    let at = c.loop-at.at in
    let log = g.S.Store.log in (
      search rules,
      goes_on (AsksBack long spots at) (AsksOneBack long spots at) (AsksBack long spots (at + 1))
          (λ one other back asks. place_more at one other back asks) (log c.args.hand.now) (log c.loop-at.hand) (log c.write_one_back.new.hand)
          c.loop-at.invariant.1
          (subst (λ n. GoesOn (log c.loop-at.hand) (log c.write_one_back.new.hand) (AsksOneBack n spots at)) c.loop-at.invariant.0
          c.in_ok-write_one_back.ensures),
    )
