use Rattle.std.proofs.Common.{[], ◌∷◌, ◌++◌, arith, sym, subst}
use Rattle.waff_limits.specs.Readings.{AreRead}
use Rattle.waff_limits.proofs.SkyLemmas.{cell_read, longer_read, reading_of}
use Rattle.waff_limits.proofs.readings.Readings.add.Goals as goal

pub returns-then-place-last-eq1 : goal.returns-then-place-last-eq1
returns-then-place-last-eq1 c = λ peak are.
    let last = c.args.self.now.last in
    longer_read c.args.self.now.readings.items c.args.cell c.args.cost peak c.place_of-place.ensures.small last.first last.last c.place_of-place.result
    c.place_of-place.ensures.place (omega (arith, c.if-last-place-2.true, c.if-place-last-eq1.true)) c.if-last-place.true
    (subst (λ k. AreRead (c.args.self.now.readings.items ++ reading_of last.first last.last k ∷ []) peak) c.if-last-cost.true are)

pub returns-in_ok-push : goal.returns-in_ok-push
returns-in_ok-push c = λ peak are.
    let all = c.push.new.self.items in
    cell_read all c.args.cell c.args.cost peak c.place_of-place.ensures.small c.place_of-place.result c.place_of-place.ensures.place
    (subst (λ rs. AreRead rs peak) (sym c.in_ok-push.ensures.items) are)
