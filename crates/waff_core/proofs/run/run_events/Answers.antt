use Rattle.std.proofs.Common.{◌≡◌, length, arith, sym, subst}
use Rattle.waff_core.specs.Settled.{CellsAreSerial}
use Rattle.waff_core.specs.Shown.{core_in, core_of}
use Rattle.waff_core.proofs.Pace.{steady_reached}
use Rattle.waff_core.proofs.Sound.{seats_stay, sound_reached}
use Rattle.waff_core.proofs.run.run_events.Goals as goal

pub homes-requires-clause-steady : goal.homes-requires-clause-steady
homes-requires-clause-steady c =
    steady_reached c.args.job.now c.opening.ensures.job c.args.seats c.args.events.now (core_in c.run.new.machine) c.in-Ok-run.ensures.accepted

pub new-requires : goal.new-requires
new-requires c =
    let actors : length c.run.new.machine.phases.items ≡ c.args.seats
    = seats_stay c.args.job.now c.args.seats c.args.events.now (core_in c.run.new.machine) c.in-Ok-run.ensures.accepted in
    omega (arith, actors, c.requires.seats.few)

pub returns-in-Ok-homes-clause-settled : goal.returns-in-Ok-homes-clause-settled
returns-in-Ok-homes-clause-settled c =
    let sound = sound_reached c.args.job.now c.opening.ensures.job c.args.seats c.args.events.now (core_in c.run.new.machine) c.in-Ok-run.ensures.accepted in
    subst (λ value. CellsAreSerial c.args.job.now (core_of value)) (sym c.new.ensures) sound.cells
