use Rattle.std.proofs.Common.{take, get_or, arith, sym, subst}
use Rattle.std.proofs.lemmas.Option.{slice_get-get_or}
use Rattle.waff_core.specs.Machine.{opening}
use Rattle.waff_core.specs.Shown.{core_in}
use Rattle.waff_core.specs.declared.actors.Event.TheVariants.{Draw}
use Rattle.waff_core.proofs.Pace.{IsPaced, paced_opening, paced_step, steady_reached, events_few}
use Rattle.waff_core.proofs.Reaching.{runs_take_more}
use Rattle.waff_core.proofs.run.run.Goals as goal

pub loop-at-init : goal.loop-at-init
loop-at-init c = record {
  fits = c.requires.fits;
  runs = sym c.requires.opens;
  paced = subst (IsPaced 0) (sym c.requires.opens) (paced_opening c.args.seats);
}

pub step-requires-clause-steady : goal.step-requires-clause-steady
step-requires-clause-steady c =
    steady_reached c.args.job.now c.requires.job c.args.seats (take c.loop-at.at c.args.events.now) (core_in c.loop-at.machine) c.loop-at.invariant.runs

pub step-requires-clause-room : goal.step-requires-clause-room
step-requires-clause-room c =
    let few = events_few c.args.job.now c.requires.job c.requires.messages c.args.seats c.requires.few (take c.loop-at.at c.args.events.now) (core_in c.loop-at.machine)
    c.loop-at.invariant.runs c.loop-at.at c.loop-at.invariant.paced in
    omega (arith, few.1)

pub returns-in-Err-clause-refused : goal.returns-in-Err-clause-refused
returns-in-Err-clause-refused c =
    let event = get_or c.args.events.now c.loop-at.at (Draw 0) in record {
      before = c.loop-at.at;
      state = core_in c.loop-at.machine;
      runs = c.loop-at.invariant.runs;
      event = event;
      is = slice_get-get_or c.args.events.now c.loop-at.at (Draw 0) c.loop-at-test.true;
      refused = c.in-Err.ensures.refused;
    }

pub loop-at-preserved : goal.loop-at-preserved
loop-at-preserved c =
    let event = get_or c.args.events.now c.loop-at.at (Draw 0) in record {
      fits = c.step.ensures.fits;
      runs = runs_take_more c.args.job.now (opening c.args.seats) c.args.events.now c.loop-at.at event (core_in c.loop-at.machine) (core_in c.step.new.self)
          (slice_get-get_or c.args.events.now c.loop-at.at (Draw 0) c.loop-at-test.true) c.loop-at.invariant.runs c.in-Ok.ensures.stepped;
      paced = paced_step c.args.job.now (core_in c.loop-at.machine) event (core_in c.step.new.self) c.loop-at.at c.in-Ok.ensures.stepped c.loop-at.invariant.paced;
    }
