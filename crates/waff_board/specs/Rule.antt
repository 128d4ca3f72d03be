-- The rule of a board: between any two atomic steps words, slots and views show a state that some
-- list of events reaches in the core machine.
use Rattle.std.specs.Prelude.{ℕ, ◌^◌, ◌<◌, ◌≤◌, List, length}
use Rattle.atomic_table.specs.Table.{State}
use Rattle.waff_core.specs.Job.{IsJob}
use Rattle.waff_core.specs.Machine.{Core, Runs, opening}
use Rattle.waff_core.specs.declared.actors.Event.{Event}
pub use Rattle.waff_core.specs.declared.limits.TheConstants.{MAX_SEATS}
use Rattle.waff_board.specs.Shows.{Words, Slots}
use Rattle.waff_board.specs.Seats.{Seats}
use Rattle.waff_board.specs.declared.view.Setup.{Setup}
use Rattle.waff_board.specs.declared.view.View.{View}

-- what a board may be told
pub record IsSetup (setup : Setup) : Type 0 where
  pub job : IsJob setup.job
  pub short : length setup.job.ops < 2 ^ 32
  pub few : setup.seats ≤ MAX_SEATS

pub record Holds {S : Type 0} (items : S → List ℕ) (setup : Setup) (s : State S View) : Type 0 where
  pub told : IsSetup setup
  pub events : List Event
  pub core : Core
  pub reached : Runs setup.job (opening setup.seats) events core
  pub words : Words setup.job core s.words
  pub slots : Slots items setup.job core s.homes
  pub seats : Seats setup core s.views
