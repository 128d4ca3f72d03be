-- A step of a seat that is an event of the core machine.
use Rattle.std.proofs.Common.{ℕ, List, [], ◌∷◌, ◌++◌}
use Rattle.atomic_table.specs.Table.{State}
use Rattle.waff_core.specs.Machine.{Core, Steps, opening}
use Rattle.waff_core.specs.declared.actors.Event.{Event}
use Rattle.waff_core.proofs.Reaching.{runs_more}
use Rattle.waff_board.specs.Rule.{Holds}
use Rattle.waff_board.specs.Seats.{Seats}
use Rattle.waff_board.specs.Shows.{Words, Slots}
use Rattle.waff_board.specs.declared.view.Setup.{Setup}
use Rattle.waff_board.specs.declared.view.View.{View}

-- the event leads from one state to the next one, which words and views show then
pub record IsNext (setup : Setup) (core : Core) (event : Event) (next : Core) (ws : List ℕ) (vs : List View) : Type 0 where
  pub steps : Steps setup.job core event next
  pub words : Words setup.job next ws
  pub seats : Seats setup next vs

-- where the slots show it too, the rule is kept
pub holds_next : {S : Type 0} (items : S → List ℕ) (setup : Setup) (s t : State S View) (h : Holds items setup s) (event : Event) (next : Core)
    → IsNext setup h.core event next t.words t.views → Slots items setup.job next t.homes → Holds items setup t
holds_next items setup s t h event next is slots = record {
  told = h.told;
  events = h.events ++ event ∷ [];
  core = next;
  reached = runs_more setup.job (opening setup.seats) h.events h.core event next h.reached is.steps;
  words = is.words;
  slots = slots;
  seats = is.seats;
}
