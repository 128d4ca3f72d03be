-- What locks would give is told of a trace of either version that has clients.
use Rattle.std.proofs.Common.{◌≡◌, ℕ, zero, suc, List, [], ◌∷◌, Option, Some, None, inl, inr}
use Rattle.waff_model.specs.Layout.{Hierarchy, lockings_of, with_lockings}
use Rattle.waff_model.specs.Messages.{Arrivals}
use Rattle.waff_model.specs.declared.locking.Locking.{Locking}
use Rattle.waff_model.specs.declared.message.Message.{Message}
use Rattle.waff_model.specs.declared.message.Version.{Version}
use Rattle.waff_assign.specs.Held.{Held}
use Rattle.waff_list.specs.declared.rule.Rule.{Rule}
use Rattle.waff_locks.specs.LocksText.{TellsLocks}
use Rattle.waff_locks.specs.Sets.{AreFigures, AreFiguresUnder, AreFiguresWith, IsListLength, instance_with}
use Rattle.waff_locks.specs.Steps.{AreSteps, AreTried, IsStep, with_one}
use Rattle.waff_locks.specs.declared.figures.SetFigures.{SetFigures}
use Rattle.waff_locks.specs.declared.figures.SpaceFigures.{SpaceFigures}
use Rattle.waff_locks.specs.declared.wanted.Wanted.{Wanted}
use Rattle.waff_tool.proofs.EarlierReadings.{Both, down, up}

abbrev trace_in : List ℕ → List Message → Version → Arrivals
trace_in sizes messages version = record { version = version; sizes = sizes; messages = messages }

module _ (wanted : Wanted) (layout : Hierarchy) (sizes : List ℕ) (messages : List Message) where
  list_length : {v w : Version} → Both v w → (under : Hierarchy) (assigned : List Held) (workers plan : Option ℕ)
      → IsListLength wanted.rule (instance_with under (trace_in sizes messages v) assigned) workers plan
      → IsListLength wanted.rule (instance_with under (trace_in sizes messages w) assigned) workers plan
  list_length both under assigned None plan p = p
  list_length down under assigned (Some k) plan p = p
  list_length up under assigned (Some k) plan p = p

  are_figures : {v w : Version} → Both v w → (under : Hierarchy) (assigned : List Held) (figures : SetFigures)
      → AreFigures wanted (instance_with under (trace_in sizes messages v) assigned) figures
      → AreFigures wanted (instance_with under (trace_in sizes messages w) assigned) figures
  are_figures down under assigned figures p = record {
    starts = p.starts;
    least = p.least;
    tree = p.tree;
    locks = p.locks;
    order = p.order;
    plan = list_length down under assigned wanted.workers figures.plan p.plan;
    total = p.total;
    messages = p.messages;
    alone = p.alone;
    shared = p.shared;
  }
  are_figures up under assigned figures p = record {
    starts = p.starts;
    least = p.least;
    tree = p.tree;
    locks = p.locks;
    order = p.order;
    plan = list_length up under assigned wanted.workers figures.plan p.plan;
    total = p.total;
    messages = p.messages;
    alone = p.alone;
    shared = p.shared;
  }

  with : {v w : Version} → Both v w → (lockings : List Locking) (figures : SetFigures)
      → AreFiguresWith wanted layout (trace_in sizes messages v) lockings figures → AreFiguresWith wanted layout (trace_in sizes messages w) lockings figures
  with both lockings figures p = record {
    assigned = p.assigned;
    assignment = p.assignment;
    are = are_figures both (with_lockings layout lockings) p.assigned figures p.are;
  }

  tried : {v w : Version} → Both v w → (lockings : List Locking) (them : List SpaceFigures)
      → AreTried wanted layout (trace_in sizes messages v) lockings them → AreTried wanted layout (trace_in sizes messages w) lockings them
  tried both lockings them p = record { in_turn = p.in_turn; each = λ k d inside. with both _ _ (p.each k d inside) }

  step : {v w : Version} → Both v w → (lockings : List Locking) (one : SpaceFigures)
      → IsStep wanted layout (trace_in sizes messages v) lockings one → IsStep wanted layout (trace_in sizes messages w) lockings one
  step both lockings one p = record { tried = p.tried; are_tried = tried both lockings p.tried p.are_tried; among = p.among; first = p.first }

  steps : {v w : Version} → Both v w → (most : ℕ) (lockings : List Locking) (them : List SpaceFigures)
      → AreSteps wanted layout (trace_in sizes messages v) most lockings them → AreSteps wanted layout (trace_in sizes messages w) most lockings them
  steps both most lockings [] p = p
  steps both zero lockings (one ∷ more) p = absurd p
  steps both (suc most) lockings (one ∷ more) p = (step both lockings one p.0, steps both most (with_one wanted lockings one.space) more p.1)

  pub locks : {v w : Version} → Both v w → (text : List ℕ) → TellsLocks wanted layout (trace_in sizes messages v) text
      → TellsLocks wanted layout (trace_in sizes messages w) text
  locks both text p = record {
    before = p.before;
    ones = p.ones;
    steps = p.steps;
    all = p.all;
    as_it_is = with both (lockings_of layout.spaces) p.before p.as_it_is;
    each = tried both (lockings_of layout.spaces) p.ones p.each;
    greedy = steps both wanted.steps (lockings_of layout.spaces) p.steps p.greedy;
    with_all = with both _ p.all p.with_all;
    lines = p.lines;
  }
