-- What `locks` prints for the bytes of its files, and that `limits` tells the same of each hierarchy.
use Rattle.std.specs.Prelude.{◌≡◌, ℕ, List, [], ◌∷◌, All, Option, Some}
use Rattle.waff_model.specs.Layout.{Hierarchy, lockings_of, with_lockings}
use Rattle.waff_model.specs.Messages.{Arrivals}
use Rattle.waff_model.specs.declared.locking.Locking.{Locking}
use Rattle.waff_assign.specs.Held.{Held}
use Rattle.waff_assign.specs.Instance.{Instance}
use Rattle.waff_assign.specs.Lowest.{IsAssignment}
use Rattle.waff_list.specs.declared.rule.Rule.{Rule}
use Rattle.waff_figures.specs.declared.figures.Figures.{Figures}
use Rattle.waff_inputs.specs.Inputs.{IsToldUnder, instance_under}
use Rattle.waff_limits.specs.Limits.{ticks_of}
use Rattle.waff_limits.specs.declared.limits.Limits.{Limits}
use Rattle.waff_locks.specs.Candidates.{candidates, locked_too}
use Rattle.waff_locks.specs.LocksText.{TellsLocks}
use Rattle.waff_locks.specs.Steps.{with_one}
use Rattle.waff_locks.specs.declared.figures.SetFigures.{SetFigures}
use Rattle.waff_locks.specs.declared.figures.SpaceFigures.{SpaceFigures}
use Rattle.waff_locks.specs.declared.wanted.Wanted.{Wanted}
use Rattle.waff_tool.specs.LimitsText.{TellsLimits}

-- what is asked: by the plan for this number of workers by this rule, of locks of this kind, in at most so many steps
abbrev pub wanted_of : Option ℕ → Rule → Locking → ℕ → Wanted
wanted_of workers rule kind steps = record { workers = workers; rule = rule; kind = kind; steps = steps }

-- the text of which spaces of a hierarchy are worth locks for an instance's trace
abbrev pub TellsLocksOf : Option ℕ → Rule → Locking → ℕ → Hierarchy → Instance → List ℕ → Type 0
TellsLocksOf workers rule kind steps layout instance = TellsLocks (wanted_of workers rule kind steps) layout instance.trace

-- that of a hierarchy and a trace
abbrev pub IsLocksText : Option ℕ → Rule → Locking → ℕ → List ℕ → List ℕ → List ℕ → Type 0
IsLocksText workers rule kind steps hierarchy_file trace_file text =
    IsToldUnder (TellsLocksOf workers rule kind steps) hierarchy_file trace_file text

-- the figures of a line are in what `limits` tells: in its lines `tree`, `locks` and `order`, in the total that its speedups are of, and where it
-- is asked for as many workers in its line `plan` for them
pub record AreInLimits (workers : Option ℕ) (figures : SetFigures) (limits : Limits) (listed : List Figures) : Type 0 where
  pub tree : figures.tree ≡ limits.path.ticks
  pub locks : figures.locks ≡ ticks_of limits.locks
  pub order : figures.order ≡ limits.order
  pub total : figures.total ≡ limits.total
  pub plan : All (λ line. line.workers ≡ workers → figures.plan ≡ Some line.length) listed

-- they are in each text of `limits` of the trace under the hierarchy by the same rule
abbrev pub AreOfLimits : Wanted → Arrivals → Hierarchy → SetFigures → Type 0
AreOfLimits wanted trace layout figures =
    (assigned : List Held) (workers text : List ℕ) → IsAssignment layout trace.messages assigned
    → (told : TellsLimits wanted.rule workers layout.spaces (instance_under layout assigned trace) text)
    → AreInLimits wanted.workers figures told.limits told.listed

-- those of each step, under the hierarchy with the locks of all steps up to it
abbrev pub StepsAreOfLimits : Wanted → Arrivals → Hierarchy → List Locking → List SpaceFigures → Type 0
StepsAreOfLimits wanted trace layout lockings [] = Unit {0}
StepsAreOfLimits wanted trace layout lockings (step ∷ steps) =
    AreOfLimits wanted trace (with_lockings layout (with_one wanted lockings step.space)) step.figures
    × StepsAreOfLimits wanted trace layout (with_one wanted lockings step.space) steps

-- those of each line, under the hierarchy that it names: as it is, with one candidate locked, with those of the steps up to it, with all
pub record LinesAreOfLimits (wanted : Wanted) (trace : Arrivals) (layout : Hierarchy) (before : SetFigures) (ones steps : List SpaceFigures)
    (all : SetFigures) : Type 0 where
  pub as_it_is : AreOfLimits wanted trace layout before
  pub each : All (λ one. AreOfLimits wanted trace (with_lockings layout (with_one wanted (lockings_of layout.spaces) one.space)) one.figures) ones
  pub in_turn : StepsAreOfLimits wanted trace layout (lockings_of layout.spaces) steps
  pub with_all : AreOfLimits wanted trace (with_lockings layout
      (locked_too wanted.kind (candidates wanted.kind trace.messages (lockings_of layout.spaces)) (lockings_of layout.spaces))) all

-- so it is of each text
abbrev pub LocksAreOfLimits : Option ℕ → Rule → Locking → ℕ → List ℕ → List ℕ → Type 0
LocksAreOfLimits workers rule kind steps hierarchy_file trace_file =
    (text : List ℕ) → (told : IsLocksText workers rule kind steps hierarchy_file trace_file text)
    → LinesAreOfLimits (wanted_of workers rule kind steps) told.instance.trace told.accepts.layout told.told.before told.told.ones told.told.steps
    told.told.all
