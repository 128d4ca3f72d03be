-- What `limits` prints for the bytes of its files.
use Rattle.std.specs.Prelude.{◌≡◌, ℕ, ◌≤◌, max, true, false, List, [], ◌∷◌, ◌++◌, All, Contains, Option, None, IfSome}
use Rattle.waff_model.specs.Layout.{SameSpaces, Space, has_locks}
use Rattle.waff_model.specs.Messages.{sizes_of}
use Rattle.waff_model.specs.Versions.{has_clients}
use Rattle.waff_model.specs.declared.message.Message.{Message}
use Rattle.waff_model.specs.declared.message.Version.{Version}
use Rattle.waff_assign.specs.Instance.{Instance}
use Rattle.waff_plan.specs.Bound.{IsWorkers}
use Rattle.waff_plan.specs.LowerBound.{ObeysInSomeOrder}
use Rattle.waff_plan.specs.Obeys.{IsLeast}
use Rattle.waff_plan.specs.Instances.{served_first, work_of_instance}
use Rattle.waff_plan.specs.Timing.{start_of}
use Rattle.waff_plan.specs.Work.{length_of}
use Rattle.waff_list.specs.declared.rule.Rule.{Rule}
use Rattle.waff_plan_text.specs.Lines.{text_of}
use Rattle.waff_figures.specs.Sweep.{AreListed}
use Rattle.waff_figures.specs.declared.figures.Figures.{Figures}
use Rattle.waff_limits.specs.Laws.{KeepsOrderWhere, SharesNoMore, StartsAtOnce, greatest_limit}
use Rattle.waff_limits.specs.Limits.{AreLimits, limits_lines, ticks_of}
use Rattle.waff_limits.specs.declared.limits.Limits.{Limits}
use Rattle.waff_inputs.specs.Inputs.{IsToldUnder}
use Rattle.waff_tool.specs.Figures.{IsSweepText}

-- the text of what limits a trace over these spaces: what each of these numbers of workers, the clients, the lists, the cells, the tree
-- and the order make of the length of a plan, and the length of the plan by this rule for each number of workers
pub record TellsLimits (rule : Rule) (workers : List ℕ) (spaces : List Space) (instance : Instance) (text : List ℕ)
    : Type 0 where
  pub starts : List ℕ
  pub limits : Limits
  pub listed : List Figures
  pub fits : instance.trace.sizes ≡ sizes_of spaces
  pub least : IsLeast (served_first instance (start_of starts)) (work_of_instance instance)
      (start_of starts)
  pub are_limits : AreLimits spaces instance (start_of starts) limits
  pub are_listed : AreListed rule instance
      (length_of (work_of_instance instance) (start_of starts)) workers listed
  pub lines : text ≡ text_of (limits_lines spaces instance.tree instance.trace workers limits listed)

-- that of a hierarchy and a trace
abbrev pub IsLimitsText : Rule → List ℕ → List ℕ → List ℕ → List ℕ → Type 0
IsLimitsText rule hierarchy_file trace_file workers text =
    IsToldUnder (λ layout. TellsLimits rule workers layout.spaces) hierarchy_file trace_file text

-- no plan for as many workers, or without a limit on them, that obeys in whatever order is shorter than the greatest of the share of a
-- worker, the clients, the lists, the writes, the data, the tree and the locks
abbrev pub NoneIsBelowText : Rule → List ℕ → List ℕ → Type 0
NoneIsBelowText rule hierarchy_file trace_file =
    (workers text : List ℕ) (limit : Option ℕ) (other : ℕ → ℕ) → (told : IsLimitsText rule hierarchy_file trace_file workers text)
    → IfSome limit IsWorkers
    → ObeysInSomeOrder told.instance.tree told.instance.assigned (work_of_instance told.instance) limit other
    → greatest_limit limit told.told.limits ≤ length_of (work_of_instance told.instance) other

-- that greatest is the `least` of a sweep, in the line of as many workers, where messages have clients
abbrev pub LimitsAreSwept : Rule → Rule → List ℕ → List ℕ → Type 0
LimitsAreSwept rule sweep_rule hierarchy_file trace_file =
    (workers swept_workers text sweep : List ℕ) (line : Figures)
    → (told : IsLimitsText rule hierarchy_file trace_file workers text)
    → (swept : IsSweepText sweep_rule hierarchy_file trace_file swept_workers sweep)
    → has_clients told.instance.trace.version ≡ true
    → Contains (swept.told.listed ++ swept.told.unlimited ∷ []) line
    → line.least ≡ greatest_limit line.workers told.told.limits

-- no plan that keeps the order of the unlimited plan is shorter than `order`
abbrev pub OrderIsShortestInText : Rule → List ℕ → List ℕ → Type 0
OrderIsShortestInText rule hierarchy_file trace_file =
    (workers text : List ℕ) (other : ℕ → ℕ) → (told : IsLimitsText rule hierarchy_file trace_file workers text)
    → KeepsOrderWhere (has_clients told.instance.trace.version) told.instance (start_of told.told.starts) other
    → told.told.limits.order ≤ length_of (work_of_instance told.instance) other

-- `order` is no less than `clients`, `after`, `writes`, `data`, `tree` and `locks`; and without clients no plan by the rule is shorter than it
pub record OrderIsBetween (limits : Limits) (version : Version) (listed : List Figures) : Type 0 where
  pub above : greatest_limit None limits ≤ limits.order
  pub below : has_clients version ≡ false → All (λ figures. limits.order ≤ figures.length) listed

abbrev pub OrderIsBetweenInText : Rule → List ℕ → List ℕ → Type 0
OrderIsBetweenInText rule hierarchy_file trace_file =
    (workers text : List ℕ) → (told : IsLimitsText rule hierarchy_file trace_file workers text)
    → OrderIsBetween told.told.limits told.instance.trace.version told.told.listed

-- `order` is no less than `after`, and `after` no less than `clients`; where no message has a list it is `clients`
pub record AfterIsBetween (limits : Limits) (messages : List Message) : Type 0 where
  pub above : limits.client.ticks ≤ limits.after.ticks
  pub below : limits.after.ticks ≤ limits.order
  pub alone : All (λ message. message.after ≡ []) messages → limits.client ≡ limits.after

abbrev pub AfterIsBetweenInText : Rule → List ℕ → List ℕ → Type 0
AfterIsBetweenInText rule hierarchy_file trace_file =
    (workers text : List ℕ) → (told : IsLimitsText rule hierarchy_file trace_file workers text)
    → AfterIsBetween told.told.limits told.instance.trace.messages

-- where no message has a release, a think time, a client or a list, and no space has locks, a plan that obeys in some order is as long as
-- `tree`
abbrev pub TreeIsReachedInText : Rule → List ℕ → List ℕ → Type 0
TreeIsReachedInText rule hierarchy_file trace_file =
    (workers text : List ℕ) → (told : IsLimitsText rule hierarchy_file trace_file workers text)
    → has_locks told.accepts.layout.spaces ≡ false → All StartsAtOnce told.instance.trace.messages
    → (other : ℕ → ℕ) × ObeysInSomeOrder told.instance.tree told.instance.assigned (work_of_instance told.instance) None other
    × (length_of (work_of_instance told.instance) other ≡ told.told.limits.path.ticks)

-- the cell of `writes` and its ticks are those under another hierarchy, whose `data` is no less. Where no more spaces have shared locks there,
-- the greater of `tree` and `locks` there is no less than `data`; where the same have, `data` is the same
pub record DataBounds (spaces others : List Space) (limits other : Limits) : Type 0 where
  pub same_writes : limits.writes ≡ other.writes
  pub writes : ticks_of limits.writes ≤ ticks_of other.cell
  pub below : SharesNoMore others spaces → ticks_of limits.cell ≤ max other.path.ticks (ticks_of other.locks)
  pub same : SharesNoMore others spaces → SharesNoMore spaces others → limits.cell ≡ other.cell

-- they are so under every hierarchy with these spaces
abbrev pub DataBoundsTexts : Rule → Rule → List ℕ → List ℕ → List ℕ → Type 0
DataBoundsTexts rule other_rule hierarchy_file other_file trace_file =
    (workers other_workers text other : List ℕ) → (told : IsLimitsText rule hierarchy_file trace_file workers text)
    → (again : IsLimitsText other_rule other_file trace_file other_workers other)
    → SameSpaces told.accepts.layout.spaces again.accepts.layout.spaces
    → DataBounds told.accepts.layout.spaces again.accepts.layout.spaces told.told.limits again.told.limits
