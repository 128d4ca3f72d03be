-- What each command that is asked of a trace under a hierarchy tells.
use Rattle.std.specs.Prelude.{ℕ, List, [], Option, Some, None, Vec}
use Rattle.std.specs.Global.{Global}
use Rattle.waff_model.specs.Layout.{Hierarchy, has_locks}
use Rattle.waff_assign.specs.Instance.{Instance}
use Rattle.waff_figures.specs.Sweep.{sweep_workers}
use Rattle.waff_figures.specs.declared.told.Told.{Told}
use Rattle.waff_figures.specs.declared.told.Told.TheVariants as told
use Rattle.waff_tool.specs.AssignText.{TellsAssignment}
use Rattle.waff_tool.specs.Figures.{TellsSweep}
use Rattle.waff_tool.specs.LimitsText.{TellsLimits}
use Rattle.waff_tool.specs.LocksText.{TellsLocksOf}
use Rattle.waff_tool.specs.NeedsText.{TellsNeeds}
use Rattle.waff_tool.specs.PlanText.{TellsPlan}
use Rattle.waff_tool.specs.WaitsText.{TellsWaits}
use Rattle.waff_tool.specs.WhereText.{TellsWhere}
use Rattle.waff_tool.specs.WhyText.{TellsWhy}
use Rattle.waff_tool.specs.WorstText.{TellsWorst}

-- the numbers that are given, or else these
abbrev pub numbers_or : Option (Vec ℕ Global) → List ℕ → List ℕ
numbers_or None usual = usual
numbers_or (Some given) usual = given.items

-- the text of what is asked of an instance under a hierarchy
abbrev pub Tells : Told → Hierarchy → Instance → List ℕ → Type 0
Tells told.Assign layout = TellsAssignment
Tells (told.Plan workers rule) layout = TellsPlan rule workers
Tells told.Needs layout = TellsNeeds
Tells (told.Sweep given rule) layout = TellsSweep rule (numbers_or given sweep_workers)
Tells (told.Limits given rule) layout = TellsLimits rule (numbers_or given []) layout.spaces
Tells (told.Where workers rule label columns) layout =
    TellsWhere (has_locks layout.spaces) rule workers label columns
Tells (told.Waits workers rule grouping) layout = TellsWaits rule workers grouping layout
Tells (told.Worst workers rule most) layout = TellsWorst rule workers most layout
Tells (told.Why grouping) layout = TellsWhy grouping layout
Tells (told.Locks workers rule kind steps) layout = TellsLocksOf workers rule kind steps layout
