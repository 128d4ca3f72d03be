-- What limits a workload, and the lines that tell of it.
use Rattle.std.specs.Prelude.{◌≡◌, ℕ, ◌==◌, List, [], ◌∷◌, ◌++◌, length, map, Option, Some, None, if◌then◌else◌, codes, decimal}
use Rattle.waff_model.specs.Layout.{Space, has_locks}
use Rattle.waff_model.specs.Messages.{Arrivals}
use Rattle.waff_model.specs.Tree.{Node, name_of}
use Rattle.waff_model.specs.Versions.{has_after}
use Rattle.waff_model.specs.declared.message.Message.{Message}
use Rattle.waff_model.specs.declared.message.Version.{Version}
use Rattle.waff_read.specs.Spellings.{cell_spelled}
use Rattle.waff_assign.specs.Instance.{Instance}
use Rattle.waff_plan.specs.Instances.{work_of_instance}
use Rattle.waff_plan.specs.Laws.{share_of}
use Rattle.waff_plan.specs.LowerBound.{earliest_finish, path_cost}
use Rattle.waff_plan.specs.Peak.{IsPeak}
use Rattle.waff_plan.specs.Timetable.{client_work_of_messages, message_of}
use Rattle.waff_plan.specs.Work.{length_of, total_of}
use Rattle.waff_plan.specs.declared.peak.Peak.{Peak}
use Rattle.waff_plan_text.specs.Ratio.{ratio_field}
use Rattle.waff_plan_text.specs.Spelling.{worker_field}
use Rattle.waff_figures.specs.declared.figures.Figures.{Figures}
use Rattle.waff_limits.specs.Data.{IsMostOf}
use Rattle.waff_limits.specs.Locks.{ticks_locked, ticks_needed}
use Rattle.waff_limits.specs.Writes.{ticks_shared}
use Rattle.waff_limits.specs.declared.data.CellUse.{CellUse}
use Rattle.waff_limits.specs.declared.limits.Limits.{Limits}

-- what limits the messages of an instance, of which the unlimited plan has these starts: the sum of their costs, the client that needs
-- longest, the message that finishes last where each waits for what it awaits alone, by its client or by its list, the cell that is needed
-- longest where those that only read it share it, the cell that is needed longest in these spaces, the affinity that has the most to run in
-- it and above it, the cell whose lock is needed longest, and the length of that plan
pub record AreLimits (spaces : List Space) (instance : Instance) (start : ℕ → ℕ) (limits : Limits) : Type 0 where
  pub total : limits.total ≡ total_of (work_of_instance instance)
  pub client : IsPeak (earliest_finish (client_work_of_messages instance.trace.messages)) 1 (work_of_instance instance).count limits.client
  pub after : IsPeak (earliest_finish (work_of_instance instance)) 1 (work_of_instance instance).count limits.after
  pub writes : IsMostOf (ticks_shared instance.trace.messages) limits.writes
  pub cell : IsMostOf (ticks_needed spaces instance.trace.messages) limits.cell
  pub path : IsPeak (path_cost instance.tree instance.assigned (work_of_instance instance)) 0 (length instance.tree) limits.path
  pub locks : IsMostOf (ticks_locked spaces instance.trace.messages instance.assigned) limits.locks
  pub order : limits.order ≡ length_of (work_of_instance instance) start

-- how long the cell that is needed longest is needed, 0 where none is
abbrev pub ticks_of : Option CellUse → ℕ
ticks_of None = 0
ticks_of (Some found) = found.ticks

abbrev pub limits_header : List (List ℕ)
limits_header = codes "limit" ∷ codes "workers" ∷ codes "length" ∷ codes "speedup" ∷ codes "at" ∷ []

-- a line: what limits, for how many workers, to what length, how much shorter than the total that is, and where it is so
abbrev pub limit_row : List ℕ → Option ℕ → ℕ → ℕ → List ℕ → List (List ℕ)
limit_row name workers total length at =
    name ∷ worker_field workers ∷ decimal length ∷ ratio_field total length ∷ at ∷ []

-- the share of each of k workers
abbrev pub work_row : ℕ → ℕ → List (List ℕ)
work_row total k = limit_row (codes "work") (Some k) total (share_of total k) (codes "-")

-- the plan for k workers
abbrev pub planned_row : Figures → List (List ℕ)
planned_row figures = limit_row (codes "plan") figures.workers figures.total figures.length (codes "-")

-- the client of the message with the greatest, `-` where there is none
abbrev pub client_field : List Message → Peak → List ℕ
client_field messages peak = if peak.ticks == 0 then codes "-" else (message_of messages peak.at).client

-- the number of the message with the greatest
abbrev pub message_field : Peak → List ℕ
message_field peak = if peak.ticks == 0 then codes "-" else decimal peak.at

-- the cell, as a trace spells it
abbrev pub cell_field : List Space → Option CellUse → List ℕ
cell_field spaces None = codes "-"
cell_field spaces (Some found) = cell_spelled spaces found.cell

-- the name of the affinity
abbrev pub affinity_field : List Node → Peak → List ℕ
affinity_field tree peak = if peak.ticks == 0 then codes "-" else name_of tree peak.at

-- what messages await by their lists too, where the version has lists
abbrev pub after_lines : Version → ℕ → Peak → List (List (List ℕ))
after_lines version total after =
    if has_after version then limit_row (codes "after") None total after.ticks (message_field after) ∷ [] else []

-- what messages need of locks, where a space has locks
abbrev pub lock_lines : List Space → ℕ → Option CellUse → List (List (List ℕ))
lock_lines spaces total locks =
    if has_locks spaces then limit_row (codes "locks") None total (ticks_of locks) (cell_field spaces locks) ∷ [] else []

-- what limits whatever the number of workers
abbrev pub bound_lines : List Space → List Node → Arrivals → Limits → List (List (List ℕ))
bound_lines spaces tree trace limits =
    limit_row (codes "clients") None limits.total limits.client.ticks (client_field trace.messages limits.client)
    ∷ after_lines trace.version limits.total limits.after
    ++ limit_row (codes "writes") None limits.total (ticks_of limits.writes) (cell_field spaces limits.writes)
    ∷ limit_row (codes "data") None limits.total (ticks_of limits.cell) (cell_field spaces limits.cell)
    ∷ limit_row (codes "tree") None limits.total limits.path.ticks (affinity_field tree limits.path)
    ∷ lock_lines spaces limits.total limits.locks
    ++ limit_row (codes "order") None limits.total limits.order (codes "-")
    ∷ []

-- all lines: for these numbers of workers what their share is, then what limits whatever their number, and then their plans
abbrev pub limits_lines : List Space → List Node → Arrivals → List ℕ → Limits → List Figures → List (List (List ℕ))
limits_lines spaces tree trace workers limits listed =
    limits_header ∷ map (work_row limits.total) workers ++ bound_lines spaces tree trace limits ++ map planned_row listed
