-- The rows of messages among the lanes of affinities, and among those of workers.
use Rattle.std.specs.Prelude.{ℕ, ◌+◌, ◌-◌, ◌&&◌, Option, Some, None, if◌then◌else◌, length}
use Rattle.std.specs.Prelude.{nat_le, slice_index}
use Rattle.waff_assign.specs.Order.{held_of, number_or}
use Rattle.waff_plan_text.specs.Given.{row_at}
use Rattle.waff_draw.specs.Lanes.{row_of}
use Rattle.waff_draw.specs.Scene.{Scene, is_shown, lanes_in, loose_in, workers_in}
use Rattle.waff_draw.specs.declared.lanes.LaneKind.{LaneKind}
use Rattle.waff_draw.specs.declared.lanes.LaneKind.TheVariants.{Affinity, Worker}

-- the row of a worker of k, whose lanes stand below this many others
abbrev pub worker_row : ℕ → ℕ → Option ℕ → Option ℕ
worker_row first k None = None
worker_row first k (Some worker) =
    if nat_le 1 worker && nat_le worker k then Some (first + worker - 1) else None

-- the row of message n among the lanes of a kind, if it has one there: those of no affinity stand behind one another
abbrev pub row_in : Scene → LaneKind → ℕ → Option ℕ
row_in scene Affinity n =
    Some (row_of (lanes_in scene) (number_or (length scene.instance.tree) (held_of scene.instance.assigned n))
    + slice_index (loose_in scene).places n)
row_in scene Worker n =
    worker_row (length (lanes_in scene)) (workers_in scene) (row_at scene.plan.rows n).worker

-- the same, if it is shown
abbrev pub shown_row : Scene → LaneKind → ℕ → Option ℕ
shown_row scene kind n = if is_shown scene n then row_in scene kind n else None

-- the process whose threads the lanes of a kind are
abbrev pub process_of : LaneKind → ℕ
process_of Affinity = 1
process_of Worker = 2
