-- What a picture shows: a plan that is given for an instance, or a part of it.
use Rattle.std.specs.Prelude.{ℕ, ◌+◌, ◌-◌, ◌*◌, ◌/◌, ◌++◌, max, min, replicate, Bool, false, true, List, []}
use Rattle.std.specs.Prelude.{Option, Some, None, length, map, nat_lt, slice_index_or}
use Rattle.waff_model.specs.DistinctNames.{message_names}
use Rattle.waff_assign.specs.Instance.{Instance}
use Rattle.waff_plan.specs.Clients.{client_of}
use Rattle.waff_plan.specs.Instances.{work_of_instance}
use Rattle.waff_plan.specs.Timetable.{clients_of, message_of}
use Rattle.waff_plan.specs.Timing.{start_of}
use Rattle.waff_plan.specs.Work.{Await, Work, finish_of, length_of}
use Rattle.waff_plan_text.specs.Given.{Given}
use Rattle.waff_draw.specs.Colours.{coloured}
use Rattle.waff_draw.specs.Lanes.{lane_of, laned_of, lanes_of}
use Rattle.waff_draw.specs.Loose.{LooseLanes, loose_lanes}
use Rattle.waff_draw.specs.Parts.{end_of}
use Rattle.waff_draw.specs.declared.lanes.Lane.{Lane}
use Rattle.waff_draw.specs.declared.parts.Part.{Part}

pub record Scene : Type 0 where
  pub instance : Instance
  pub plan : Given
  pub part : Part
  -- whether the affinities above those that have a message have lanes too
  pub is_tree : Bool

abbrev pub scene_with : Instance → Given → Part → Bool → Scene
scene_with instance plan part is_tree =
    record { instance = instance; plan = plan; part = part; is_tree = is_tree }

abbrev pub scene_of : Instance → Given → Part → Scene
scene_of instance plan part = scene_with instance plan part false

-- the same with the lanes of the tree
abbrev pub tree_scene : Scene → Scene
tree_scene scene = scene_with scene.instance scene.plan scene.part true

-- the work, the starts, the finishes and the length of the plan
abbrev pub work_of_scene : Scene → Work
work_of_scene scene = work_of_instance scene.instance

abbrev pub start_in : Scene → ℕ → ℕ
start_in scene = start_of (map (λ row. row.start) scene.plan.rows)

abbrev pub finish_in : Scene → ℕ → ℕ
finish_in scene = finish_of (work_of_scene scene) (start_in scene)

abbrev pub length_in : Scene → ℕ
length_in scene = length_of (work_of_scene scene) (start_in scene)

-- where the part begins and ends that is shown, and how many ticks it has
abbrev pub from_in : Scene → ℕ
from_in scene = scene.part.from

abbrev pub end_in : Scene → ℕ
end_in scene = end_of scene.part (length_in scene)

abbrev pub span_in : Scene → ℕ
span_in scene = end_in scene - from_in scene

-- how wide so many ticks are, in hundredths of a pixel, rounded down: the part is 1,000 pixels wide
abbrev pub place_in : Scene → ℕ → ℕ
place_in scene ticks = ticks * 100000 / span_in scene

-- what is shown of message n, cut at the edges of the part: from which tick, and how many
abbrev pub shown_start : Scene → ℕ → ℕ
shown_start scene n = max (start_in scene n) (from_in scene)

abbrev pub shown_ticks : Scene → ℕ → ℕ
shown_ticks scene n = min (finish_in scene n) (end_in scene) - shown_start scene n

-- whether message n has a tick in the part
abbrev pub is_shown : Scene → ℕ → Bool
is_shown scene n = nat_lt 0 (shown_ticks scene n)

-- the lanes of messages that have no affinity
abbrev pub loose_in : Scene → LooseLanes
loose_in scene = loose_lanes scene.instance.assigned (start_in scene) (finish_in scene)

-- the lanes of affinities, and behind them those; below them a plan for k workers has k more
abbrev pub lanes_in : Scene → List Lane
lanes_in scene =
    lanes_of scene.instance.tree
    (laned_of scene.instance.tree scene.instance.assigned scene.is_tree)
    ++ replicate (length (loose_in scene).ends) (lane_of (length scene.instance.tree) 0)

abbrev pub worker_count : Option ℕ → ℕ
worker_count None = 0
worker_count (Some k) = k

abbrev pub workers_in : Scene → ℕ
workers_in scene = worker_count scene.plan.summary.workers

abbrev pub rows_in : Scene → ℕ
rows_in scene = length (lanes_in scene) + workers_in scene

-- the names that have a colour
abbrev pub coloured_in : Scene → List (List ℕ)
coloured_in scene = coloured (message_names scene.instance.trace.messages)

-- the name of message n
abbrev pub name_in : Scene → ℕ → List ℕ
name_in scene n = slice_index_or (message_names scene.instance.trace.messages) (n - 1) []

-- that of its client, `-` where it is of none
abbrev pub client_in : Scene → ℕ → List ℕ
client_in scene n = client_of (clients_of scene.instance.trace.messages) n

-- the messages that it awaits by its list
abbrev pub after_in : Scene → ℕ → List Await
after_in scene n = (message_of scene.instance.trace.messages n).after

-- its release, as the trace has it
abbrev pub release_in : Scene → ℕ → ℕ
release_in scene n = (message_of scene.instance.trace.messages n).release
