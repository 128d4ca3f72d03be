-- What holds of the lanes of every picture, of what is shown in them, and of the axis.
use Rattle.std.specs.Prelude.{◌≡◌, ◌↔◌, ℕ, ◌+◌, ◌*◌, ◌<◌, ◌≤◌, ◌==◌, true, All, List, Some, None}
use Rattle.std.specs.Prelude.{if◌then◌else◌, length, slice_get, slice_index_or}
use Rattle.std.specs.List.{count_by}
use Rattle.waff_model.specs.Tree.{AtOrAbove, Leads, Node, parent_of}
use Rattle.waff_plan.specs.Work.{IsNumber}
use Rattle.waff_draw.specs.Axis.{step_of}
use Rattle.waff_draw.specs.Lanes.{is_among, lane_of, lanes_of, row_of, used_below}
use Rattle.waff_draw.specs.Scene.{Scene, end_in, from_in, shown_start, shown_ticks, span_in}
use Rattle.waff_draw.specs.Scene.{start_in, work_of_scene}
use Rattle.waff_draw.specs.Svg.{line_in}
use Rattle.waff_draw.specs.declared.lanes.Lane.{Lane}
use Rattle.waff_draw.specs.declared.parts.Part.{Part}

-- an affinity has a message in it or below it
abbrev pub HasMessage : List Node → List ℕ → ℕ → Type 0
HasMessage tree assigned b =
    (a : ℕ) × (a < length tree) × (is_among assigned a ≡ true) × AtOrAbove tree b a

-- the affinities that have a lane of the tree are those that have a message in them or below them
abbrev pub LanesAreOfTree : List Node → List ℕ → Type 0
LanesAreOfTree tree assigned =
    (b : ℕ) → is_among (used_below tree assigned) b ≡ true ↔ HasMessage tree assigned b

-- an affinity that is to have a lane has one, and no other has any
abbrev pub LaneIsOne : List Node → List ℕ → Type 0
LaneIsOne tree assigned =
    (a : ℕ) → a < length tree → count_by (λ lane. lane.affinity == a) (lanes_of tree assigned)
    ≡ (if is_among assigned a then 1 else 0)

-- the row of an affinity that is to have a lane is that of its lane
abbrev pub RowIsOfLane : List Node → List ℕ → Type 0
RowIsOfLane tree assigned =
    (a : ℕ) → a < length tree → is_among assigned a ≡ true
    → (lane : Lane) × (slice_get (lanes_of tree assigned) (row_of (lanes_of tree assigned) a)
    ≡ Some lane) × (lane.affinity ≡ a)

-- a lane is as deep as its affinity is steps below the root
abbrev pub DepthIsSteps : List Node → List ℕ → Type 0
DepthIsSteps tree assigned =
    All (λ lane. Leads tree lane.depth 0 lane.affinity) (lanes_of tree assigned)

-- the affinity whose lane is in this row
abbrev pub affinity_at : List Lane → ℕ → ℕ
affinity_at lanes row = (slice_index_or lanes row (lane_of 0 0)).affinity

-- lanes in preorder: what is below an affinity stands behind it, with nothing else between, and the
-- children of an affinity stand in their order, each with what is below it
pub record IsPreorder (tree : List Node) (lanes : List Lane) : Type 0 where
  pub behind : (i j : ℕ) → i < length lanes → j < length lanes
      → AtOrAbove tree (affinity_at lanes i) (affinity_at lanes j) → i ≤ j
  pub between : (i k j : ℕ) → i ≤ k → k ≤ j → j < length lanes
      → AtOrAbove tree (affinity_at lanes i) (affinity_at lanes j)
      → AtOrAbove tree (affinity_at lanes i) (affinity_at lanes k)
  pub ordered : (i j b c p : ℕ) → i < length lanes → j < length lanes
      → parent_of tree b ≡ Some p → parent_of tree c ≡ Some p → b < c
      → AtOrAbove tree b (affinity_at lanes i) → AtOrAbove tree c (affinity_at lanes j) → i < j

-- t is one of so many ticks from a first one on
abbrev pub IsOneOf : ℕ → ℕ → ℕ → Type 0
IsOneOf first count t = (first ≤ t) × (t < first + count)

-- what is shown of a message are those of its ticks that are in the part
abbrev pub ShowsTicksInPart : Scene → Type 0
ShowsTicksInPart scene =
    (n t : ℕ) → IsOneOf (shown_start scene n) (shown_ticks scene n) t
    ↔ (IsOneOf (start_in scene n) ((work_of_scene scene).cost n) t
    × IsOneOf (from_in scene) (span_in scene) t)

-- the part that is the whole plan
abbrev pub whole_part : Part
whole_part = record { from = 0; to = None; some = tt }

-- each message is shown whole
abbrev pub ShowsAll : Scene → Type 0
ShowsAll scene =
    (n : ℕ) → IsNumber (work_of_scene scene) n
    → (shown_start scene n ≡ start_in scene n)
    × (shown_ticks scene n ≡ (work_of_scene scene).cost n)

-- one of the eleven lines of the axis stands at this tick, and is not past the end of the part
pub record HasLine (scene : Scene) (tick : ℕ) : Type 0 where
  pub i : ℕ
  pub one : i < 11
  pub at : line_in scene i ≡ tick
  pub drawn : line_in scene i ≤ end_in scene

-- the tick is a multiple of the step, in the part or at its end
pub record IsRound (scene : Scene) (tick : ℕ) : Type 0 where
  pub from : from_in scene ≤ tick
  pub to : tick ≤ end_in scene
  pub k : ℕ
  pub multiple : tick ≡ k * step_of (span_in scene)

-- the lines of the axis stand at these ticks and at no other
abbrev pub HasLines : Scene → Type 0
HasLines scene = (tick : ℕ) → HasLine scene tick ↔ IsRound scene tick
