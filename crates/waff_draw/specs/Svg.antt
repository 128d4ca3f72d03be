-- The picture as a document in SVG.
use Rattle.std.specs.Prelude.{ℕ, ◌+◌, ◌-◌, ◌*◌, ◌/◌, List, [], ◌++◌, if◌then◌else◌}
use Rattle.std.specs.Prelude.{codes, length, nat_le, slice_index_or}
use Rattle.std.specs.List.{flat_map, range_with_len}
use Rattle.waff_model.specs.Tree.{Node}
use Rattle.waff_plan.specs.Work.{total_of}
use Rattle.waff_draw.specs.Axis.{line_at}
use Rattle.waff_draw.specs.Bars.{bars_of}
use Rattle.waff_draw.specs.Frames.{colour_left, colour_top, indent, left_in, top_in}
use Rattle.waff_draw.specs.Lanes.{lane_label, lane_of}
use Rattle.waff_draw.specs.Pieces.{axis_start, colour_line, grid_line, group_end, heading_line}
use Rattle.waff_draw.specs.Pieces.{lane_line, lanes_start, plan_start, rule_line, tick_label}
use Rattle.waff_draw.specs.Pieces.{top_start, worker_name}
use Rattle.waff_draw.specs.Runs.{outlines_in}
use Rattle.waff_draw.specs.Scene.{coloured_in}
use Rattle.waff_draw.specs.Scene.{Scene, end_in, from_in, lanes_in, length_in, place_in, rows_in}
use Rattle.waff_draw.specs.Scene.{span_in, tree_scene, work_of_scene, workers_in}
use Rattle.waff_draw.specs.Xml.{xml_text}
use Rattle.waff_draw.specs.declared.lanes.Lane.{Lane}
use Rattle.waff_draw.specs.declared.lanes.LaneKind.TheVariants.{Affinity, Worker}
use Rattle.waff_draw.specs.declared.pieces.TheConstants.{STYLE}

-- what the bars are
abbrev pub legend : List ℕ
legend = codes "<text x='8' y='48'>A bar is a message from its start to its finish, in the colour of its "
    ++ codes "name, or grey. The plan's chain is outlined run by run; a narrow run is orange, as high as its "
    ++ codes "lane.</text>\n"

-- how large the document is: right of the lanes and below them is room for numbers of ticks
abbrev pub size_text : Scene → List ℕ
size_text scene = top_start (left_in scene + 1060) (top_in scene + rows_in scene * 20 + 32)

-- the top of the document
abbrev pub top_text : Scene → List ℕ
top_text scene = size_text scene ++ STYLE.now ++ legend

-- which name a colour stands for; bars of other names are grey
abbrev pub colour_text : Scene → ℕ → List ℕ → List ℕ
colour_text scene place name =
    colour_line (colour_left scene place) (colour_top scene place) (place + 1) name

abbrev pub colours_text : Scene → List ℕ
colours_text scene =
    flat_map (λ place. colour_text scene place (slice_index_or (coloured_in scene) place []))
    (range_with_len 0 (length (coloured_in scene)))

-- what stands above the lanes
abbrev pub head_text : Scene → List ℕ
head_text scene =
    top_text scene
    ++ heading_line (work_of_scene scene).count (length_in scene) (total_of (work_of_scene scene))
    scene.plan.summary.workers
    ++ colours_text scene

-- a lane with its name, set in by depth
abbrev pub lane_text : ℕ → ℕ → List ℕ → List ℕ
lane_text row depth name = lane_line (row * 20) (indent depth) (row * 20 + 14) name

-- the lane of an affinity
abbrev pub affinity_lane_text : List Node → ℕ → Lane → List ℕ
affinity_lane_text tree row lane = lane_text row lane.depth (xml_text (lane_label tree lane))

abbrev pub affinity_lane : List Node → List Lane → ℕ → List ℕ
affinity_lane tree lanes row = affinity_lane_text tree row (slice_index_or lanes row (lane_of 0 0))

-- the lane of a worker, below this many others
abbrev pub worker_lane : ℕ → ℕ → List ℕ
worker_lane first worker = lane_text (first + worker - 1) 0 (worker_name worker)

-- the rule between so many lanes of affinities and those of workers, if there are workers
abbrev pub rule_text : ℕ → ℕ → List ℕ
rule_text first k = if nat_le 1 k then rule_line (first * 20) else []

-- all lanes
abbrev pub lanes_text : Scene → List ℕ
lanes_text scene =
    lanes_start (top_in scene)
    ++ flat_map (affinity_lane scene.instance.tree (lanes_in scene))
    (range_with_len 0 (length (lanes_in scene)))
    ++ flat_map (worker_lane (length (lanes_in scene))) (range_with_len 1 (workers_in scene))
    ++ rule_text (length (lanes_in scene)) (workers_in scene)
    ++ group_end

-- how far the text below the lanes stands below the first one
abbrev pub bottom_in : Scene → ℕ
bottom_in scene = rows_in scene * 20 + 18

-- a number of ticks where it stands between the left and the right of the lanes
abbrev pub tick_text : Scene → ℕ → List ℕ
tick_text scene tick =
    tick_label ((tick - from_in scene) * 1000 / span_in scene) (bottom_in scene) tick

-- a line through all rows
abbrev pub grid_text : Scene → ℕ → List ℕ
grid_text scene tick = grid_line (place_in scene (tick - from_in scene)) (rows_in scene * 2000)

-- the lines of the axis that are not past the end of the part
abbrev pub upto : ℕ → (ℕ → List ℕ) → ℕ → List ℕ
upto end text tick = if nat_le tick end then text tick else []

abbrev pub line_in : Scene → ℕ → ℕ
line_in scene i = line_at (from_in scene) (span_in scene) i

abbrev pub each_line : Scene → (ℕ → List ℕ) → List ℕ
each_line scene text =
    flat_map (λ i. upto (end_in scene) text (line_in scene i)) (range_with_len 0 11)

-- what the numbers along the axis are
abbrev pub unit_text : Scene → List ℕ
unit_text scene = axis_start (left_in scene) (top_in scene) (bottom_in scene)

-- the axis, above the lanes and below
abbrev pub axis_text : Scene → List ℕ
axis_text scene = unit_text scene ++ each_line scene (tick_text scene) ++ group_end

-- its lines through all rows
abbrev pub lines_text : Scene → List ℕ
lines_text scene = plan_start (left_in scene) (top_in scene) ++ each_line scene (grid_text scene)

-- what stands before the bars
abbrev pub ground_text : Scene → List ℕ
ground_text scene =
    head_text scene ++ lanes_text scene ++ axis_text scene ++ lines_text scene

-- all bars, and then the outlines of the chain
abbrev pub bars_text : Scene → List ℕ
bars_text scene =
    bars_of scene Affinity ++ bars_of scene Worker
    ++ outlines_in scene Affinity ++ outlines_in scene Worker

-- the document of a scene
abbrev pub document_text : Scene → List ℕ
document_text scene =
    ground_text scene ++ bars_text scene ++ group_end ++ codes "</svg>\n"

-- the picture, with the lanes of the tree
abbrev pub svg_text : Scene → List ℕ
svg_text scene = document_text (tree_scene scene)
