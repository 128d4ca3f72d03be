-- The pieces of the document. None is unfolded where a text is put together.
use Rattle.std.specs.Prelude.{ℕ, ◌+◌, ◌-◌, ◌*◌, ◌==◌, Bool, List, [], ◌∷◌, ◌++◌, Option, Some, None}
use Rattle.std.specs.Prelude.{codes, decimal, false, if◌then◌else◌, nat_lt}
use Rattle.std.specs.List.{flat_map}
use Rattle.std.specs.Str.{bytes_eq}
use Rattle.waff_model.specs.Clients.{no_client}
use Rattle.waff_plan_text.specs.Ratio.{ratio_field}
use Rattle.waff_draw.specs.Xml.{xml_text}
use Rattle.waff_draw.specs.declared.bars.Bar.{Bar}
use Rattle.waff_draw.specs.declared.pieces.LaneName.{LaneName}
use Rattle.waff_draw.specs.declared.pieces.LaneName.TheVariants as lane
use Rattle.waff_draw.specs.declared.runs.Run.{Run}

-- pieces of text, one after the other
abbrev pub joined : List (List ℕ) → List ℕ
joined pieces = flat_map (λ piece. piece) pieces

-- the top of the document, of this width and height, and its ground
unfoldable pub top_start : ℕ → ℕ → List ℕ
top_start width height = joined (
    codes "<svg xmlns='http://www.w3.org/2000/svg' width='" ∷ decimal width
    ∷ codes "' height='" ∷ decimal height
    ∷ codes "' viewBox='0 0 " ∷ decimal width ∷ codes " " ∷ decimal height
    ∷ codes "'>\n<rect class='ground' width='100%' height='100%'/>\n" ∷ [])

-- so many of a thing
abbrev pub ending : ℕ → List ℕ
ending count = if count == 1 then codes "" else codes "s"

unfoldable pub counted : ℕ → List ℕ → List ℕ
counted count thing = joined (decimal count ∷ codes " " ∷ thing ∷ ending count ∷ [])

-- for how many workers a plan is
abbrev pub on_workers : Option ℕ → List ℕ
on_workers None = codes " on any number of workers"
on_workers (Some k) = codes " on " ++ counted k (codes "worker")

-- what is told of the plan: of how many messages it is, for how many workers, and how long
unfoldable pub heading_start : ℕ → Option ℕ → List ℕ
heading_start messages workers = joined (
    codes "<text class='heading' x='8' y='28'>" ∷ counted messages (codes "message")
    ∷ on_workers workers ∷ codes ": " ∷ [])

unfoldable pub heading_end : ℕ → ℕ → List ℕ
heading_end length total = joined (
    codes "length " ∷ decimal length ∷ codes ", total work " ∷ decimal total
    ∷ codes " (in ticks), speed-up " ∷ ratio_field total length ∷ codes "</text>\n" ∷ [])

abbrev pub heading_line : ℕ → ℕ → ℕ → Option ℕ → List ℕ
heading_line messages length total workers =
    heading_start messages workers ++ heading_end length total

-- the beginning of the lanes, at this height
unfoldable pub lanes_start : ℕ → List ℕ
lanes_start top = joined (codes "<g transform='translate(0 " ∷ decimal top ∷ codes ")'>\n" ∷ [])

unfoldable pub worker_name : ℕ → List ℕ
worker_name worker = joined (codes "worker " ∷ decimal worker ∷ [])

-- the name of a lane: that of an affinity, or of a worker
abbrev pub lane_name : LaneName → List ℕ
lane_name (lane.Affinity name) = xml_text name.now
lane_name (lane.Worker worker) = worker_name worker

-- a lane: its ground from this height on, and its name at this place
unfoldable pub lane_line : ℕ → ℕ → ℕ → List ℕ → List ℕ
lane_line top left base name = joined (
    codes "<g class='lane'><rect y='" ∷ decimal top
    ∷ codes "' width='100%' height='20'/><text x='" ∷ decimal left
    ∷ codes "' y='" ∷ decimal base ∷ codes "'>" ∷ name ∷ codes "</text></g>\n" ∷ [])

-- what a colour stands for, at this place
unfoldable pub colour_line : ℕ → ℕ → ℕ → List ℕ → List ℕ
colour_line left top colour name = joined (
    codes "<g class='key' transform='translate(" ∷ decimal left ∷ codes " " ∷ decimal top
    ∷ codes ")'><rect class='n" ∷ decimal colour
    ∷ codes "' y='2' width='12' height='12'/><text x='18' y='12'>" ∷ xml_text name
    ∷ codes "</text></g>\n" ∷ [])

-- a rule at this height, between the lanes of affinities and those of workers
unfoldable pub rule_line : ℕ → List ℕ
rule_line top = joined (
    codes "<line class='rule' x2='100%' y1='" ∷ decimal top ∷ codes "' y2='" ∷ decimal top
    ∷ codes "'/>\n" ∷ [])

-- the beginning of the axis where the plan begins, and what its numbers are, above the lanes and
-- below
unfoldable pub axis_start : ℕ → ℕ → ℕ → List ℕ
axis_start left top bottom = joined (
    codes "<g transform='translate(" ∷ decimal left ∷ codes " " ∷ decimal top
    ∷ codes ")'>\n<text x='-88' y='-8'>ticks</text><text x='-88' y='" ∷ decimal bottom
    ∷ codes "'>ticks</text>\n" ∷ [])

-- a number of ticks at this place, above the lanes and below
unfoldable pub tick_label : ℕ → ℕ → ℕ → List ℕ
tick_label place bottom tick = joined (
    codes "<text class='tick' x='" ∷ decimal place ∷ codes "' y='-8'>" ∷ decimal tick
    ∷ codes "</text><text class='tick' x='" ∷ decimal place ∷ codes "' y='" ∷ decimal bottom
    ∷ codes "'>" ∷ decimal tick ∷ codes "</text>\n" ∷ [])

-- the beginning of the lines and bars where the plan begins; their units are hundredths of a pixel
unfoldable pub plan_start : ℕ → ℕ → List ℕ
plan_start left top = joined (
    codes "<g class='plan' transform='translate(" ∷ decimal left ∷ codes " " ∷ decimal top
    ∷ codes ") scale(.01)'>\n" ∷ [])

-- the end of the lanes, of the axis, or of the bars
abbrev pub group_end : List ℕ
group_end = codes "</g>\n"

-- a line through all lanes
unfoldable pub grid_line : ℕ → ℕ → List ℕ
grid_line place height = joined (
    codes "<path d='M" ∷ decimal place ∷ codes " 0v" ∷ decimal height ∷ codes "'/>\n" ∷ [])

-- what is told of the client of a message, where it is of one
abbrev pub for_client : List ℕ → List ℕ
for_client client = if bytes_eq client no_client then [] else codes " for " ++ xml_text client

-- how a bar of the chain is marked, and a thin one, which has no outline
abbrev pub mark_of : Bool → Bool → List ℕ
mark_of is_link is_thin =
    if is_link then (if is_thin then codes " chain thin" else codes " chain") else
    (if is_thin then codes " thin" else codes "")

-- how much of its lane is free above a bar and below, a tenth, and above a narrow run: nothing
abbrev pub margin_of : Bool → ℕ
margin_of is_narrow = if is_narrow then 0 else 200

-- a bar in its row
unfoldable pub bar_start : Bar → List ℕ
bar_start bar = joined (
    codes "<rect class='n" ∷ decimal bar.colour ∷ mark_of bar.is_link bar.is_thin
    ∷ codes "' x='" ∷ decimal bar.left
    ∷ codes "' y='" ∷ decimal (bar.row * 2000 + margin_of false)
    ∷ codes "' width='" ∷ decimal bar.width
    ∷ codes "' height='" ∷ decimal (2000 - 2 * margin_of false) ∷ codes "'>" ∷ [])

-- what it tells of its message
unfoldable pub bar_title : Bar → List ℕ → List ℕ → List ℕ → List ℕ
bar_title bar name affinity client = joined (
    codes "<title>" ∷ decimal bar.message ∷ codes " " ∷ xml_text name
    ∷ codes " in " ∷ xml_text affinity
    ∷ codes ": " ∷ decimal bar.start ∷ codes " to " ∷ decimal bar.finish
    ∷ for_client client ∷ codes "</title></rect>\n" ∷ [])

abbrev pub bar_line : Bar → List ℕ → List ℕ → List ℕ → List ℕ
bar_line bar name affinity client = bar_start bar ++ bar_title bar name affinity client

-- whether a run is narrower than four pixels
abbrev pub is_narrow_run : Run → Bool
is_narrow_run run = nat_lt (run.right - run.left) 400

-- how a narrow run is marked, which has no outline
abbrev pub run_mark : Bool → List ℕ
run_mark is_narrow = if is_narrow then codes "run thin" else codes "run"

-- a run of the chain
unfoldable pub run_line : Run → List ℕ
run_line run = joined (
    codes "<rect class='" ∷ run_mark (is_narrow_run run) ∷ codes "' x='" ∷ decimal run.left
    ∷ codes "' y='" ∷ decimal (run.row * 2000 + margin_of (is_narrow_run run))
    ∷ codes "' width='" ∷ decimal (run.right - run.left)
    ∷ codes "' height='" ∷ decimal (2000 - 2 * margin_of (is_narrow_run run)) ∷ codes "'/>\n" ∷ [])
