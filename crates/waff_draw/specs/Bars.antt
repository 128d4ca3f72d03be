-- The bars of a picture.
use Rattle.std.specs.Prelude.{ℕ, ◌+◌, ◌-◌, ◌*◌, Bool, List, [], Option, Some, None, nat_lt}
use Rattle.std.specs.List.{flat_map}
use Rattle.waff_assign.specs.Order.{affinity_name}
use Rattle.waff_plan.specs.Work.{numbers}
use Rattle.waff_draw.specs.Colours.{colour_of}
use Rattle.waff_draw.specs.Kinds.{shown_row}
use Rattle.waff_draw.specs.Lanes.{is_among}
use Rattle.waff_draw.specs.Pieces.{bar_line}
use Rattle.waff_draw.specs.Scene.{Scene, client_in, coloured_in, finish_in, from_in, name_in}
use Rattle.waff_draw.specs.Scene.{place_in, shown_start, shown_ticks, span_in, start_in, work_of_scene}
use Rattle.waff_draw.specs.declared.bars.Bar.{Bar}
use Rattle.waff_draw.specs.declared.lanes.LaneKind.{LaneKind}

-- whether so many ticks are narrower than four pixels where these are a thousand wide
abbrev pub is_narrow : ℕ → ℕ → Bool
is_narrow span ticks = nat_lt (ticks * 250) span

-- where the bar of message n begins and ends, in hundredths of a pixel from the left of the part
abbrev pub left_of : Scene → ℕ → ℕ
left_of scene n = place_in scene (shown_start scene n - from_in scene)

abbrev pub right_of : Scene → ℕ → ℕ
right_of scene n = place_in scene (shown_start scene n + shown_ticks scene n - from_in scene)

-- the bar of message n in a row: it is as wide as its ticks that are shown, and tells of all
abbrev pub bar_at : Scene → ℕ → ℕ → Bar
bar_at scene row n = record {
  message = n;
  row = row;
  left = left_of scene n;
  width = right_of scene n - left_of scene n;
  start = start_in scene n;
  finish = finish_in scene n;
  is_link = is_among scene.plan.summary.chain n;
  colour = colour_of (coloured_in scene) (name_in scene n);
  is_thin = is_narrow (span_in scene) (shown_ticks scene n);
}

-- its text
abbrev pub bar_in : Scene → ℕ → ℕ → List ℕ
bar_in scene row n =
    bar_line (bar_at scene row n) (name_in scene n)
    (affinity_name scene.instance.tree scene.instance.assigned n) (client_in scene n)

-- the bar of message n in its row, if it has one
abbrev pub bar_where : Scene → ℕ → Option ℕ → List ℕ
bar_where scene n None = []
bar_where scene n (Some row) = bar_in scene row n

-- the bars of the messages that are shown and have a row among the lanes of a kind
abbrev pub bars_of : Scene → LaneKind → List ℕ
bars_of scene kind =
    flat_map (λ n. bar_where scene n (shown_row scene kind n)) (numbers (work_of_scene scene))
