-- The runs of the chain: bars of it that touch in a row are outlined as one.
use Rattle.std.specs.Prelude.{ℕ, ◌==◌, ◌&&◌, Bool, List, [], ◌∷◌, Option, Some, None, if◌then◌else◌}
use Rattle.std.specs.Prelude.{nat_lt}
use Rattle.std.specs.List.{flat_map}
use Rattle.waff_draw.specs.Bars.{left_of, right_of}
use Rattle.waff_draw.specs.Kinds.{shown_row}
use Rattle.waff_draw.specs.Pieces.{run_line}
use Rattle.waff_draw.specs.Scene.{Scene}
use Rattle.waff_draw.specs.declared.lanes.LaneKind.{LaneKind}
use Rattle.waff_draw.specs.declared.runs.Run.{Run}

-- the bar of message n in a row, as a run
abbrev pub run_at : Scene → ℕ → ℕ → Run
run_at scene row n = record { row = row; left = left_of scene n; right = right_of scene n }

abbrev pub run_where : Scene → ℕ → Option ℕ → List Run
run_where scene n None = []
run_where scene n (Some row) = run_at scene row n ∷ []

-- the bars of these messages among the lanes of a kind, in this order
abbrev pub bars_in_order : Scene → LaneKind → List ℕ → List Run
bars_in_order scene kind chain = flat_map (λ n. run_where scene n (shown_row scene kind n)) chain

-- whether the one ends where the other begins, in the same row
abbrev pub touches : Run → Run → Bool
touches run next = run.row == next.row && run.right == next.left

-- both as one
abbrev pub both_as_one : Run → Run → Run
both_as_one run next = record { row = run.row; left = run.left; right = next.right }

-- runs with one more before them: if it touches the first of them these two are one
abbrev pub with_run : Run → List Run → List Run
with_run run [] = run ∷ []
with_run run (next ∷ runs) =
    if touches run next then both_as_one run next ∷ runs else run ∷ next ∷ runs

-- the runs of bars
abbrev pub runs_of : List Run → List Run
runs_of [] = []
runs_of (bar ∷ bars) = with_run bar (runs_of bars)

-- the text of a run, if it has a width
abbrev pub run_text : Run → List ℕ
run_text run = if nat_lt run.left run.right then run_line run else []

-- the outlines of bars
abbrev pub outlines : List Run → List ℕ
outlines bars = flat_map run_text (runs_of bars)

-- the outlines of the chain among the lanes of a kind
abbrev pub outlines_in : Scene → LaneKind → List ℕ
outlines_in scene kind = outlines (bars_in_order scene kind scene.plan.summary.chain)
