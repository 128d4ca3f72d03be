-- Where the parts of the document stand: names have the room that they need.
use Rattle.std.specs.Prelude.{ℕ, ◌+◌, ◌-◌, ◌*◌, ◌/◌, ◌%◌, List, fold, length, max, min}
use Rattle.waff_model.specs.Tree.{Node}
use Rattle.waff_draw.specs.Lanes.{lane_label}
use Rattle.waff_draw.specs.Scene.{Scene, coloured_in, lanes_in}
use Rattle.waff_draw.specs.declared.lanes.Lane.{Lane}

-- how far a lane is set in whose affinity is this deep in the tree: twelve steps at most
abbrev pub indent : ℕ → ℕ
indent depth = min depth 12 * 8 + 8

-- where the name of a lane ends, with a gap behind it: a letter has eight pixels
abbrev pub lane_end : List Node → Lane → ℕ
lane_end tree lane = indent lane.depth + length (lane_label tree lane) * 8 + 8

-- where the plan begins: right of all names of lanes, and of those of workers
abbrev pub left_in : Scene → ℕ
left_in scene =
    fold (λ left lane. max left (lane_end scene.instance.tree lane)) 96 (lanes_in scene)

-- how many letters the longest name has that has a colour
abbrev pub longest_in : Scene → ℕ
longest_in scene = fold (λ longest name. max longest (length name)) 0 (coloured_in scene)

-- how wide a column of these names is, and how many columns have room
abbrev pub column_in : Scene → ℕ
column_in scene = longest_in scene * 8 + 40

abbrev pub columns_in : Scene → ℕ
columns_in scene = max (1140 / column_in scene) 1

-- where the name of the colour at a place stands, row after row
abbrev pub colour_left : Scene → ℕ → ℕ
colour_left scene place = place % columns_in scene * column_in scene + 8

abbrev pub colour_top : Scene → ℕ → ℕ
colour_top scene place = place / columns_in scene * 20 + 56

-- where the plan begins from above: below the last of these names, with room for the numbers of ticks
abbrev pub top_in : Scene → ℕ
top_in scene = colour_top scene (length (coloured_in scene) - 1) + 44
