-- A scene that is made ready for drawing.
use Rattle.std.specs.Prelude.{◌≡◌, ℕ, ◌+◌, ◌^◌, ◌<◌, ◌≤◌, All, Bool, false, List, length, map}
use Rattle.std.specs.Prelude.{slice_index, slice_index_or}
use Rattle.waff_plan.specs.Timetable.{Timetable, timings_of}
use Rattle.waff_draw.specs.Lanes.{is_among, row_of}
use Rattle.waff_draw.specs.Scene.{Scene, coloured_in, end_in, from_in, lanes_in, length_in, loose_in}
use Rattle.waff_draw.specs.Scene.{work_of_scene}
use Rattle.waff_draw.specs.declared.lanes.Lane.{Lane}

-- each message has its row; the lanes, the plan, its length and where the part of it ends are those
-- of the scene, with the row of each affinity, which numbers are on the chain, and the names that
-- have a colour
pub record IsChart (scene : Scene) (lanes : List Lane) (plan : Timetable) (ticks end : ℕ)
    (rows places : List ℕ) (links : List Bool) (colours : List (List ℕ)) : Type 0 where
  pub messages : length scene.instance.trace.messages ≡ (work_of_scene scene).count
  pub given : length scene.plan.rows ≡ (work_of_scene scene).count
  pub shown : lanes ≡ lanes_in scene
  pub shown_known : All (λ lane. lane.affinity < length scene.instance.tree + 1) lanes
  pub few : length lanes ≤ 65600
  pub timings : plan.timings ≡ timings_of scene.instance.trace.messages
  pub starts : plan.starts ≡ map (λ row. row.start) scene.plan.rows
  pub long : ticks ≡ length_in scene
  pub ends : end ≡ end_in scene
  pub some : from_in scene < end
  pub small : end ≤ 2 ^ 64
  pub row_count : length rows ≡ length scene.instance.tree + 1
  pub each_row : (a : ℕ) → a < length scene.instance.tree + 1
      → slice_index rows a ≡ row_of (lanes_in scene) a
  pub placed : (n : ℕ) → slice_index places n ≡ slice_index (loose_in scene).places n
  pub link_count : (work_of_scene scene).count < length links
  pub each_link : (n : ℕ) → n < length links
      → slice_index_or links n false ≡ is_among scene.plan.summary.chain n
  pub names : colours ≡ coloured_in scene
