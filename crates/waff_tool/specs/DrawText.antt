-- What the picture of a plan text is.
use Rattle.std.specs.Prelude.{◌≡◌, ℕ, List}
use Rattle.waff_assign.specs.Instance.{Instance}
use Rattle.waff_plan_text.specs.Given.{Given}
use Rattle.waff_draw.specs.Events.{events_text}
use Rattle.waff_draw.specs.Scene.{Scene, scene_of}
use Rattle.waff_draw.specs.Svg.{svg_text}
use Rattle.waff_draw.specs.declared.parts.Part.{Part}
use Rattle.waff_tool.specs.CheckText.{AcceptsPlan}
use Rattle.waff_draw.specs.declared.picture.Picture.{Picture}
use Rattle.waff_draw.specs.declared.picture.Picture.TheVariants as picture

-- a scene as what it is drawn
abbrev pub picture_of : Picture → Scene → List ℕ
picture_of picture.Svg scene = svg_text scene
picture_of picture.Events scene = events_text scene

-- the picture of a part of the plan of a text
pub record IsDrawText (hierarchy_file trace_file plan_file : List ℕ)
    (picture : Picture) (part : Part) (text : List ℕ) : Type 0 where
  pub instance : Instance
  pub given : Given
  pub accepts : AcceptsPlan hierarchy_file trace_file plan_file instance given
  pub drawn : text ≡ picture_of picture (scene_of instance given part)
