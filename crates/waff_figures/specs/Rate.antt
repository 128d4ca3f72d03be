-- The lines that tell how good one plan is.
use Rattle.std.specs.Prelude.{ℕ, List, [], ◌∷◌, ◌++◌, codes, decimal, map}
use Rattle.std.specs.List.{zip}
use Rattle.waff_plan_text.specs.Spelling.{worker_field}
use Rattle.waff_plan_text.specs.Ratio.{ratio_field}
use Rattle.waff_figures.specs.Sweep.{busy_field, quality_fields, quality_names}
use Rattle.waff_figures.specs.declared.figures.Figures.{Figures}

-- a line for each figure: its name and its value; first how much is run
abbrev pub size_lines : Figures → List (List (List ℕ))
size_lines figures =
    (codes "workers" ∷ worker_field figures.workers ∷ [])
    ∷ (codes "total" ∷ decimal figures.total ∷ [])
    ∷ (codes "length" ∷ decimal figures.length ∷ [])
    ∷ []

-- how fast it is run
abbrev pub speed_lines : Figures → List (List (List ℕ))
speed_lines figures =
    (codes "speedup" ∷ ratio_field figures.total figures.length ∷ [])
    ∷ (codes "busy" ∷ busy_field figures.workers figures.total figures.length ∷ [])
    ∷ []

-- how good the plan is
abbrev pub quality_lines : Figures → List (List (List ℕ))
quality_lines figures =
    map (λ line. line.0 ∷ line.1 ∷ []) (zip quality_names (quality_fields figures))

-- all of them
abbrev pub rate_lines : Figures → List (List (List ℕ))
rate_lines figures = size_lines figures ++ speed_lines figures ++ quality_lines figures
