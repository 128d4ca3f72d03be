-- The lines of what locks give.
use Rattle.std.specs.Prelude.{◌≡◌, ℕ, List, [], ◌∷◌, ◌++◌, Option, Some, None, codes, decimal, map, unwrap_or}
use Rattle.waff_model.specs.Layout.{Hierarchy, Space, lockings_of, name_at}
use Rattle.waff_model.specs.Messages.{Arrivals}
use Rattle.waff_plan_text.specs.Lines.{text_of}
use Rattle.waff_plan_text.specs.Ratio.{ratio_field}
use Rattle.waff_locks.specs.Candidates.{candidates, locked_too}
use Rattle.waff_locks.specs.Sets.{AreFiguresWith}
use Rattle.waff_locks.specs.Steps.{AreSteps, AreTried, told_length}
use Rattle.waff_locks.specs.declared.wanted.Wanted.{Wanted}
use Rattle.waff_locks.specs.declared.figures.SetFigures.{SetFigures}
use Rattle.waff_locks.specs.declared.figures.SpaceFigures.{SpaceFigures}

abbrev pub locks_header : List (List ℕ)
locks_header =
    codes "what" ∷ codes "space" ∷ codes "tree" ∷ codes "locks" ∷ codes "order" ∷ codes "plan" ∷ codes "speedup" ∷ codes "messages"
    ∷ codes "alone" ∷ codes "shared" ∷ []

-- the length of the list plan, `-` without one
abbrev pub plan_field : Option ℕ → List ℕ
plan_field None = codes "-"
plan_field (Some length) = decimal length

-- the figures in a line
abbrev pub figures_fields : SetFigures → List (List ℕ)
figures_fields figures =
    decimal figures.tree ∷ decimal figures.locks ∷ decimal figures.order ∷ plan_field figures.plan
    ∷ ratio_field figures.total (told_length figures) ∷ decimal figures.messages ∷ decimal figures.alone ∷ decimal figures.shared ∷ []

-- a line: what is told, of which space, and the figures
abbrev pub locks_row : List ℕ → List ℕ → SetFigures → List (List ℕ)
locks_row what space figures = what ∷ space ∷ figures_fields figures

-- the line of a space
abbrev pub space_row : List ℕ → List Space → SpaceFigures → List (List ℕ)
space_row what spaces one = locks_row what (unwrap_or (name_at spaces one.space) []) one.figures

-- all lines: the hierarchy as it is, with one space locked, with one more locked at each step, and with all
abbrev pub locks_lines : List Space → SetFigures → List SpaceFigures → List SpaceFigures → SetFigures → List (List (List ℕ))
locks_lines spaces before ones steps all =
    locks_header ∷ locks_row (codes "as it is") (codes "-") before ∷ map (space_row (codes "one") spaces) ones
    ++ map (space_row (codes "then") spaces) steps ++ locks_row (codes "all") (codes "-") all ∷ []

-- the text of which spaces are worth locks
pub record TellsLocks (wanted : Wanted) (layout : Hierarchy) (trace : Arrivals) (text : List ℕ) : Type 0 where
  pub before : SetFigures
  pub ones : List SpaceFigures
  pub steps : List SpaceFigures
  pub all : SetFigures
  pub as_it_is : AreFiguresWith wanted layout trace (lockings_of layout.spaces) before
  pub each : AreTried wanted layout trace (lockings_of layout.spaces) ones
  pub greedy : AreSteps wanted layout trace wanted.steps (lockings_of layout.spaces) steps
  pub with_all : AreFiguresWith wanted layout trace
      (locked_too wanted.kind (candidates wanted.kind trace.messages (lockings_of layout.spaces)) (lockings_of layout.spaces)) all
  pub lines : text ≡ text_of (locks_lines layout.spaces before ones steps all)
