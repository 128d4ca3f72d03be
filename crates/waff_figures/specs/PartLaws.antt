-- That the figures of the lines add up, and leave no choice.
use Rattle.std.specs.Prelude.{◌≡◌, ℕ, Bool, List, Option, sum_by}
use Rattle.waff_model.specs.Tree.{Node}
use Rattle.waff_assign.specs.Held.{Held}
use Rattle.waff_plan.specs.Obeys.{AwaitsEarlier}
use Rattle.waff_plan.specs.Unique.{AreSame}
use Rattle.waff_plan.specs.Work.{Work, numbers}
use Rattle.waff_figures.specs.ByAffinity.{affinity_numbers, runs_in}
use Rattle.waff_figures.specs.ByName.{first_messages, has_label}
use Rattle.waff_figures.specs.Figures.{AreFigures, waits_of}
use Rattle.waff_figures.specs.Parts.{AreOfParts, ArePartFigures, AreTheParts}
use Rattle.waff_figures.specs.declared.figures.Figures.{Figures}
use Rattle.waff_figures.specs.declared.grouping.Columns.{Columns}
use Rattle.waff_figures.specs.declared.parts.PartFigures.{PartFigures}

-- the part of all messages has the figures of the plan
pub record IsWhole (figures : Figures) (part : PartFigures) : Type 0 where
  pub waits : part.waits ≡ figures.waits
  pub latencies : part.latencies ≡ figures.latencies
  pub p50 : part.p50 ≡ figures.p50
  pub p99 : part.p99 ≡ figures.p99
  pub latency : part.latency ≡ figures.latency

abbrev pub AllAreWhole : Work → Type 0
AllAreWhole work =
    (limit : Option ℕ) (bound : ℕ) (start : ℕ → ℕ) (figures : Figures) (part : PartFigures)
    → AreFigures limit work bound start figures → ArePartFigures work start (numbers work) part
    → IsWhole figures part

-- the waits of the affinities and of none add up to those of all messages
abbrev pub AffinityWaitsAddUp : List Node → List Held → Work → Type 0
AffinityWaitsAddUp tree assigned work =
    (start : ℕ → ℕ) (parts : List PartFigures)
    → AreOfParts work start (runs_in tree assigned) (affinity_numbers tree) parts
    → sum_by (λ part. part.waits) parts ≡ waits_of work start

-- those of the distinct labels do too
abbrev pub LabelWaitsAddUp : List (List ℕ) → Work → Type 0
LabelWaitsAddUp labels work =
    (start : ℕ → ℕ) (parts : List PartFigures)
    → AreOfParts work start (has_label labels) (first_messages labels) parts
    → sum_by (λ part. part.waits) parts ≡ waits_of work start

-- where two plans start each message at the same tick, the figures of their parts are equal
abbrev pub PartsAreOne : Work → Type 0
PartsAreOne work =
    (columns : Columns) (belongs : ℕ → ℕ → Bool) (keys : List ℕ) (start other : ℕ → ℕ)
    (one another : List PartFigures) → AwaitsEarlier work → AreSame work start other
    → AreTheParts columns work start belongs keys one
    → AreTheParts columns work other belongs keys another → one ≡ another
