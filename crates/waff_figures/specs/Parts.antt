-- What is told of a part of the messages of a plan.
use Rattle.std.specs.Prelude.{◌≡◌, ℕ, ◌<◌, Bool, List, [], ◌∷◌, codes, decimal}
use Rattle.std.specs.Prelude.{filter, length, slice_index, slice_index_or, sum_by}
use Rattle.waff_plan.specs.Work.{Work, greatest, numbers}
use Rattle.waff_plan_text.specs.Ratio.{ratio_field}
use Rattle.waff_figures.specs.Figures.{latencies_among, latency_of, waits_among}
use Rattle.waff_figures.specs.Percentile.{IsPercentile}
use Rattle.waff_figures.specs.declared.grouping.Columns.{Columns}
use Rattle.waff_figures.specs.declared.grouping.Columns.TheVariants.{Costs, Figures}
use Rattle.waff_figures.specs.declared.parts.PartFigures.{PartFigures}
use Rattle.waff_figures.specs.declared.tally.Tally.{Tally}

-- the part of the messages that is meant, in the order of arrival
abbrev pub part_where : Work → (ℕ → Bool) → List ℕ
part_where work is_meant = filter is_meant (numbers work)

-- the figures of these messages of a plan, where these are percentiles of their latencies
abbrev pub part_figures_at : Work → (ℕ → ℕ) → List ℕ → ℕ → ℕ → PartFigures
part_figures_at work start messages p50 p99 = record {
  waits = waits_among work start messages;
  latencies = sum_by (latency_of work start) messages;
  p50 = p50;
  p99 = p99;
  latency = greatest (latencies_among work start messages);
}

-- these figures, with the percentiles
pub record ArePartFigures (work : Work) (start : ℕ → ℕ) (messages : List ℕ)
    (figures : PartFigures) : Type 0 where
  pub p50 : IsPercentile 50 (latencies_among work start messages) figures.p50
  pub p99 : IsPercentile 99 (latencies_among work start messages) figures.p99
  pub are : figures ≡ part_figures_at work start messages figures.p50 figures.p99

-- of no message
abbrev pub no_part : PartFigures
no_part = record { waits = 0; latencies = 0; p50 = 0; p99 = 0; latency = 0 }

-- the figures of parts, one for each key: of the messages that belong to it
pub record AreOfParts (work : Work) (start : ℕ → ℕ) (belongs : ℕ → ℕ → Bool) (keys : List ℕ)
    (parts : List PartFigures) : Type 0 where
  pub count : length parts ≡ length keys
  pub each : (i : ℕ) → i < length keys
      → ArePartFigures work start (part_where work (belongs (slice_index keys i)))
      (slice_index_or parts i no_part)

-- the same where figures are asked for, else none
abbrev pub AreTheParts : Columns → Work → (ℕ → ℕ) → (ℕ → ℕ → Bool) → List ℕ → List PartFigures
    → Type 0
AreTheParts Costs work start belongs keys parts = parts ≡ []
AreTheParts Figures work start belongs keys parts = AreOfParts work start belongs keys parts

-- the columns of the figures of a part: the names, and the fields of a part of a plan of this length
abbrev pub part_names : List (List ℕ)
part_names =
    codes "running" ∷ codes "waits" ∷ codes "mean" ∷ codes "p50" ∷ codes "p99" ∷ codes "latency" ∷ []

abbrev pub part_fields : ℕ → Tally → PartFigures → List (List ℕ)
part_fields plan_length tally part =
    ratio_field tally.cost plan_length
    ∷ decimal part.waits
    ∷ ratio_field part.latencies tally.messages
    ∷ decimal part.p50
    ∷ decimal part.p99
    ∷ decimal part.latency
    ∷ []
