-- What is told of one plan.
use Rattle.std.specs.Prelude.{◌≡◌, ℕ, ◌+◌, ◌-◌, List, Option, map, sum_by}
use Rattle.waff_plan.specs.Obeys.{AwaitsEarlier, StartsIssued}
use Rattle.waff_plan.specs.Unique.{AreSame}
use Rattle.waff_plan.specs.Work.{Work, finish_of, greatest, issue_of, length_of, numbers, total_of}
use Rattle.waff_figures.specs.Percentile.{IsPercentile}
use Rattle.waff_figures.specs.declared.figures.Figures.{Figures}

-- how long these messages wait: the sum of start - issue over them, 0 for one that starts before its
-- issue
abbrev pub waits_among : Work → (ℕ → ℕ) → List ℕ → ℕ
waits_among work start messages = sum_by (λ m. start m - issue_of work start m) messages

-- how long all messages wait
abbrev pub waits_of : Work → (ℕ → ℕ) → ℕ
waits_of work start = waits_among work start (numbers work)

-- how long a message takes from its issue to its finish, 0 where it finishes before its issue
abbrev pub latency_of : Work → (ℕ → ℕ) → ℕ → ℕ
latency_of work start m = finish_of work start m - issue_of work start m

-- the latencies of these messages
abbrev pub latencies_among : Work → (ℕ → ℕ) → List ℕ → List ℕ
latencies_among work start messages = map (latency_of work start) messages

-- the latencies of all messages, in the order of arrival
abbrev pub latencies_of : Work → (ℕ → ℕ) → List ℕ
latencies_of work start = latencies_among work start (numbers work)

-- the figures of a plan with these starts, for this number of workers or without a limit, where no plan
-- is shorter than the bound and these are percentiles of the latencies
abbrev pub figures_at : Option ℕ → Work → ℕ → (ℕ → ℕ) → ℕ → ℕ → Figures
figures_at limit work bound start p50 p99 = record {
  workers = limit;
  messages = work.count;
  total = total_of work;
  length = length_of work start;
  least = bound;
  waits = waits_of work start;
  latencies = sum_by (latency_of work start) (numbers work);
  p50 = p50;
  p99 = p99;
  latency = greatest (latencies_of work start);
}

-- these figures, with the percentiles
pub record AreFigures (limit : Option ℕ) (work : Work) (bound : ℕ) (start : ℕ → ℕ)
    (figures : Figures) : Type 0 where
  pub p50 : IsPercentile 50 (latencies_of work start) figures.p50
  pub p99 : IsPercentile 99 (latencies_of work start) figures.p99
  pub are : figures ≡ figures_at limit work bound start figures.p50 figures.p99

-- where no message starts before its issue, the latencies are the waits and the costs
abbrev pub LatenciesAddUp : Work → Type 0
LatenciesAddUp work =
    (limit : Option ℕ) (bound : ℕ) (start : ℕ → ℕ) (figures : Figures) → StartsIssued work start
    → AreFigures limit work bound start figures
    → figures.latencies ≡ figures.waits + figures.total

-- two figures of plans with the same starts are equal
abbrev pub FiguresAreOne : Work → Type 0
FiguresAreOne work =
    (limit : Option ℕ) (bound : ℕ) (start other : ℕ → ℕ) (one another : Figures)
    → AwaitsEarlier work → AreSame work start other → AreFigures limit work bound start one
    → AreFigures limit work bound other another → one ≡ another
