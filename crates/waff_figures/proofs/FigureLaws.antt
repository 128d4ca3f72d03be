-- Plans with the same starts have the same figures.
use Rattle.std.proofs.Common.{◌≡◌, ℕ, ◌+◌, ◌-◌, ◌<◌, ◌≤◌, Option, sum_by, arith, sym, ◌∙◌, ap, subst}
use Rattle.waff_model.specs.Unique.{AtMostOne}
use Rattle.waff_plan.specs.Obeys.{AwaitsEarlier}
use Rattle.waff_plan.specs.Unique.{AreSame}
use Rattle.waff_plan.specs.Work.{Work, finish_of, greatest, issue_of, numbers}
use Rattle.waff_plan.proofs.Holding.{same_issue}
use Rattle.waff_plan.proofs.Uniqueness.{same_length}
use Rattle.waff_figures.specs.Figures.{AreFigures, FiguresAreOne, LatenciesAddUp, figures_at, latencies_of, latency_of, waits_of}
use Rattle.waff_figures.specs.Percentile.{IsPercentile}
use Rattle.waff_figures.specs.declared.figures.Figures.{Figures}
use Rattle.waff_figures.proofs.PercentileLemmas.{percentile_is_one}
use Rattle.waff_figures.proofs.RowLemmas.{map_range_same}
use Rattle.waff_figures.proofs.SumLemmas.{sum_both, sum_same}

module _ (work : Work) (follows : AwaitsEarlier work) (start other : ℕ → ℕ) (same : AreSame work start other) where
  at : (m : ℕ) → 1 ≤ m → m < 1 + work.count → start m ≡ other m
  at m from to = same m (record { from = from; to = omega (arith, to) })

  pub issued_same : (m : ℕ) → issue_of work start m ≡ issue_of work other m
  issued_same m = same_issue work start other m (λ f follow.
      let is = follows f m follow in
      at f is.from (omega (arith, is.earlier, is.to)))

  pub latency_same : (m : ℕ) → 1 ≤ m → m < 1 + work.count → latency_of work start m ≡ latency_of work other m
  latency_same m from to =
      ap (λ s. s + work.cost m - issue_of work start m) (at m from to) ∙ ap (λ i. finish_of work other m - i) (issued_same m)

  pub waits_same : waits_of work start ≡ waits_of work other
  waits_same =
      sum_same (λ m. start m - issue_of work start m) (λ m. other m - issue_of work other m) 1 work.count (λ m from to.
      ap (λ s. s - issue_of work start m) (at m from to) ∙ ap (λ i. other m - i) (issued_same m))

  latencies_same : latencies_of work start ≡ latencies_of work other
  latencies_same = map_range_same (latency_of work start) (latency_of work other) 1 work.count latency_same

  latency_sum_same : sum_by (latency_of work start) (numbers work) ≡ sum_by (latency_of work other) (numbers work)
  latency_sum_same = sum_same (latency_of work start) (latency_of work other) 1 work.count latency_same

  moved : (p n : ℕ) → IsPercentile p (latencies_of work other) n → IsPercentile p (latencies_of work start) n
  moved p n h = subst (λ xs. IsPercentile p xs n) (sym latencies_same) h

  pub figures_moved : (limit : Option ℕ) (least : ℕ) (figures : Figures) → AreFigures limit work least other figures → AreFigures limit work least start figures
  figures_moved limit least figures h = record {
    p50 = moved 50 figures.p50 h.p50;
    p99 = moved 99 figures.p99 h.p99;
    are = rw (same_length work start other same, waits_same, latency_sum_same, ap greatest latencies_same) h.are;
  }

-- of the same starts
of_one_plan : (limit : Option ℕ) (work : Work) (bound : ℕ) (start : ℕ → ℕ) → AtMostOne (AreFigures limit work bound start)
of_one_plan limit work bound start one other h k =
    let p50 = percentile_is_one 50 (latencies_of work start) one.p50 other.p50 h.p50 k.p50 in
    let p99 = percentile_is_one 99 (latencies_of work start) one.p99 other.p99 h.p99 k.p99 in
    h.are ∙ ap (λ n. figures_at limit work bound start n one.p99) p50 ∙ ap (figures_at limit work bound start other.p50) p99 ∙ sym k.are

pub figures_are_one : (work : Work) → FiguresAreOne work
figures_are_one work limit least start other one another follows same h k =
    of_one_plan limit work least start one another h (figures_moved work follows start other same limit least another k)

pub latencies_add_up : (work : Work) → LatenciesAddUp work
latencies_add_up work limit bound start figures issued are =
    let wait : ℕ → ℕ = λ m. start m - issue_of work start m in
    let each = sum_same (latency_of work start) (λ m. wait m + work.cost m) 1 work.count (λ m from to.
    let after : issue_of work start m ≤ start m = issued m (record { from = from; to = omega (arith, to) }) in
    omega (arith, after)) in
    ap (λ (f : Figures). f.latencies) are.are ∙ each ∙ sum_both wait work.cost (numbers work)
    ∙ sym (ap (λ (f : Figures). f.waits + f.total) are.are)
