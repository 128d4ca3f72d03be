use Rattle.std.proofs.Common.{rules, ◌≡◌, ℕ, map, sym, subst}
use Rattle.std.specs.declared.cmp.Reverse.{Reverse}
use Rattle.std.proofs.lemmas.Fn.{always_returns_same}
use Rattle.waff_plan.specs.Timing.{start_of, work_of}
use Rattle.waff_figures.specs.Figures.{latency_of}
use Rattle.waff_figures.specs.Worst.{AreWorst}
use Rattle.waff_figures.specs.declared.worst.Timed.{Timed}
use Rattle.waff_figures.proofs.WorstLemmas.{worst_sorted}
use Rattle.waff_figures.proofs.worst.worst.Goals as goal

-- what the messages are sorted by
abbrev by_latency : Timed → Reverse ℕ
by_latency timed = record { 0 = timed.latency }

pub returns : goal.returns
returns c =
    let work = work_of c.args.plan.now.timings in
    let latency = latency_of work (start_of c.args.plan.now.starts) in
    subst (λ items. AreWorst c.args.most work.count latency (map (λ (timed : Timed). timed.message) items)) (sym c.truncate.ensures.items)
    (worst_sorted latency work.count c.in_ok-worst.worst.items c.sort_by_key.new.self.items c.in_ok-worst.ensures c.in_ok-sort_by_key.ensures.permutation c.args.most
    (c.in_ok-sort_by_key.ensures.sorted by_latency (always_returns_same _ (λ a r. r ≡ by_latency a.0.now) _ (λ a r q k. search rules)))
    (c.in_ok-sort_by_key.ensures.stable by_latency (always_returns_same _ (λ a r. r ≡ by_latency a.0.now) _ (λ a r q k. search rules))))
