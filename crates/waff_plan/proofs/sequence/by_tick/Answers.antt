-- One message after another, and all of them sorted.
use Rattle.std.proofs.Common.{◌≡◌, arith, of_calls, refl, rules}
use Rattle.std.proofs.lemmas.Fn.{always_returns_same}
use Rattle.waff_plan.specs.Timing.{start_of}
use Rattle.waff_plan.proofs.ApartLaws.{sorted_by_start, started_more}
use Rattle.waff_plan.proofs.sequence.by_tick.Goals as goal

pub loop-n-preserved : goal.loop-n-preserved
loop-n-preserved c =
    rw c.in_ok-push.ensures.items
    (started_more (start_of c.args.ticks.now) c.loop-n.n (start_of c.args.ticks.now c.loop-n.n) c.loop-n.started.items c.loop-n.auto.n c.loop-n.invariant refl)

pub returns : goal.returns
returns c = λ work count.
    let by = c.sort_unstable_by_key.ensures in
    sorted_by_start work (start_of c.args.ticks.now) c.loop-n.n c.loop-n.started.items c.sort_unstable_by_key.new.self.items
    (omega (arith, count)) c.loop-n.invariant by.permutation
    (λ i lt. by.sorted (λ s. s.start) (always_returns_same _ (λ a r. r ≡ a.0.now.start) _ (λ a r f k. search (rules, of_calls)))
    i (record { start = 0; number = 0 }) (omega arith) lt)
