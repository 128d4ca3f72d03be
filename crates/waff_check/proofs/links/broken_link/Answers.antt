-- The neighbours so far are linked.
use Rattle.std.proofs.Common.{◌≡◌, ◌+◌, ◌-◌, arith, refl}
use Rattle.waff_check.specs.Searches.{planned_links}
use Rattle.waff_check.proofs.FirstLaws.{least-first, refuted}
use Rattle.waff_check.proofs.LinkLaws.{all-linked, linked-more, none-broken}
use Rattle.waff_check.proofs.links.broken_link.Goals as goal

pub loop-index-init : goal.loop-index-init
loop-index-init c = λ place from lt. absurd (omega arith)

pub returns-then-not-is_linked : goal.returns-then-not-is_linked
returns-then-not-is_linked c =
    let same : c.loop-index.index + 1 - 1 ≡ c.loop-index.index = omega arith in
    let link = planned_links c.args.planned.now in
    least-first _ _ (none-broken link c.args.chain.now (c.loop-index.index + 1) c.loop-index.invariant)
    (record { from = omega arith; to = omega arith; broken = rw same (refuted c.if-not-is_linked.ensures.1) })

pub loop-index-preserved : goal.loop-index-preserved
loop-index-preserved c =
    let same : c.loop-index.index + 1 - 1 ≡ c.loop-index.index = omega arith in
    let link = planned_links c.args.planned.now in
    linked-more link c.args.chain.now (c.loop-index.index + 1) c.loop-index.invariant (rw same (c.if-not-is_linked.ensures.0 refl))

pub returns : goal.returns
returns c = all-linked (planned_links c.args.planned.now) c.args.chain.now (c.loop-index.index + 1) (omega arith) c.loop-index.invariant
