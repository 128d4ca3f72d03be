use Rattle.std.proofs.Common.{◌≡◌, ◌<◌, ◌∙◌, true, false, All, length, arith, below_more, subst, sym}
use Rattle.std.proofs.lemmas.Bool.{true≢false}
use Rattle.std.proofs.lemmas.List.{get_or_default}
use Rattle.waff_assign.specs.Order.{IsOrdered}
use Rattle.waff_core.specs.Shown.{marked}
use Rattle.waff_core.proofs.steps.Machine.blocking.Goals as goal
use Rattle.waff_core.proofs.steps.Machine.blocking.Goals.{else-not-index-via-then-not-index+else-is_ordered, else-not-index-via-else-not-index}

pub are_done-requires : goal.are_done-requires
are_done-requires c = λ k d within.
    let early = c.needs.ensures.earlier k d within in
    omega (arith, early.1, c.requires.message.to, c.requires.fits.marks)

pub loop-i-preserved : goal.loop-i-preserved
loop-i-preserved c =
    let job = c.args.job.now in
    let done = c.args.self.now.done.items in
    let i = c.loop-i.i in
    let within : i < length done = omega (arith, c.loop-i-test.true, c.requires.message.to, c.requires.fits.marks) in
    let read : marked done i ≡ c.index.result.now = get_or_default done i false c.index.result.now within ∙ sym c.index.ensures in
    below_more (λ j. IsOrdered job.layout.tree job.assigned j c.args.m → marked done j ≡ true) i c.loop-i.invariant
    (λ ordered.
    elim c.else-not-index.branch [
      | else-not-index-via-then-not-index+else-is_ordered w ↦ absurd (true≢false (sym (w.is_ordered.ensures.1 ordered) ∙ w.if-is_ordered.false))
      | else-not-index-via-else-not-index w ↦ read ∙ w.if-not-index.false
    ])

pub returns-then-are_done : goal.returns-then-are_done
returns-then-are_done c =
    let all = c.are_done.ensures.0 c.if-are_done.true in
    c.requires.steady.enough c.args.m (subst (All (λ n. marked c.args.self.now.done.items n ≡ true)) c.needs.ensures.needs all)
