-- The operations of one message more.
use Rattle.std.proofs.Common.{◌≡◌, length, slice_get, arith, ap, sym, ◌∙◌}
use Rattle.waff_model.specs.Messages.{Arrivals, ops_in}
use Rattle.waff_model.proofs.TraceLemmas.{ops_in-more}
use Rattle.waff_model.proofs.trace.Trace.op_count.Goals as goal

pub overflow_add-count : goal.overflow_add-count
overflow_add-count c =
    let same : c.self.inside.messages ≡ c.args.self.now.messages = ap (λ (t : Arrivals). t.messages) c.self.view_is in
    let more = ops_in-more c.args.self.now.messages c.loop-place.place c.get.result.now (ap (λ ms. slice_get ms c.loop-place.place) (sym same) ∙ c.get.ensures) in
    omega (arith, more.0, more.1, c.loop-place.invariant.counted, c.len-count.ensures, c.self.invariant.few_ops, ap ops_in same)

pub loop-place-preserved : goal.loop-place-preserved
loop-place-preserved c =
    let same : c.self.inside.messages ≡ c.args.self.now.messages = ap (λ (t : Arrivals). t.messages) c.self.view_is in
    let more = ops_in-more c.args.self.now.messages c.loop-place.place c.get.result.now (ap (λ ms. slice_get ms c.loop-place.place) (sym same) ∙ c.get.ensures) in
    record {
      within = omega (arith, c.loop-place-test.true, c.len.ensures, ap length same);
      counted = omega (arith, more.0, c.loop-place.invariant.counted, c.len-count.ensures);
    }
