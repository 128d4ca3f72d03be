use Rattle.std.proofs.Common.{◌≡◌, ◌+◌, ◌-◌, ◌||◌, take, arith, sym, ◌∙◌, ap}
use Rattle.std.proofs.lemmas.List.{take_all}
use Rattle.waff_locks.specs.Candidates.{name_space, ops_name}
use Rattle.waff_locks.proofs.Naming.{name_space_more}
use Rattle.waff_locks.proofs.candidates.named_spaces.Goals as goal

pub loop-n-preserved : goal.loop-n-preserved
loop-n-preserved c =
    let messages = c.args.trace.now.messages in
    let n = c.loop-n.n in
    let so_far = c.loop-n.invariant in
    let message = c.message.result.now in
    let next : n ≡ n + 1 - 1 = omega arith in
    record {
      count = c.note_ops.ensures.count ∙ so_far.count;
      each = λ s low.
          c.note_ops.ensures.each s (omega (arith, low, so_far.count))
          ∙ ap (λ b. b || ops_name message.ops s) (so_far.each s low)
          ∙ sym (name_space_more messages n message s c.loop-n.auto.n c.message.ensures.message)
          ∙ ap (λ k. name_space (take k messages) s) next;
    }

pub returns-clause-named : goal.returns-clause-named
returns-clause-named c = λ s low.
    let messages = c.args.trace.now.messages in
    c.loop-n.invariant.each s (omega (arith, low, c.loop-n.invariant.count))
    ∙ ap (λ ms. name_space ms s) (take_all (c.loop-n.n - 1) messages (omega (arith, c.loop-n-test.false, c.len-n-end.ensures.count)))
