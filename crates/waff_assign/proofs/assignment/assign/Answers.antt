use Rattle.std.proofs.Common.{◌≡◌, ◌+◌, Some, refl, arith, length, subst, sym, ◌∙◌}
use Rattle.std.proofs.lemmas.List.{length_push}
use Rattle.waff_model.proofs.Unlocking.{none_is_locked}
use Rattle.waff_assign.specs.Lowest.{IsSomeLowestOf}
use Rattle.waff_assign.proofs.Assignments.{each_more, unlocked_assignment}
use Rattle.waff_assign.proofs.assignment.assign.Goals as goal

pub loop-n-preserved : goal.loop-n-preserved
loop-n-preserved c =
    let items = c.push_reserved.ensures.items in
    let before = c.loop-n.affinities.items in
    let affinity = c.lowest_of_message.result in
    let h = c.lowest_of_message.ensures in
    let here : c.loop-n.n ≡ length before + 1 = omega (arith, c.loop-n.invariant.count) in
    record {
      count = rw items (omega (arith, c.loop-n.invariant.count, length_push before (Some affinity)));
      each = rw items (each_more (IsSomeLowestOf c.args.layout.now c.args.trace.now.messages) before (Some affinity) c.loop-n.invariant.each
          (subst (λ n. IsSomeLowestOf c.args.layout.now c.args.trace.now.messages n (Some affinity)) here (affinity, refl, h.lowest, h.within)));
      room = c.push_reserved.ensures.capacity ∙ c.loop-n.invariant.room;
    }

pub returns-clause-assignment : goal.returns-clause-assignment
returns-clause-assignment c =
    rw c.without_locks.ensures
    (unlocked_assignment c.args.layout.now (none_is_locked c.args.layout.now.spaces (sym c.has_locks.ensures ∙ c.if-has_locks.false)) c.args.trace.now c.loop-n.affinities.items c.len-n-end.ensures.trace
    (omega (arith, c.loop-n.invariant.count, c.len-n-end.ensures.count)) c.loop-n.invariant.each).0

pub returns-clause-known : goal.returns-clause-known
returns-clause-known c =
    rw c.without_locks.ensures
    (unlocked_assignment c.args.layout.now (none_is_locked c.args.layout.now.spaces (sym c.has_locks.ensures ∙ c.if-has_locks.false)) c.args.trace.now c.loop-n.affinities.items c.len-n-end.ensures.trace
    (omega (arith, c.loop-n.invariant.count, c.len-n-end.ensures.count)) c.loop-n.invariant.each).1
