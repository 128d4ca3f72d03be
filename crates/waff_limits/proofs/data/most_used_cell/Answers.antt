use Rattle.std.proofs.Common.{◌≡◌, ◌+◌, ◌-◌, take, arith, subst}
use Rattle.std.proofs.lemmas.List.{take_all}
use Rattle.std.proofs.lemmas.Result.{IfOk-weaker}
use Rattle.waff_limits.specs.Data.{IsMostOf, ticks_on}
use Rattle.waff_limits.specs.Edges.{AreUsed, edges_of}
use Rattle.waff_limits.proofs.EdgeLemmas.{are_small}
use Rattle.waff_limits.proofs.Uses.{ticks_small}
use Rattle.waff_limits.proofs.data.most_used_cell.Goals as goal

pub loop-n-preserved : goal.loop-n-preserved
loop-n-preserved c =
    let n = c.loop-n.n in
    let next : n ≡ n + 1 - 1 = omega arith in
    subst (λ k. AreUsed (edges_of c.add_message.new.edges) (ticks_on (take k c.args.trace.now.messages))) next
    (c.in_ok-add_message.ensures c.loop-n.invariant)

pub most-requires : goal.most-requires
most-requires c =
    let n = c.loop-n.n in
    are_small (edges_of c.loop-n.edges) (ticks_on (take (n - 1) c.args.trace.now.messages)) c.loop-n.invariant
    (λ cell. let small = ticks_small c.args.trace.now c.len-n-end.ensures.trace (n - 1) cell in
    omega (arith, small, c.len-n-end.ensures.few, c.loop-n-test.false, c.len-n-end.ensures.count, c.loop-n.auto))

pub returns : goal.returns
returns c =
    let messages = c.args.trace.now.messages in
    let all : take (c.loop-n.n - 1) messages ≡ messages = take_all (c.loop-n.n - 1) messages (omega (arith, c.loop-n-test.false, c.len-n-end.ensures.count)) in
    IfOk-weaker c.most.result _ (IsMostOf (ticks_on messages))
    (λ most told. told (ticks_on messages) (subst (λ ms. AreUsed (edges_of c.loop-n.edges) (ticks_on ms)) all c.loop-n.invariant))
    c.most.ensures
