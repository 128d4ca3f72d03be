use Rattle.std.specs.Prelude.{option_map}
use Rattle.std.proofs.Common.{◌≡◌, ◌+◌, ◌-◌, take, arith, subst}
use Rattle.std.proofs.lemmas.List.{take_all}
use Rattle.std.proofs.lemmas.Result.{IfOk-weaker}
use Rattle.waff_limits.specs.Writes.{ticks_alone, ticks_by, ticks_sharing}
use Rattle.waff_limits.specs.Data.{IsMostOf}
use Rattle.waff_limits.specs.Edges.{AreUsed, edges_of}
use Rattle.waff_limits.specs.Readings.{AreRead, readings_of}
use Rattle.waff_limits.proofs.EdgeLemmas.{are_small}
use Rattle.waff_limits.proofs.SharedCells.{ticks_within}
use Rattle.waff_limits.proofs.Uses.{ticks_small}
use Rattle.waff_limits.proofs.writes.most_by.Goals as goal

pub loop-n-preserved : goal.loop-n-preserved
loop-n-preserved c =
    let n = c.loop-n.n in
    let messages = c.args.trace.now.messages in
    let next : n ≡ n + 1 - 1 = omega arith in
    record {
      alone = subst (λ k. AreUsed (edges_of c.add_message.new.alone) (ticks_alone (option_map (λ l. l.now.spaces) c.args.sharing) (take k messages))) next (c.in_ok-add_message.ensures.alone c.loop-n.invariant.alone);
      shared = subst (λ k. AreRead (readings_of c.add_message.new.shared) (ticks_sharing (option_map (λ l. l.now.spaces) c.args.sharing) (take k messages))) next (c.in_ok-add_message.ensures.shared c.loop-n.invariant.shared);
    }

pub most-requires : goal.most-requires
most-requires c =
    let n = c.loop-n.n in
    let messages = take (n - 1) c.args.trace.now.messages in
    are_small (edges_of c.lay.new.edges) (ticks_by (option_map (λ l. l.now.spaces) c.args.sharing) messages) (c.in_ok-lay.ensures (ticks_alone (option_map (λ l. l.now.spaces) c.args.sharing) messages) (ticks_sharing (option_map (λ l. l.now.spaces) c.args.sharing) messages) c.loop-n.invariant.alone c.loop-n.invariant.shared)
    (λ cell. let small = ticks_small c.args.trace.now c.len-n-end.ensures.trace (n - 1) cell in
    omega (arith, small, ticks_within (option_map (λ l. l.now.spaces) c.args.sharing) cell messages, c.len-n-end.ensures.few, c.loop-n-test.false, c.len-n-end.ensures.count, c.loop-n.auto))

pub returns : goal.returns
returns c =
    let n = c.loop-n.n in
    let messages = c.args.trace.now.messages in
    let some = take (n - 1) messages in
    let all : some ≡ messages = take_all (n - 1) messages (omega (arith, c.loop-n-test.false, c.len-n-end.ensures.count)) in
    let are = c.in_ok-lay.ensures (ticks_alone (option_map (λ l. l.now.spaces) c.args.sharing) some) (ticks_sharing (option_map (λ l. l.now.spaces) c.args.sharing) some) c.loop-n.invariant.alone c.loop-n.invariant.shared in
    IfOk-weaker c.most.result _ (IsMostOf (ticks_by (option_map (λ l. l.now.spaces) c.args.sharing) messages))
    (λ most told. told (ticks_by (option_map (λ l. l.now.spaces) c.args.sharing) messages) (subst (λ ms. AreUsed (edges_of c.lay.new.edges) (ticks_by (option_map (λ l. l.now.spaces) c.args.sharing) ms)) all are))
    c.most.ensures
