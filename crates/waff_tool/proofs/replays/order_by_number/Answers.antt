use Rattle.std.proofs.Common.{◌≡◌, ◌+◌, ◌-◌, length, arith, sym, ◌∙◌, ap}
use Rattle.std.proofs.lemmas.List.FromFn.{length-range_with_len}
use Rattle.waff_tool.proofs.OrderLemmas.{numbers_more}
use Rattle.waff_tool.proofs.replays.order_by_number.Goals as goal

pub loop-n-preserved : goal.loop-n-preserved
loop-n-preserved c =
    let n = c.loop-n.n in
    let next : n + 1 - 1 ≡ n - 1 + 1 = omega (arith, c.loop-n.auto.n) in
    record {
      items = rw (c.push_reserved.ensures.items, c.loop-n.invariant.items, next)
          (sym (numbers_more (n - 1) n (omega (arith, c.loop-n.auto.n))));
      room = c.push_reserved.ensures.capacity ∙ c.loop-n.invariant.room;
    }

pub push_reserved-requires : goal.push_reserved-requires
push_reserved-requires c =
    let n = c.loop-n.n - 1 in
    let long = ap length c.loop-n.invariant.items ∙ length-range_with_len 1 n in
    omega (arith, long, c.loop-n.order.ok.0, c.loop-n.invariant.room, c.loop-n-test.true, c.loop-n.auto.n)
