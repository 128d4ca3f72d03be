use Rattle.std.proofs.Common.{◌≡◌, ◌+◌, ◌-◌, ◌*◌, ◌<◌, ◌≤◌, sym, ◌∙◌, ap, arith}
use Rattle.waff_run.specs.Calls.{first_cell}
use Rattle.waff_run.specs.Places.{spot_of}
use Rattle.waff_run.specs.declared.places.Spot.{Spot}
use Rattle.waff_run.proofs.Calling.{each_more, end_more, goes, goes_no_further}
use Rattle.waff_run.proofs.calls.call_length.Goals as goal

pub loop-next-preserved : goal.loop-next-preserved
loop-next-preserved c =
    let places = c.args.places.now in
    let from = c.args.from in
    let next = c.loop-next.next in
    let first = c.get-first.result in
    let op = c.get-op.result in
    let behind : from < next = omega (arith, c.loop-next.auto.next) in
    let here = c.spot-spot.ensures.spot ∙ ap (spot_of places) c.first_cell-in-loop-next.ensures in
    let start = c.spot-begin.ensures.spot ∙ ap (spot_of places) c.first_cell.ensures in
    let is_end : c.loop-next.end ≡ (spot_of places (first_cell first)).at + (next - from) * places.bytes = c.loop-next.invariant.end in
    let at_end : c.spot-spot.result.at ≡ c.loop-next.end = c.if-spot-end.false in
    let same_file : c.spot-spot.result.file ≡ c.spot-begin.result.file = c.if-spot-begin.false in
    let goes_on = goes places c.args.ops.now from next c.loop-next.end first op behind c.get-first.ensures c.get-op.ensures is_end
    (c.are_alike.ensures.0 c.if-not-are_alike.false)
    (ap (λ (spot : Spot). spot.file) (sym here) ∙ same_file ∙ ap (λ (spot : Spot). spot.file) start)
    (ap (λ (spot : Spot). spot.at) (sym here) ∙ at_end) in
    record {
      each = each_more places c.args.ops.now from next behind c.loop-next.invariant.each goes_on;
      end = end_more (spot_of places (first_cell first)).at places.bytes from next behind c.loop-next.end c.spot-spot.result.at
          c.bytes-in-loop-next.result at_end is_end c.bytes-in-loop-next.ensures.bytes;
    }

pub returns : goal.returns
returns c =
    let from = c.args.from in
    let over : c.len-count.result ≤ c.loop-next.next = c.loop-next-test.false in
    record {
      some = omega (arith, c.requires, c.len-count.ensures);
      within = omega (arith, c.requires, c.len-count.ensures);
      each = λ k some fewer. c.loop-next.invariant.each k some (omega (arith, fewer, over));
      most = goes_no_further c.args.places.now c.args.ops.now from (c.len-count.result - from) (omega (arith, c.requires, c.len-count.ensures));
    }
