use Rattle.std.proofs.Common.{◌≤◌, length, drop, arith}
use Rattle.std.proofs.lemmas.List.{take_rest, length-drop}
use Rattle.waff_io.proofs.KnownBytesLemmas.{Appends-further}
use Rattle.waff_io.proofs.writing.write_whole.Goals as goal

pub loop-written-preserved : goal.loop-written-preserved
loop-written-preserved g c =
    let rest = take_rest c.args.text.now c.loop-written.written in
    let bound : c.in-Ok.count ≤ length (drop c.loop-written.written c.args.text.now) = rw rest at c.in-Ok.ensures.bound in (
      omega (arith, bound, length-drop c.loop-written.written c.args.text.now),
      Appends-further (g.W.Write.contents c.args.writer.now) (g.W.Write.contents c.loop-written.writer)
          (g.W.Write.contents c.write.new.self) c.args.text.now c.loop-written.written c.in-Ok.count c.loop-written.invariant.1
          c.in-Ok.ensures.bytes,
    )
