use Rattle.waff_io.proofs.KnownBytesLemmas.{Consumes-further}
use Rattle.waff_io.proofs.reading.read_whole.Goals as goal

pub loop-filled-preserved : goal.loop-filled-preserved
loop-filled-preserved g c = (
  c.in_ok-count.ensures.within,
  Consumes-further (g.R.Read.remaining c.args.reader.now) (g.R.Read.remaining c.loop-filled.reader)
      (g.R.Read.remaining c.read_more.new.reader) c.loop-filled.bytes.items c.read_more.new.bytes.items c.loop-filled.filled
      c.in_ok-count.count c.loop-filled.invariant.1 c.read_more.ensures.kept c.in_ok-count.ensures.read,
)
