-- The sizes are those of the layout.
use Rattle.waff_parse.specs.Rows.{records_of}
use Rattle.waff_read.proofs.TraceLaws.{sizes-trace}
use Rattle.waff_read.proofs.halves.read_trace_by_threads.Goals as goal

pub returns-in-Some-clause-fits : goal.returns-in-Some-clause-fits
returns-in-Some-clause-fits g c = sizes-trace c.args.newest c.args.layout.now.spaces (records_of c.args.bytes.now) c.in-Some.trace c.in-Some.ensures
