-- The sizes are those of the layout.
use Rattle.waff_parse.specs.Rows.{records_of}
use Rattle.waff_read.proofs.TraceLaws.{sizes-trace}
use Rattle.waff_read.proofs.trace.read_trace_up_to.Goals as goal

pub returns-in-Ok-clause-fits : goal.returns-in-Ok-clause-fits
returns-in-Ok-clause-fits c = sizes-trace c.args.newest c.args.layout.now.spaces (records_of c.args.bytes.now) c.in-Ok.trace c.in-Ok.ensures
