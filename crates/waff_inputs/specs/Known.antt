-- The versions of traces that the commands know.
use Rattle.std.specs.Prelude.{ℕ, List, Result}
use Rattle.waff_model.specs.Layout.{Space}
use Rattle.waff_model.specs.Messages.{Arrivals}
use Rattle.waff_model.specs.declared.message.Version.{Version}
use Rattle.waff_model.specs.declared.message.Version.TheVariants.{V4}
use Rattle.waff_read.specs.Traces as traces
use Rattle.waff_read.specs.declared.trace_fault.TraceError.{TraceError}

-- the newest version that the commands know
abbrev pub newest : Version
newest = V4

-- the trace that bytes spell, for cells of these spaces
abbrev pub trace_of : List Space → List ℕ → Result Arrivals TraceError
trace_of spaces bytes = traces.trace_of newest spaces bytes
