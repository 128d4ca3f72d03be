-- What is read is within the limits.
use Rattle.std.specs.Prelude.{◌≡◌, ℕ, List, Ok}
use Rattle.waff_model.specs.Layout.{Space, Hierarchy, IsLayout}
use Rattle.waff_model.specs.Messages.{Arrivals, IsTrace}
use Rattle.waff_model.specs.declared.message.Version.{Version}
use Rattle.waff_read.specs.Hierarchies.{hierarchy_of}
use Rattle.waff_read.specs.Traces.{trace_of}

-- bytes that are read as a layout are read as one within the limits, over a tree
abbrev pub LayoutIsWithinLimits : List ℕ → Hierarchy → Type 0
LayoutIsWithinLimits bytes layout = hierarchy_of bytes ≡ Ok layout → IsLayout layout

-- bytes that are read as a trace are read as one within the limits, each message of which runs
abbrev pub TraceIsWithinLimits : Version → List Space → List ℕ → Arrivals → Type 0
TraceIsWithinLimits newest spaces bytes trace =
    trace_of newest spaces bytes ≡ Ok trace → IsTrace trace
