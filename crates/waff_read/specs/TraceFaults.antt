-- What a reader of traces refuses, and in which order.
use Rattle.std.specs.Prelude.{ℕ}
use Rattle.waff_read.specs.declared.trace_fault.TraceFault.{TraceFault}
use Rattle.waff_read.specs.declared.trace_fault.TraceFault.TheVariants as fault
use Rattle.waff_read.specs.declared.trace_fault.TraceError.{TraceError}
use Rattle.waff_read.specs.declared.trace_fault.TraceError.TheVariants as error

-- the number of a fault: of several at one record the least is told
abbrev pub number : TraceFault → ℕ
number fault.Csv = 1
number fault.Header = 2
number fault.Fields = 3
number fault.Name = 4
number fault.Cost = 5
number fault.NoOps = 6
number fault.Op = 7
number fault.SpaceUnknown = 8
number fault.IndexTooLarge = 9
number fault.TooManyOps = 10
number fault.TooManyMessages = 11
number fault.Release = 13
number fault.Client = 14
number fault.Think = 15
number fault.After = 16
number fault.TooManyAfter = 17

-- the error that tells a fault and its record
abbrev pub at_record : ℕ → TraceFault → TraceError
at_record at fault.Csv = error.Csv at
at_record at fault.Header = error.Header at
at_record at fault.Fields = error.Fields at
at_record at fault.Name = error.Name at
at_record at fault.Cost = error.Cost at
at_record at fault.NoOps = error.NoOps at
at_record at fault.Op = error.Op at
at_record at fault.SpaceUnknown = error.SpaceUnknown at
at_record at fault.IndexTooLarge = error.IndexTooLarge at
at_record at fault.TooManyOps = error.TooManyOps at
at_record at fault.TooManyMessages = error.TooManyMessages at
at_record at fault.Release = error.Release at
at_record at fault.Client = error.Client at
at_record at fault.Think = error.Think at
at_record at fault.After = error.After at
at_record at fault.TooManyAfter = error.TooManyAfter at
