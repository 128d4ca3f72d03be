-- The operations of a message: the pieces between `;`, each of them an operation or a range.
use Rattle.std.specs.Prelude.{ℕ, ◌+◌, ◌==◌, List, length, take, nat_lt, if◌then◌else◌, Option}
use Rattle.std.specs.Prelude.{Some, None, Result, Ok, Err}
use Rattle.std.specs.List.{flat_map}
use Rattle.waff_model.specs.Layout.{Space}
use Rattle.waff_model.specs.Versions.{has_clients}
use Rattle.waff_model.specs.declared.message.Version.{Version}
use Rattle.waff_model.specs.declared.op.Op.{Op}
use Rattle.waff_parse.specs.Refusals.{◌>>=◌, least, one}
use Rattle.waff_parse.specs.Texts.{parts, semicolon}
use Rattle.waff_parse.specs.Walks.{gather}
use Rattle.waff_read.specs.Ops.{op_of}
use Rattle.waff_read.specs.Ranges.{ops_of_range, range_of}
use Rattle.waff_read.specs.TraceFaults.{number}
use Rattle.waff_read.specs.declared.trace_fault.TraceFault.{TraceFault}
use Rattle.waff_read.specs.declared.trace_fault.TraceFault.TheVariants as fault

-- an operation, or where none is spelled what stands for some
abbrev pub or_range : Result (List Op) TraceFault
    → Result (List Op) TraceFault → Result (List Op) TraceFault
or_range range (Ok list) = Ok list
or_range range (Err fault.Op) = range
or_range range (Err e) = Err e

-- the operations for which a piece stands: one, or from the third version on those of a range
unfoldable pub piece_of : Version → List Space → List ℕ → Result (List Op) TraceFault
piece_of version spaces piece =
    if has_clients version then or_range (ops_of_range (range_of spaces piece))
    (one (op_of spaces piece))
    else one (op_of spaces piece)

-- lists that are read, one behind the other
abbrev pub joined : Result (List (List Op)) TraceFault → Result (List Op) TraceFault
joined (Ok lists) = Ok (flat_map (λ list. list) lists)
joined (Err e) = Err e

-- the operations of pieces joined by `;`
unfoldable pub pieces_of : Version → List Space → List ℕ → Result (List Op) TraceFault
pieces_of version spaces text =
    joined (gather number (piece_of version spaces) (parts semicolon text))

-- operations, of which only one more than the limit is kept
abbrev pub first_ops : ℕ → Result (List Op) TraceFault → Result (List Op) TraceFault
first_ops most (Ok list) = Ok (take (most + 1) list)
first_ops most (Err e) = Err e

-- the least of the faults so far and one more
abbrev pub least_of : Option TraceFault → TraceFault → TraceFault
least_of None fault = fault
least_of (Some first) fault = least number first fault

-- the operations of a message: one at least, and not more than the limit
unfoldable pub ops_of : Version → List Space → ℕ → List ℕ → Result (List Op) TraceFault
ops_of version spaces most text =
    if length text == 0 then Err fault.NoOps else (do
      list ← pieces_of version spaces text
      if nat_lt most (length list) then Err fault.TooManyOps else Ok list)
