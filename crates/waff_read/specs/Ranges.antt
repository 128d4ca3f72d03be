-- Ranges: pieces of a trace that stand for an operation on each of some cells in a row.
use Rattle.std.specs.Prelude.{ℕ, ◌+◌, ◌-◌, List, map, Option, Some, None, Result, Ok, Err, codes}
use Rattle.std.specs.Prelude.{ok_or, if◌then◌else◌}
use Rattle.std.specs.List.{range_with_len}
use Rattle.std.specs.Str.{bytes_eq}
use Rattle.waff_model.specs.Layout.{Space}
use Rattle.waff_model.specs.PackedOps.{cell_at}
use Rattle.waff_model.specs.declared.cell.Cell.{Cell}
use Rattle.waff_model.specs.declared.op.Op.{Op}
use Rattle.waff_model.specs.declared.op.Op.TheVariants as op
use Rattle.waff_parse.specs.Fields.{Field, three_of, two_of}
use Rattle.waff_parse.specs.Refusals.{◌>>=◌, pair}
use Rattle.waff_parse.specs.Texts.{are_rising, blank, colon, hyphen, parts}
use Rattle.waff_read.specs.Ops.{cell_of_name, value_of}
use Rattle.waff_read.specs.TraceFaults.{number}
use Rattle.waff_read.specs.declared.range.Deed.{Deed}
use Rattle.waff_read.specs.declared.range.Deed.TheVariants as deed
use Rattle.waff_read.specs.declared.range.Range.{Range}
use Rattle.waff_read.specs.declared.trace_fault.TraceFault.{TraceFault}
use Rattle.waff_read.specs.declared.trace_fault.TraceFault.TheVariants as fault

-- the operation that does this to a cell
abbrev pub op_on : Deed → Cell → Op
op_on (deed.Set value) cell = op.Set cell value
op_on (deed.Add value) cell = op.Add cell value
op_on deed.Read cell = op.Read cell

-- how many cells a range has
abbrev pub range_len : Range → ℕ
range_len range = range.last + 1 - range.first.index

-- the operations for which a range stands: one for each of its cells, in rising order
abbrev pub ops_on : Range → List Op
ops_on range = map (λ index. op_on range.deed (cell_at range.first.space index))
    (range_with_len range.first.index (range_len range))

-- the cells of a name and two indices, which do not fall
abbrev pub ends_of_name : List Space
    → List ℕ → List ℕ → List ℕ → Result (Cell × Cell) TraceFault
ends_of_name spaces name first last =
    if are_rising first last then pair number (cell_of_name spaces name first)
    (cell_of_name spaces name last)
    else Err fault.Op

-- the first and the last cell that a text spells: a name, `:`, and two indices joined by `-`
unfoldable pub ends_of : List Space → List ℕ → Result (Cell × Cell) TraceFault
ends_of spaces text = do
  words ← ok_or (two_of (parts colon text)) fault.Op
  indices ← ok_or (two_of (parts hyphen words.1)) fault.Op
  ends_of_name spaces words.0 indices.0 indices.1

-- a range of this deed
abbrev pub range_to : Deed → Cell × Cell → Range
range_to what ends = record { deed = what; first = ends.0; last = ends.1.index }

-- the range of two words: `read`, and its cells
abbrev pub range_of_two : List Space → Field × Field → Result Range TraceFault
range_of_two spaces words =
    if bytes_eq words.0 (codes "read") then (do
      ends ← ends_of spaces words.1
      Ok (range_to deed.Read ends))
    else Err fault.Op

-- the range behind `set`: its cells and a value
abbrev pub set_range : List Space → Field → Field → Result Range TraceFault
set_range spaces cells value = do
  p ← pair number (ends_of spaces cells) (value_of value)
  Ok (range_to (deed.Set p.1) p.0)

-- the range behind `add`
abbrev pub add_range : List Space → Field → Field → Result Range TraceFault
add_range spaces cells value = do
  p ← pair number (ends_of spaces cells) (value_of value)
  Ok (range_to (deed.Add p.1) p.0)

-- the range of three words: `set` or `add`, its cells and a value
abbrev pub range_of_three : List Space → Field × Field × Field → Result Range TraceFault
range_of_three spaces words =
    if bytes_eq words.0 (codes "set") then set_range spaces words.1 words.2
    else if bytes_eq words.0 (codes "add") then add_range spaces words.1 words.2
    else Err fault.Op

abbrev pub range_of_words : List Space
    → Option (Field × Field × Field) → Option (Field × Field) → Result Range TraceFault
range_of_words spaces (Some three) two = range_of_three spaces three
range_of_words spaces None (Some two) = range_of_two spaces two
range_of_words spaces None None = Err fault.Op

-- the range that a piece spells, in words joined by one space
unfoldable pub range_of : List Space → List ℕ → Result Range TraceFault
range_of spaces piece =
    range_of_words spaces (three_of (parts blank piece)) (two_of (parts blank piece))

-- the operations of a range that is read
abbrev pub ops_of_range : Result Range TraceFault → Result (List Op) TraceFault
ops_of_range (Ok range) = Ok (ops_on range)
ops_of_range (Err e) = Err e
