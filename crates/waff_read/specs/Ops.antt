-- Operations as a trace spells them.
use Rattle.std.specs.Prelude.{ℕ, List, [], ◌∷◌, Option, Some, None, Result, Ok, Err, codes}
use Rattle.std.specs.Prelude.{nat_lt, if◌then◌else◌, ok_or, option_and_then}
use Rattle.std.specs.Str.{bytes_eq}
use Rattle.waff_model.specs.Layout.{Space, size_at, space_named}
use Rattle.waff_model.specs.Names.{is_name}
use Rattle.waff_model.specs.declared.cell.Cell.{Cell}
use Rattle.waff_model.specs.declared.op.Op.{Op}
use Rattle.waff_model.specs.declared.op.Op.TheVariants as op
use Rattle.waff_model.specs.declared.op.Verb.{Verb}
use Rattle.waff_model.specs.declared.op.Verb.TheVariants as verb
use Rattle.waff_parse.specs.Refusals.{◌>>=◌, pair}
use Rattle.waff_parse.specs.Texts.{blank, colon, number_of, parts, small}
use Rattle.waff_read.specs.declared.trace_fault.TraceFault.{TraceFault}
use Rattle.waff_read.specs.declared.trace_fault.TraceFault.TheVariants as fault
use Rattle.waff_read.specs.TraceFaults.{number}

-- the cell with this index in a space
abbrev pub cell_in : List Space → ℕ → ℕ → Result Cell TraceFault
cell_in spaces space index = if nat_lt index (size_at spaces space) then Ok
    (record { space = space; index = index }) else Err fault.IndexTooLarge

-- the cell of a name and an index
abbrev pub cell_of_name : List Space → List ℕ → List ℕ → Result Cell TraceFault
cell_of_name spaces name index =
    if is_name name then (do
      i ← ok_or (number_of index) fault.Op
      space ← ok_or (space_named spaces name) fault.SpaceUnknown
      cell_in spaces space i)
    else Err fault.Op

-- a cell is a name, `:` and a number
abbrev pub cell_of_parts : List Space → List (List ℕ) → Result Cell TraceFault
cell_of_parts spaces [] = Err fault.Op
cell_of_parts spaces (name ∷ []) = Err fault.Op
cell_of_parts spaces (name ∷ index ∷ []) = cell_of_name spaces name index
cell_of_parts spaces (name ∷ index ∷ more ∷ others) = Err fault.Op

-- the cell that a text spells
unfoldable pub cell_of : List Space → List ℕ → Result Cell TraceFault
cell_of spaces text = cell_of_parts spaces (parts colon text)

-- the number below 2^64 that a text spells
unfoldable pub value_of : List ℕ → Result ℕ TraceFault
value_of text = ok_or (option_and_then small (number_of text)) fault.Op

-- two words: a cell, and what the second one reads as
abbrev pub cell_and : {A : Type 0} → List Space
    → (List ℕ → Result A TraceFault) → List (List ℕ) → Result (Cell × A) TraceFault
cell_and spaces read [] = Err fault.Op
cell_and spaces read (cell ∷ []) = Err fault.Op
cell_and spaces read (cell ∷ second ∷ []) = pair number (cell_of spaces cell) (read second)
cell_and spaces read (cell ∷ second ∷ third ∷ others) = Err fault.Op

-- one word: a cell
abbrev pub one_cell : List Space → List (List ℕ) → Result Cell TraceFault
one_cell spaces [] = Err fault.Op
one_cell spaces (cell ∷ []) = cell_of spaces cell
one_cell spaces (cell ∷ more ∷ others) = Err fault.Op

-- the operation of a verb and the words behind it
unfoldable pub op_of_verb : List Space → Verb → List (List ℕ) → Result Op TraceFault
op_of_verb spaces verb.Set words = do
  p ← cell_and spaces value_of words
  Ok (op.Set p.0 p.1)
op_of_verb spaces verb.Add words = do
  p ← cell_and spaces value_of words
  Ok (op.Add p.0 p.1)
op_of_verb spaces verb.Copy words = do
  p ← cell_and spaces (cell_of spaces) words
  Ok (op.Copy p.0 p.1)
op_of_verb spaces verb.Swap words = do
  p ← cell_and spaces (cell_of spaces) words
  Ok (op.Swap p.0 p.1)
op_of_verb spaces verb.Read words = do
  cell ← one_cell spaces words
  Ok (op.Read cell)

-- the verb of this name
abbrev pub verb_named : List ℕ → Option Verb
verb_named name =
    if bytes_eq name (codes "set") then Some verb.Set
    else if bytes_eq name (codes "add") then Some verb.Add
    else if bytes_eq name (codes "copy") then Some verb.Copy
    else if bytes_eq name (codes "swap") then Some verb.Swap
    else if bytes_eq name (codes "read") then Some verb.Read
    else None

-- the operation of words: the name of a verb, and what it wants
abbrev pub op_of_words : List Space → List (List ℕ) → Result Op TraceFault
op_of_words spaces [] = Err fault.Op
op_of_words spaces (name ∷ words) = do
  verb ← ok_or (verb_named name) fault.Op
  op_of_verb spaces verb words

-- the operation that a piece spells, in words joined by one space
unfoldable pub op_of : List Space → List ℕ → Result Op TraceFault
op_of spaces piece = op_of_words spaces (parts blank piece)
