-- The cells of an operation that is read lie in the spaces.
use Rattle.std.proofs.Common.{◌≡◌, ℕ, List, [], ◌∷◌, Bool, true, false, Option, Some, None, Result, Ok, Err, refl}
use Rattle.std.specs.Prelude.{All, IfOk, ok_or, nat_lt, if◌then◌else◌}
use Rattle.std.proofs.lemmas.Bool.{ltb-true}
use Rattle.std.proofs.lemmas.List.Elements.{All-cons, All-nil}
use Rattle.waff_model.specs.Cells.{LiesIn, cells_of_op}
use Rattle.waff_model.specs.Layout.{Space, size_at, space_named}
use Rattle.waff_model.specs.Messages.{sizes_of}
use Rattle.waff_model.specs.Names.{is_name}
use Rattle.waff_model.specs.declared.cell.Cell.{Cell}
use Rattle.waff_model.specs.declared.op.Op.{Op}
use Rattle.waff_model.specs.declared.op.Op.TheVariants as op
use Rattle.waff_model.specs.declared.op.Verb.{Verb}
use Rattle.waff_model.specs.declared.op.Verb.TheVariants as verb
use Rattle.waff_model.proofs.TraceLemmas.{slice_index-sizes_of}
use Rattle.waff_parse.specs.Refusals.{◌>>=◌}
use Rattle.waff_parse.specs.Texts.{number_of, parts}
use Rattle.waff_parse.proofs.Laws.{bind-if, pair-if}
use Rattle.waff_read.specs.Ops.{cell_and, cell_in, cell_of, cell_of_name, cell_of_parts, one_cell, op_of, op_of_verb, op_of_words, value_of, verb_named}
use Rattle.waff_read.specs.TraceFaults.{number}
use Rattle.waff_read.specs.declared.trace_fault.TraceFault.{TraceFault}
use Rattle.waff_read.specs.declared.trace_fault.TraceFault.TheVariants as fault

-- a cell that is read lies in the spaces
abbrev pub Lies : List Space → Cell → Type 0
Lies spaces cell = LiesIn (sizes_of spaces) cell

pub cell_in-lies : (spaces : List Space) (space index : ℕ) → IfOk (cell_in spaces space index) (Lies spaces)
cell_in-lies spaces space index = by (nat_lt index (size_at spaces space)) refl
  where
    by : (b : Bool) → nat_lt index (size_at spaces space) ≡ b
        → IfOk (if b then Ok (record { space = space; index = index }) else Err fault.IndexTooLarge) (Lies spaces)
    by true h = rw slice_index-sizes_of (ltb-true _ _ h)
    by false h = tt

cell_of_name-lies : (spaces : List Space) (name index : List ℕ) → IfOk (cell_of_name spaces name index) (Lies spaces)
cell_of_name-lies spaces name index = by (is_name name) (number_of index) (space_named spaces name)
  where
    by : (b : Bool) (i s : Option ℕ)
        → IfOk (if b then (do
          n ← ok_or i fault.Op
          space ← ok_or s fault.SpaceUnknown
          cell_in spaces space n) else Err fault.Op) (Lies spaces)
    by false i s = tt
    by true None s = tt
    by true (Some n) None = tt
    by true (Some n) (Some space) = cell_in-lies spaces space n

cell_of-lies : (spaces : List Space) (text : List ℕ) → IfOk (cell_of spaces text) (Lies spaces)
unfolding cell_of
cell_of-lies spaces text = by (parts 58 text)
  where
    by : (words : List (List ℕ)) → IfOk (cell_of_parts spaces words) (Lies spaces)
    by [] = tt
    by (name ∷ []) = tt
    by (name ∷ index ∷ []) = cell_of_name-lies spaces name index
    by (name ∷ index ∷ more ∷ others) = tt

-- the cells of an operation that is read lie in the spaces
abbrev pub AllLie : List Space → List Cell → Type 0
AllLie spaces cells = All (Lies spaces) cells

pub one-lies : (spaces : List Space) (cell : Cell) → Lies spaces cell → AllLie spaces (cell ∷ [])
one-lies spaces cell h = All-cons (Lies spaces) cell [] h (All-nil (Lies spaces))

two-lie : (spaces : List Space) (cell other : Cell) → Lies spaces cell → Lies spaces other → AllLie spaces (cell ∷ other ∷ [])
two-lie spaces cell other h k = All-cons (Lies spaces) cell (other ∷ []) h (one-lies spaces other k)

abbrev pub OpLies : List Space → Op → Type 0
OpLies spaces o = AllLie spaces (cells_of_op o)

-- anything that is read
pub any_ok : {A : Type 0} (r : Result A TraceFault) → IfOk r (λ x. Unit {0})
any_ok (Ok x) = tt
any_ok (Err e) = tt

cell_and-lies : {A : Type 0} (Q : A → Type 0) (spaces : List Space) (read : List ℕ → Result A TraceFault) → ((text : List ℕ) → IfOk (read text) Q)
    → (words : List (List ℕ)) → IfOk (cell_and spaces read words) (λ p. Lies spaces p.0 × Q p.1)
cell_and-lies Q spaces read each [] = tt
cell_and-lies Q spaces read each (cell ∷ []) = tt
cell_and-lies Q spaces read each (cell ∷ second ∷ []) = pair-if number (Lies spaces) Q (cell_of spaces cell) (read second) (cell_of-lies spaces cell) (each second)
cell_and-lies Q spaces read each (cell ∷ second ∷ third ∷ others) = tt

one_cell-lies : (spaces : List Space) (words : List (List ℕ)) → IfOk (one_cell spaces words) (Lies spaces)
one_cell-lies spaces [] = tt
one_cell-lies spaces (cell ∷ []) = cell_of-lies spaces cell
one_cell-lies spaces (cell ∷ more ∷ others) = tt

op_of_verb-lies : (spaces : List Space) (v : Verb) (words : List (List ℕ)) → IfOk (op_of_verb spaces v words) (OpLies spaces)
unfolding op_of_verb
op_of_verb-lies spaces verb.Set words =
    bind-if _ (OpLies spaces) _ (λ p. Ok (op.Set p.0 p.1)) (cell_and-lies _ spaces value_of (λ text. any_ok (value_of text)) words) (λ p h. one-lies spaces p.0 h.0)
op_of_verb-lies spaces verb.Add words =
    bind-if _ (OpLies spaces) _ (λ p. Ok (op.Add p.0 p.1)) (cell_and-lies _ spaces value_of (λ text. any_ok (value_of text)) words) (λ p h. one-lies spaces p.0 h.0)
op_of_verb-lies spaces verb.Copy words =
    bind-if _ (OpLies spaces) _ (λ p. Ok (op.Copy p.0 p.1)) (cell_and-lies (Lies spaces) spaces (cell_of spaces) (cell_of-lies spaces) words) (λ p h. two-lie spaces p.0 p.1 h.0 h.1)
op_of_verb-lies spaces verb.Swap words =
    bind-if _ (OpLies spaces) _ (λ p. Ok (op.Swap p.0 p.1)) (cell_and-lies (Lies spaces) spaces (cell_of spaces) (cell_of-lies spaces) words) (λ p h. two-lie spaces p.0 p.1 h.0 h.1)
op_of_verb-lies spaces verb.Read words =
    bind-if (Lies spaces) (OpLies spaces) (one_cell spaces words) (λ cell. Ok (op.Read cell)) (one_cell-lies spaces words) (λ cell h. one-lies spaces cell h)

pub op_of-lies : (spaces : List Space) (piece : List ℕ) → IfOk (op_of spaces piece) (OpLies spaces)
unfolding op_of
op_of-lies spaces piece = by (parts 32 piece)
  where
    of_found : (found : Option Verb) (words : List (List ℕ)) → IfOk (ok_or found fault.Op >>= (λ v. op_of_verb spaces v words)) (OpLies spaces)
    of_found None words = tt
    of_found (Some v) words = op_of_verb-lies spaces v words

    by : (words : List (List ℕ)) → IfOk (op_of_words spaces words) (OpLies spaces)
    by [] = tt
    by (name ∷ words) = of_found (verb_named name) words
