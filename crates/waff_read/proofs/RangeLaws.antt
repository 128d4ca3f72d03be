-- The operations of a range that is read are on cells of the spaces, and there is one at least.
use Rattle.std.proofs.Common.{◌≡◌, ℕ, zero, suc, ◌+◌, ◌<◌, ◌≤◌, List, length, Bool, true, false, Option, Some, None, Result, Ok, Err, slice_index, refl, arith}
use Rattle.std.specs.Prelude.{IfOk, ok_or, nat_lt, codes, if◌then◌else◌}
use Rattle.std.specs.Str.{bytes_eq}
use Rattle.std.proofs.lemmas.Bool.{leb-true, ltb-true}
use Rattle.std.proofs.lemmas.List.Elements.{All-append, All-nil}
use Rattle.std.proofs.lemmas.List.FromFn.{length-map-range_with_len}
use Rattle.waff_model.specs.Cells.{cells_of, cells_of_op}
use Rattle.waff_model.specs.Layout.{Space, size_at, space_named}
use Rattle.waff_model.specs.Messages.{sizes_of}
use Rattle.waff_model.specs.Names.{is_name}
use Rattle.waff_model.specs.PackedOps.{cell_at}
use Rattle.waff_model.specs.declared.cell.Cell.{Cell}
use Rattle.waff_model.proofs.TraceLemmas.{slice_index-sizes_of}
use Rattle.waff_parse.specs.Fields.{Field, three_of, two_of}
use Rattle.waff_parse.specs.Refusals.{◌>>=◌, pair}
use Rattle.waff_parse.specs.Texts.{are_rising, number_of, parts, rising}
use Rattle.waff_parse.proofs.Laws.{bind-if, pair-if}
use Rattle.waff_read.specs.Ops.{cell_in, cell_of_name, value_of}
use Rattle.waff_read.specs.Ranges.{ends_of, ends_of_name, op_on, ops_on, range_len, range_of, range_of_words, range_to}
use Rattle.waff_read.specs.TraceFaults.{number}
use Rattle.waff_read.specs.declared.range.Deed.{Deed}
use Rattle.waff_read.specs.declared.range.Deed.TheVariants as deed
use Rattle.waff_read.specs.declared.range.Range.{Range}
use Rattle.waff_read.specs.declared.trace_fault.TraceFault.{TraceFault}
use Rattle.waff_read.specs.declared.trace_fault.TraceFault.TheVariants as fault
use Rattle.waff_read.proofs.OpLaws.{AllLie, Lies, any_ok, one-lies}
use Rattle.waff_read.proofs.OpsLaws.{ops_from}

-- the cell of a space and an index, by their texts
record IsCellOf (spaces : List Space) (name text : List ℕ) (cell : Cell) : Type 0 where
  index : number_of text ≡ Some cell.index
  space : space_named spaces name ≡ Some cell.space
  lies : Lies spaces cell

cell_of_name-is : (spaces : List Space) (name index : List ℕ) → IfOk (cell_of_name spaces name index) (IsCellOf spaces name index)
cell_of_name-is spaces name index = by (is_name name) (number_of index) (space_named spaces name) refl refl
  where
    inside : (space n : ℕ) (b : Bool) → nat_lt n (size_at spaces space) ≡ b → number_of index ≡ Some n → space_named spaces name ≡ Some space
        → IfOk (if b then Ok (record { space = space; index = n }) else Err fault.IndexTooLarge) (IsCellOf spaces name index)
    inside space n true h p q = record { index = p; space = q; lies = rw slice_index-sizes_of (ltb-true _ _ h) }
    inside space n false h p q = tt

    by : (b : Bool) (i s : Option ℕ) → number_of index ≡ i → space_named spaces name ≡ s
        → IfOk (if b then (do
          n ← ok_or i fault.Op
          space ← ok_or s fault.SpaceUnknown
          cell_in spaces space n) else Err fault.Op) (IsCellOf spaces name index)
    by false i s p q = tt
    by true None s p q = tt
    by true (Some n) None p q = tt
    by true (Some n) (Some space) p q = inside space n (nat_lt n (size_at spaces space)) refl p q

-- the first and the last cell of a range
record AreEnds (spaces : List Space) (ends : Cell × Cell) : Type 0 where
  last : Lies spaces ends.1
  same : ends.0.space ≡ ends.1.space
  upto : ends.0.index ≤ ends.1.index

ends_of_name-are : (spaces : List Space) (name first last : List ℕ) → IfOk (ends_of_name spaces name first last) (AreEnds spaces)
ends_of_name-are spaces name first last = by (are_rising first last) refl
  where
    ends : are_rising first last ≡ true → (a b : Result Cell TraceFault) → IfOk a (IsCellOf spaces name first) → IfOk b (IsCellOf spaces name last)
        → IfOk (pair number a b) (AreEnds spaces)
    ends h (Ok a) (Ok b) p q =
        let both : rising (Some a.index) (Some b.index) ≡ true = rw (p.index, q.index) at h in
        let one = p.space in
        let other = q.space in
        record { last = q.lies; same = cc; upto = leb-true a.index b.index both }
    ends h (Ok a) (Err e) p q = tt
    ends h (Err e) (Ok b) p q = tt
    ends h (Err d) (Err e) p q = tt

    by : (b : Bool) → are_rising first last ≡ b
        → IfOk (if b then pair number (cell_of_name spaces name first) (cell_of_name spaces name last) else Err fault.Op) (AreEnds spaces)
    by true h = ends h (cell_of_name spaces name first) (cell_of_name spaces name last) (cell_of_name-is spaces name first) (cell_of_name-is spaces name last)
    by false h = tt

ends_of-are : (spaces : List Space) (text : List ℕ) → IfOk (ends_of spaces text) (AreEnds spaces)
unfolding ends_of
ends_of-are spaces text = by (two_of (parts 58 text))
  where
    indices : (name : List ℕ) (two : Option (Field × Field))
        → IfOk (ok_or two fault.Op >>= (λ i. ends_of_name spaces name i.0 i.1)) (AreEnds spaces)
    indices name None = tt
    indices name (Some i) = ends_of_name-are spaces name i.0 i.1

    by : (two : Option (Field × Field))
        → IfOk (ok_or two fault.Op >>= (λ words. ok_or (two_of (parts 45 words.1)) fault.Op >>= (λ i. ends_of_name spaces words.0 i.0 i.1))) (AreEnds spaces)
    by None = tt
    by (Some words) = indices words.0 (two_of (parts 45 words.1))

-- a range on cells of the spaces
pub record IsRange (spaces : List Space) (range : Range) : Type 0 where
  pub upto : range.first.index ≤ range.last
  pub within : range.last < slice_index (sizes_of spaces) range.first.space

range_to-is : (spaces : List Space) (what : Deed) (ends : Cell × Cell) → AreEnds spaces ends → IsRange spaces (range_to what ends)
range_to-is spaces what ends are = record { upto = are.upto; within = rw are.same are.last }

pub range_of-is : (spaces : List Space) (piece : List ℕ) → IfOk (range_of spaces piece) (IsRange spaces)
unfolding range_of
range_of-is spaces piece = by (three_of (parts 32 piece)) (two_of (parts 32 piece))
  where
    valued : (words : Field × Field × Field) (to : ℕ → Deed)
        → IfOk (pair number (ends_of spaces words.1) (value_of words.2) >>= (λ p. Ok (range_to (to p.1) p.0))) (IsRange spaces)
    valued words to =
        bind-if _ (IsRange spaces) _ (λ p. Ok (range_to (to p.1) p.0))
        (pair-if number (AreEnds spaces) _ (ends_of spaces words.1) (value_of words.2) (ends_of-are spaces words.1) (any_ok (value_of words.2)))
        (λ p h. range_to-is spaces (to p.1) p.0 h.0)

    three : (words : Field × Field × Field) (set add : Bool)
        → IfOk (if set then (pair number (ends_of spaces words.1) (value_of words.2) >>= (λ p. Ok (range_to (deed.Set p.1) p.0)))
        else if add then (pair number (ends_of spaces words.1) (value_of words.2) >>= (λ p. Ok (range_to (deed.Add p.1) p.0)))
        else Err fault.Op) (IsRange spaces)
    three words true add = valued words (λ v. deed.Set v)
    three words false true = valued words (λ v. deed.Add v)
    three words false false = tt

    two : (words : Field × Field) (read : Bool)
        → IfOk (if read then (ends_of spaces words.1 >>= (λ ends. Ok (range_to deed.Read ends))) else Err fault.Op) (IsRange spaces)
    two words true =
        bind-if (AreEnds spaces) (IsRange spaces) (ends_of spaces words.1) (λ ends. Ok (range_to deed.Read ends)) (ends_of-are spaces words.1)
        (λ ends h. range_to-is spaces deed.Read ends h)
    two words false = tt

    by : (a : Option (Field × Field × Field)) (b : Option (Field × Field)) → IfOk (range_of_words spaces a b) (IsRange spaces)
    by (Some words) b = three words (bytes_eq words.0 (codes "set")) (bytes_eq words.0 (codes "add"))
    by None (Some words) = two words (bytes_eq words.0 (codes "read"))
    by None None = tt

-- operations on cells from one on lie in the spaces
ops_from-lie : (spaces : List Space) (what : Deed) (space index n : ℕ) → index + n ≤ slice_index (sizes_of spaces) space
    → AllLie spaces (cells_of (ops_from what space index n))
ops_from-lie spaces what space index zero within = All-nil (Lies spaces)
ops_from-lie spaces what space index (suc n) within =
    All-append (Lies spaces) (cells_of_op (op_on what (cell_at space index))) (cells_of (ops_from what space (index + 1) n))
    (one what) (ops_from-lie spaces what space (index + 1) n (omega (arith, within)))
  where
    lies : Lies spaces (cell_at space index)
    lies = omega (arith, within)

    one : (what : Deed) → AllLie spaces (cells_of_op (op_on what (cell_at space index)))
    one (deed.Set value) = one-lies spaces (cell_at space index) lies
    one (deed.Add value) = one-lies spaces (cell_at space index) lies
    one deed.Read = one-lies spaces (cell_at space index) lies

pub ops_on-lie : (spaces : List Space) (range : Range) → IsRange spaces range → AllLie spaces (cells_of (ops_on range))
ops_on-lie spaces range is = ops_from-lie spaces range.deed range.first.space range.first.index (range_len range) (omega (arith, is.upto, is.within))

pub ops_on-some : (spaces : List Space) (range : Range) → IsRange spaces range → 1 ≤ length (ops_on range)
ops_on-some spaces range is =
    rw (length-map-range_with_len (λ index. op_on range.deed (cell_at range.first.space index)) range.first.index (range_len range)) (omega (arith, is.upto))
