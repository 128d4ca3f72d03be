-- Operations, of which one more than the limit is kept.
use Rattle.std.proofs.Common.{◌≡◌, ◌≢◌, ℕ, zero, suc, ◌+◌, ◌-◌, ◌≤◌, ◌<◌, List, [], ◌∷◌, ◌++◌, length, map, take, Bool, true, false, Option, Some, None, Result, Ok, Err, refl, sym, ap, ◌∙◌, append_assoc, arith}
use Rattle.std.specs.Prelude.{◌==◌, nat_lt, if◌then◌else◌}
use Rattle.std.specs.List.{range_with_len}
use Rattle.std.proofs.lemmas.Grind.{flat_map-append}
use Rattle.std.proofs.lemmas.List.{append-nil, length-append, length-take, take_all, take_at}
use Rattle.std.proofs.lemmas.Bool.{le-ltb, lt-ltb}
use Rattle.waff_model.specs.Layout.{Space}
use Rattle.waff_model.specs.PackedOps.{cell_at}
use Rattle.waff_model.specs.Versions.{has_clients}
use Rattle.waff_model.specs.declared.message.Version.{Version}
use Rattle.waff_model.specs.declared.op.Op.{Op}
use Rattle.waff_parse.specs.Refusals.{◌>>=◌, both, one}
use Rattle.waff_parse.specs.Walks.{gather}
use Rattle.waff_parse.proofs.Laws.{gather-push}
use Rattle.waff_read.specs.Ops.{op_of}
use Rattle.waff_read.specs.Pieces.{first_ops, joined, least_of, ops_of, or_range, piece_of, pieces_of}
use Rattle.waff_read.specs.Ranges.{op_on, ops_of_range, range_of}
use Rattle.waff_read.specs.TraceFaults.{number}
use Rattle.waff_read.specs.declared.range.Deed.{Deed}
use Rattle.waff_read.specs.declared.trace_fault.TraceFault.{TraceFault}
use Rattle.waff_read.specs.declared.trace_fault.TraceFault.TheVariants as fault

-- what is kept of a list is kept of it with more
take-take_append : {A : Type 0} (n : ℕ) (xs ys : List A) → take n (take n xs ++ ys) ≡ take n (xs ++ ys)
take-take_append zero xs ys = refl
take-take_append (suc n) [] ys = refl
take-take_append (suc n) (x ∷ xs) ys = ap (λ (l : List _). x ∷ l) (take-take_append n xs ys)

first_ops-both : (most : ℕ) (a b : Result (List Op) TraceFault) → first_ops most (both number (first_ops most a) b) ≡ first_ops most (both number a b)
first_ops-both most (Ok xs) (Ok ys) = ap Ok (take-take_append (most + 1) xs ys)
first_ops-both most (Ok xs) (Err e) = refl
first_ops-both most (Err e) (Ok ys) = refl
first_ops-both most (Err d) (Err e) = refl

-- lists that are read side by side are read one behind the other
joined-both : (a b : Result (List (List Op)) TraceFault) → joined (both number a b) ≡ both number (joined a) (joined b)
joined-both (Ok xs) (Ok ys) = ap Ok (flat_map-append (λ (list : List Op). list) xs ys)
joined-both (Ok xs) (Err e) = refl
joined-both (Err e) (Ok ys) = refl
joined-both (Err d) (Err e) = refl

joined-one : (r : Result (List Op) TraceFault) → joined (one r) ≡ r
joined-one (Ok list) = ap Ok (append-nil list)
joined-one (Err e) = refl

-- the operations kept, unless there is a fault
abbrev pub so_far : Option TraceFault → List Op → Result (List Op) TraceFault
so_far None list = Ok list
so_far (Some fault) list = Err fault

-- the operations of pieces
abbrev pub ops_so_far : Version → List Space → List (List ℕ) → Result (List Op) TraceFault
ops_so_far version spaces pieces = joined (gather number (piece_of version spaces) pieces)

-- one piece more
module _ (version : Version) (spaces : List Space) (most : ℕ) (pieces : List (List ℕ)) (piece : List ℕ) (f : Option TraceFault) (list : List Op)
    (before : so_far f list ≡ first_ops most (ops_so_far version spaces pieces)) where
  more : first_ops most (both number (so_far f list) (piece_of version spaces piece)) ≡ first_ops most (ops_so_far version spaces (pieces ++ piece ∷ []))
  more =
      rw before (first_ops-both most (ops_so_far version spaces pieces) (piece_of version spaces piece))
      ∙ ap (first_ops most)
      (sym (ap joined (gather-push number (piece_of version spaces) pieces piece)
      ∙ joined-both (gather number (piece_of version spaces) pieces) (one (piece_of version spaces piece))
      ∙ ap (both number (ops_so_far version spaces pieces)) (joined-one (piece_of version spaces piece))))

  pub so_far-ops : (ops : List Op) → Ok ops ≡ piece_of version spaces piece
      → so_far f (take (most + 1) (list ++ ops)) ≡ first_ops most (ops_so_far version spaces (pieces ++ piece ∷ []))
  so_far-ops ops is = by f ∙ (ap (λ (r : Result (List Op) TraceFault). first_ops most (both number (so_far f list) r)) is ∙ more)
    where
      by : (g : Option TraceFault) → so_far g (take (most + 1) (list ++ ops)) ≡ first_ops most (both number (so_far g list) (Ok ops))
      by None = refl
      by (Some e) = refl

  pub so_far-fault : (e : TraceFault) → Err e ≡ piece_of version spaces piece
      → so_far (Some (least_of f e)) list ≡ first_ops most (ops_so_far version spaces (pieces ++ piece ∷ []))
  so_far-fault e is = by f ∙ (ap (λ (r : Result (List Op) TraceFault). first_ops most (both number (so_far f list) r)) is ∙ more)
    where
      by : (g : Option TraceFault) → so_far (Some (least_of g e)) list ≡ first_ops most (both number (so_far g list) (Err e))
      by None = refl
      by (Some d) = refl

-- a piece that is an operation stands for it
pub piece-op : (version : Version) (spaces : List Space) (piece : List ℕ) (op : Op) → Ok op ≡ op_of spaces piece → Ok (op ∷ []) ≡ piece_of version spaces piece
unfolding piece_of
piece-op version spaces piece op is = rw (← is) (by (has_clients version))
  where
    by : (b : Bool) → ◌≡◌ {A = Result (List Op) TraceFault} (Ok (op ∷ [])) (if b then Ok (op ∷ []) else Ok (op ∷ []))
    by true = refl
    by false = refl

-- a piece that is none stands for a range where messages have clients and it is misspelled as an operation
pub piece-range : (version : Version) (spaces : List Space) (piece : List ℕ) → has_clients version ≡ true → op_of spaces piece ≡ Err fault.Op
    → ops_of_range (range_of spaces piece) ≡ piece_of version spaces piece
unfolding piece_of
piece-range version spaces piece has is = rw (has, is) refl

-- another fault of an operation is told
pub piece-earlier : (version : Version) (spaces : List Space) (piece : List ℕ) (e : TraceFault) → has_clients version ≡ false → op_of spaces piece ≡ Err e
    → Err e ≡ piece_of version spaces piece
unfolding piece_of
piece-earlier version spaces piece e none is = rw (none, is) refl

or_range-other : (range : Result (List Op) TraceFault) (e : TraceFault) → number e ≢ number fault.Op → Err e ≡ or_range range (Err e)
or_range-other range fault.Csv other = refl
or_range-other range fault.Header other = refl
or_range-other range fault.Fields other = refl
or_range-other range fault.Name other = refl
or_range-other range fault.Cost other = refl
or_range-other range fault.NoOps other = refl
or_range-other range fault.Op other = absurd (other refl)
or_range-other range fault.SpaceUnknown other = refl
or_range-other range fault.IndexTooLarge other = refl
or_range-other range fault.TooManyOps other = refl
or_range-other range fault.TooManyMessages other = refl
or_range-other range fault.Release other = refl
or_range-other range fault.Client other = refl
or_range-other range fault.Think other = refl
or_range-other range fault.After other = refl
or_range-other range fault.TooManyAfter other = refl

pub piece-fault : (version : Version) (spaces : List Space) (piece : List ℕ) (e : TraceFault) → has_clients version ≡ true → op_of spaces piece ≡ Err e
    → number e ≢ number fault.Op → Err e ≡ piece_of version spaces piece
unfolding piece_of
piece-fault version spaces piece e has is other = rw (has, is) (or_range-other (ops_of_range (range_of spaces piece)) e other)

-- a fault of that number is a misspelling
pub is-misspelled : (e : TraceFault) → number e ≡ number fault.Op → e ≡ fault.Op
is-misspelled fault.Csv h = absurd (omega (arith, h))
is-misspelled fault.Header h = absurd (omega (arith, h))
is-misspelled fault.Fields h = absurd (omega (arith, h))
is-misspelled fault.Name h = absurd (omega (arith, h))
is-misspelled fault.Cost h = absurd (omega (arith, h))
is-misspelled fault.NoOps h = absurd (omega (arith, h))
is-misspelled fault.Op h = refl
is-misspelled fault.SpaceUnknown h = absurd (omega (arith, h))
is-misspelled fault.IndexTooLarge h = absurd (omega (arith, h))
is-misspelled fault.TooManyOps h = absurd (omega (arith, h))
is-misspelled fault.TooManyMessages h = absurd (omega (arith, h))
is-misspelled fault.Release h = absurd (omega (arith, h))
is-misspelled fault.Client h = absurd (omega (arith, h))
is-misspelled fault.Think h = absurd (omega (arith, h))
is-misspelled fault.After h = absurd (omega (arith, h))
is-misspelled fault.TooManyAfter h = absurd (omega (arith, h))

-- one more fits
pub kept-one : (n : ℕ) (list : List Op) (op : Op) → length list ≤ n → list ++ op ∷ [] ≡ take (n + 1) (list ++ op ∷ [])
kept-one n list op h = sym (take_all (n + 1) (list ++ op ∷ []) (omega (arith, length-append list (op ∷ []))))

-- more is left out
pub kept-none : (n : ℕ) (list more : List Op) → n < length list → length list ≤ n + 1 → list ≡ take (n + 1) (list ++ more)
kept-none n list more long few = sym (take_at list more (n + 1) (omega arith))

-- of none none is kept
pub kept-of-none : (most : ℕ) → ◌≡◌ {A = Result (List Op) TraceFault} (Ok []) (Ok (take (most + 1) []))
kept-of-none most = ap Ok (sym (take_all (most + 1) [] (omega arith)))

-- the operations on cells from one on
abbrev pub ops_from : Deed → ℕ → ℕ → ℕ → List Op
ops_from what space index n = map (λ index. op_on what (cell_at space index)) (range_with_len index n)

pub ops_from-more : (what : Deed) (space index last : ℕ) (list : List Op) → index ≤ last
    → (list ++ op_on what (cell_at space index) ∷ []) ++ ops_from what space (index + 1) (last + 1 - (index + 1)) ≡ list ++ ops_from what space index (last + 1 - index)
ops_from-more what space index last list upto =
    let some : last + 1 - index ≡ suc (last + 1 - (index + 1)) = omega arith in
    rw some (append_assoc list (op_on what (cell_at space index) ∷ []) (ops_from what space (index + 1) (last + 1 - (index + 1))))

-- operations within the limit are all kept
pub kept-few : (most : ℕ) (list : List Op) → length (take (most + 1) list) ≤ most → (take (most + 1) list ≡ list) × (length list ≤ most)
kept-few most list h =
    let few : length list ≤ most = omega (arith, length-take (most + 1) list) in
    (take_all (most + 1) list (omega arith), few)

pub kept-many : (most : ℕ) (list : List Op) → most < length (take (most + 1) list) → most < length list
kept-many most list h = omega (arith, length-take (most + 1) list)

-- what the operations kept tell of all
pub ops_of-many : (version : Version) (spaces : List Space) (most : ℕ) (text : List ℕ) (kept : List Op) → (length text == 0) ≡ false → Ok kept ≡ first_ops most (pieces_of version spaces text)
    → most < length kept → ops_of version spaces most text ≡ Err fault.TooManyOps
unfolding ops_of
ops_of-many version spaces most text kept some is many = rw some (by (pieces_of version spaces text) is)
  where
    by : (r : Result (List Op) TraceFault) → Ok kept ≡ first_ops most r → (r >>= (λ list. if nat_lt most (length list) then Err fault.TooManyOps else Ok list)) ≡ Err fault.TooManyOps
    by (Ok list) e =
        let same : kept ≡ take (most + 1) list = cc in
        rw (lt-ltb most (length list) (kept-many most list (rw (← same) many))) refl
    by (Err f) e = absurd (cc e)

pub ops_of-few : (version : Version) (spaces : List Space) (most : ℕ) (text : List ℕ) (kept : List Op) → (length text == 0) ≡ false → Ok kept ≡ first_ops most (pieces_of version spaces text)
    → length kept ≤ most → ops_of version spaces most text ≡ Ok kept
unfolding ops_of
ops_of-few version spaces most text kept some is few = rw some (by (pieces_of version spaces text) is)
  where
    by : (r : Result (List Op) TraceFault) → Ok kept ≡ first_ops most r → (r >>= (λ list. if nat_lt most (length list) then Err fault.TooManyOps else Ok list)) ≡ Ok kept
    by (Ok list) e =
        let same : kept ≡ take (most + 1) list = cc in
        let all = kept-few most list (rw (← same) few) in
        rw (le-ltb most (length list) all.1) (ap Ok (sym all.0 ∙ sym same))
    by (Err f) e = absurd (cc e)
