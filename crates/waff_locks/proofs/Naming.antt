-- Of which spaces messages name a cell.
use Rattle.std.proofs.Common.{◌≡◌, ℕ, ◌+◌, ◌-◌, ◌≤◌, ◌||◌, Bool, true, false, List, [], ◌∷◌, ◌++◌, Some, eqb, take, append-nil, refl, ◌∙◌, ap, arith, slice_get}
use Rattle.std.specs.List.{flat_map, list_any}
use Rattle.std.proofs.lemmas.Grind.{flat_map-append}
use Rattle.std.proofs.lemmas.List.{take_more}
use Rattle.std.proofs.lemmas.List.Folds.{list_any-append, list_any_more}
use Rattle.std.proofs.lemmas.Option.{get_or_from_slice_get, slice_get_within}
use Rattle.waff_model.specs.Cells.{cells_of, cells_of_op}
use Rattle.waff_model.specs.declared.cell.Cell.{Cell}
use Rattle.waff_model.specs.declared.message.Message.{Message}
use Rattle.waff_model.specs.declared.op.Op.{Op}
use Rattle.waff_locks.specs.Candidates.{name_space, ops_name}

-- one cell, and two
pub or_one : (a b : Bool) → (a || b) ≡ (a || (b || false))
or_one true b = refl
or_one false true = refl
or_one false false = refl

pub or_two : (a b c : Bool) → ((a || b) || c) ≡ (a || (b || (c || false)))
or_two true b c = refl
or_two false true c = refl
or_two false false true = refl
or_two false false false = refl

pub or_none : (a : Bool) → a ≡ (a || false)
or_none true = refl
or_none false = refl

pub or_more : (a b c : Bool) → ((a || b) || c) ≡ (a || (b || c))
or_more true b c = refl
or_more false true c = refl
or_more false false c = refl

-- one operation more
pub ops_name_more : (ops : List Op) (i : ℕ) (op : Op) (s : ℕ) → slice_get ops i ≡ Some op
    → ops_name (take (i + 1) ops) s ≡ (ops_name (take i ops) s || list_any (λ (cell : Cell). eqb cell.space s) (cells_of_op op))
ops_name_more ops i op s is =
    let test : Cell → Bool = λ cell. eqb cell.space s in
    let within = slice_get_within ops i op is in
    ap (λ xs. list_any test (flat_map cells_of_op xs)) (take_more ops i op within ∙ ap (λ x. take i ops ++ x ∷ []) (get_or_from_slice_get ops i op op is))
    ∙ ap (list_any test) (flat_map-append cells_of_op (take i ops) (op ∷ []) ∙ ap (λ cells. flat_map cells_of_op (take i ops) ++ cells) (append-nil (cells_of_op op)))
    ∙ list_any-append test (cells_of (take i ops)) (cells_of_op op)

-- one message more
pub name_space_more : (messages : List Message) (n : ℕ) (message : Message) (s : ℕ) → 1 ≤ n → slice_get messages (n - 1) ≡ Some message
    → name_space (take n messages) s ≡ (name_space (take (n - 1) messages) s || ops_name message.ops s)
name_space_more messages n message s from is =
    let test : Message → Bool = λ m. ops_name m.ops s in
    let next : n ≡ (n - 1) + 1 = omega arith in
    ap (λ k. name_space (take k messages) s) next
    ∙ list_any_more test messages (n - 1) message (slice_get_within messages (n - 1) message is)
    ∙ ap (λ (m : Message). name_space (take (n - 1) messages) s || ops_name m.ops s) (get_or_from_slice_get messages (n - 1) message message is)
