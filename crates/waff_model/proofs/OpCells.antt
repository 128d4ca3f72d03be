-- The cells of operations, one operation after another.
use Rattle.std.proofs.Common.{◌≡◌, ℕ, zero, suc, ◌+◌, ◌<◌, List, [], ◌∷◌, ◌++◌, Some, slice_get, length, get_or, take, drop, All, Contains, arith, sym, ◌∙◌, ap, subst}
use Rattle.std.proofs.lemmas.Grind.{flat_map-append}
use Rattle.std.proofs.lemmas.List.{take_more, flat_map_more, take-append-drop, length-append, get_or_append_left, get_or-append-add}
use Rattle.std.proofs.lemmas.List.Elements.{Contains-append_left}
use Rattle.std.proofs.lemmas.Option.{slice_get_within, get_or_from_slice_get}
use Rattle.waff_model.specs.Cells.{cells_of, cells_of_op}
use Rattle.waff_model.specs.declared.cell.Cell.{Cell}
use Rattle.waff_model.specs.declared.op.Op.{Op}

-- the cells of one operation more
pub cells_of_more : (before : List Cell) (ops : List Op) (i : ℕ) (op : Op) → slice_get ops i ≡ Some op
    → (before ++ cells_of (take i ops)) ++ cells_of_op op ≡ before ++ cells_of (take (i + 1) ops)
cells_of_more before ops i op is =
    flat_map_more cells_of_op before (take i ops) op
    ∙ ap (λ list. before ++ cells_of list)
    (sym (take_more ops i op (slice_get_within ops i op is) ∙ ap (λ x. take i ops ++ x ∷ []) (get_or_from_slice_get ops i op op is)))

-- what all cells of operations are, the cells of each operation are
module _ (P : Cell → Type 0) where
  pub all_left : (xs ys : List Cell) → All P (xs ++ ys) → All P xs
  all_left xs ys all k d within =
      subst P (get_or_append_left xs ys d k within) (all k d (omega (arith, length-append xs ys)))

  pub all_right : (xs ys : List Cell) → All P (xs ++ ys) → All P ys
  all_right xs ys all k d within =
      subst P (get_or-append-add xs ys k d) (all (length xs + k) d (omega (arith, length-append xs ys)))

  pub cells_at : (ops : List Op) (i : ℕ) (d : Op) → i < length ops → All P (cells_of ops) → All P (cells_of_op (get_or ops i d))
  cells_at [] i d within all = absurd (omega arith)
  cells_at (op ∷ ops) zero d within all = all_left (cells_of_op op) (cells_of ops) all
  cells_at (op ∷ ops) (suc i) d within all = cells_at ops i d (omega arith) (all_right (cells_of_op op) (cells_of ops) all)

  pub cells_of_one : (ops : List Op) (i : ℕ) (op : Op) → slice_get ops i ≡ Some op → All P (cells_of ops) → All P (cells_of_op op)
  cells_of_one ops i op is all =
      subst (λ op. All P (cells_of_op op)) (get_or_from_slice_get ops i op op is) (cells_at ops i op (slice_get_within ops i op is) all)

-- the cells of the first operations are cells of all
pub among_all : (ops : List Op) (i : ℕ) (cell : Cell) → Contains (cells_of (take i ops)) cell → Contains (cells_of ops) cell
among_all ops i cell there =
    subst (λ xs. Contains xs cell)
    (sym (flat_map-append cells_of_op (take i ops) (drop i ops)) ∙ ap (λ xs. cells_of xs) (take-append-drop i ops))
    (Contains-append_left (cells_of (take i ops)) (cells_of (drop i ops)) cell there)
