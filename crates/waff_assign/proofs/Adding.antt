-- Cells that are added to a list which may have them.
use Rattle.std.proofs.Common.{◌≡◌, ℕ, inl, inr, List, [], ◌∷◌, ◌++◌, Contains, Some, slice_get, arith, subst, append-nil, length-append}
use Rattle.std.proofs.lemmas.List.Elements.{Contains-append_cases, Contains-append_left, Contains-append_right}
use Rattle.std.proofs.lemmas.Option.{slice_get_within, get_or_from_slice_get}
use Rattle.waff_model.specs.declared.cell.Cell.{Cell}
use Rattle.waff_assign.specs.Uses.{Adds}
use Rattle.waff_assign.proofs.Elements.{in_one}

pub adds_none : (cells : List Cell) → Adds cells cells []
adds_none cells = record {
  each = λ cell. (λ has. rw append-nil has, λ has. rw append-nil at has);
  few = omega arith;
}

-- one that is there
pub adds_there : (cells : List Cell) (place : ℕ) (cell : Cell) → slice_get cells place ≡ Some cell → Adds cells cells (cell ∷ [])
adds_there cells place cell is =
    let there : Contains cells cell = (place, slice_get_within cells place cell is, get_or_from_slice_get cells place cell cell is) in
    record {
      each = λ other. (
        λ has. Contains-append_left cells (cell ∷ []) other has,
        λ has. elim (Contains-append_cases cells (cell ∷ []) other has) [
          | inl before ↦ before
          | inr new ↦ subst (Contains cells) (in_one cell other new) there
        ],
      );
      few = omega arith;
    }

-- one that is appended
pub adds_one : (cells : List Cell) (cell : Cell) → Adds cells (cells ++ cell ∷ []) (cell ∷ [])
adds_one cells cell = record {
  each = λ other. (λ has. has, λ has. has);
  few = omega (arith, length-append cells (cell ∷ []));
}

-- more behind
pub adds_more : (a b c x y : List Cell) → Adds a b x → Adds b c y → Adds a c (x ++ y)
adds_more a b c x y first second = record {
  each = λ cell. (
    λ has. elim (Contains-append_cases b y cell ((second.each cell).0 has)) [
      | inl before ↦ elim (Contains-append_cases a x cell ((first.each cell).0 before)) [
        | inl old ↦ Contains-append_left a (x ++ y) cell old
        | inr new ↦ Contains-append_right a (x ++ y) cell (Contains-append_left x y cell new)
      ]
      | inr new ↦ Contains-append_right a (x ++ y) cell (Contains-append_right x y cell new)
    ],
    λ has. (second.each cell).1 (elim (Contains-append_cases a (x ++ y) cell has) [
      | inl old ↦ Contains-append_left b y cell ((first.each cell).1 (Contains-append_left a x cell old))
      | inr new ↦ elim (Contains-append_cases x y cell new) [
        | inl one ↦ Contains-append_left b y cell ((first.each cell).1 (Contains-append_right a x cell one))
        | inr other ↦ Contains-append_right b y cell other
      ]
    ]),
  );
  few = omega (arith, first.few, second.few, length-append x y);
}
