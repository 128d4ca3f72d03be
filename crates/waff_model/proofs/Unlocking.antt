-- Layouts with no locks.
use Rattle.std.proofs.Common.{◌≡◌, ℕ, ◌<◌, inl, inr, List, [], ◌∷◌, length, map, false, Bool, Some, None, Option, refl, ap, sym, ◌∙◌, arith, sum, sum_by}
use Rattle.std.specs.Prelude.{option_map, slice_get, unwrap_or}
use Rattle.std.proofs.lemmas.Bool.{cases_Bool, true≢false}
use Rattle.std.proofs.lemmas.List.{length-map, get_or-map}
use Rattle.std.proofs.lemmas.List.Elements.{All-map, All-weaker}
use Rattle.std.proofs.lemmas.List.Folds.{list_any_at}
use Rattle.std.proofs.lemmas.Option.{slice_get_within, slice_get-map, get_or_from_slice_get}
use Rattle.std.proofs.lemmas.List.Sums.{sum-map}
use Rattle.waff_model.specs.Layout.{Hierarchy, Space, IsLayout, IsSpace, IsLocked, HasFewCells, size_at, are_locked, has_locks, owner_of, owner_at, sizes_of, names_of, unlocked, unlocked_space}
use Rattle.waff_model.specs.declared.cell.Cell.{Cell}
use Rattle.waff_model.specs.declared.locking.Locking.{Locking}
use Rattle.waff_model.specs.declared.locking.Locking.TheVariants.{Unlocked, Exclusive, Shared}

-- names, sizes and owners stay
pub names_unlocked : (spaces : List Space) → names_of (map unlocked_space spaces) ≡ names_of spaces
names_unlocked [] = refl
names_unlocked (space ∷ spaces) = ap (λ rest. space.name ∷ rest) (names_unlocked spaces)

pub sizes_unlocked : (spaces : List Space) → sizes_of (map unlocked_space spaces) ≡ sizes_of spaces
sizes_unlocked [] = refl
sizes_unlocked (space ∷ spaces) = ap (λ rest. space.size ∷ rest) (sizes_unlocked spaces)

pub few_unlocked : (spaces : List Space) → HasFewCells spaces → HasFewCells (map unlocked_space spaces)
few_unlocked spaces few =
    let size : Space → ℕ = λ space. space.size in
    let same : sum_by size (map unlocked_space spaces) ≡ sum_by size spaces
    = sym (sum-map size (map unlocked_space spaces)) ∙ ap sum (sizes_unlocked spaces) ∙ sum-map size spaces in
    omega arith

pub size_unlocked : (spaces : List Space) (s : ℕ) → size_at (map unlocked_space spaces) s ≡ size_at spaces s
size_unlocked spaces s = rw (slice_get-map unlocked_space spaces s) (by (slice_get spaces s))
  where
    by : (o : Option Space) → unwrap_or (option_map (λ space. space.size) (option_map unlocked_space o)) 0 ≡ unwrap_or (option_map (λ space. space.size) o) 0
    by None = refl
    by (Some space) = refl

pub owner_unlocked : (spaces : List Space) (cell : Cell) → owner_of (map unlocked_space spaces) cell ≡ owner_of spaces cell
owner_unlocked spaces cell = rw (slice_get-map unlocked_space spaces cell.space) (by (slice_get spaces cell.space))
  where
    by : (o : Option Space) → unwrap_or (option_map (λ space. owner_at space cell.index) (option_map unlocked_space o)) 0
        ≡ unwrap_or (option_map (λ space. owner_at space cell.index) o) 0
    by None = refl
    by (Some space) = refl

-- no space has locks
pub none_unlocked : (spaces : List Space) → has_locks (map unlocked_space spaces) ≡ false
none_unlocked [] = refl
none_unlocked (space ∷ spaces) = none_unlocked spaces

-- so no cell has one
not_locked_by : (o : Option Space) → ((space : Space) → o ≡ Some space → are_locked space.locks ≡ false) → unwrap_or (option_map (λ space. space.locks) o) Unlocked ≡ Unlocked
not_locked_by None none = refl
not_locked_by (Some space) none = by space.locks (none space refl)
  where
    by : (locking : Locking) → are_locked locking ≡ false → locking ≡ Unlocked
    by Unlocked is = refl
    by Exclusive is = absurd (true≢false is)
    by Shared is = absurd (true≢false is)

pub none_is_locked : (spaces : List Space) → has_locks spaces ≡ false → (cell : Cell) → ¬ IsLocked spaces cell
none_is_locked spaces none cell locked =
    locked
    (not_locked_by (slice_get spaces cell.space)
    (λ space is. elim (cases_Bool (are_locked space.locks)) [
      | inl has ↦
          let within = slice_get_within spaces cell.space space is in
          let read = get_or_from_slice_get spaces cell.space space space is in
          let locked_at : Space → Bool = λ s. are_locked s.locks in
          absurd (true≢false (sym (list_any_at locked_at spaces cell.space space within (ap locked_at read ∙ has)) ∙ none))
      | inr fine ↦ fine
    ]))

-- it is a layout
pub unlocked_is_layout : (layout : Hierarchy) → IsLayout layout → IsLayout (unlocked layout)
unlocked_is_layout layout is = record {
  tree = is.tree;
  some = omega (arith, is.some, length-map layout.spaces unlocked_space);
  few = omega (arith, is.few, length-map layout.spaces unlocked_space);
  each = All-map (IsSpace layout.format layout.tree) unlocked_space layout.spaces
      (All-weaker (IsSpace layout.format layout.tree) (λ space. IsSpace layout.format layout.tree (unlocked_space space)) (λ space h. record {
        named = h.named;
        filled = h.filled;
        size = h.size;
        whole = h.whole;
        unit = h.unit;
        owned = h.owned;
        owners = h.owners;
        affinities = h.affinities;
      }) layout.spaces is.each);
  different = λ i j d before inside same.
      let j_within : j < length layout.spaces = omega (arith, inside, length-map layout.spaces unlocked_space) in
      let at_i = ap (λ s. s.name) (get_or-map unlocked_space layout.spaces i d d (omega arith)) in
      let at_j = ap (λ s. s.name) (get_or-map unlocked_space layout.spaces j d d j_within) in
      is.different i j d before j_within (sym at_i ∙ same ∙ at_j);
  cells = λ first. few_unlocked layout.spaces (is.cells first);
}
