-- Layouts with other locks.
use Rattle.std.proofs.Common.{◌≡◌, ℕ, zero, suc, ◌+◌, ◌<◌, ◌≤◌, List, [], ◌∷◌, ◌++◌, append_assoc, drop, get_or, length, refl, ap, sym, ◌∙◌, subst, arith, sum, sum_by}
use Rattle.std.proofs.lemmas.List.{append-nil, drop_all, drop_more}
use Rattle.std.proofs.lemmas.List.Sums.{sum-map}
use Rattle.waff_model.specs.Layout.{Hierarchy, Space, IsLayout, IsSpace, HasFewCells, lockings_of, names_of, sizes_of, spaces_with, with_lockings}
use Rattle.waff_model.specs.declared.locking.Locking.{Locking}

-- names and sizes stay
pub length_with : (spaces : List Space) (lockings : List Locking) → length (spaces_with spaces lockings) ≡ length spaces
length_with [] lockings = refl
length_with (space ∷ spaces) [] = refl
length_with (space ∷ spaces) (locking ∷ lockings) = ap suc (length_with spaces lockings)

pub names_with : (spaces : List Space) (lockings : List Locking) → names_of (spaces_with spaces lockings) ≡ names_of spaces
names_with [] lockings = refl
names_with (space ∷ spaces) [] = refl
names_with (space ∷ spaces) (locking ∷ lockings) = ap (λ rest. space.name ∷ rest) (names_with spaces lockings)

pub sizes_with : (spaces : List Space) (lockings : List Locking) → sizes_of (spaces_with spaces lockings) ≡ sizes_of spaces
sizes_with [] lockings = refl
sizes_with (space ∷ spaces) [] = refl
sizes_with (space ∷ spaces) (locking ∷ lockings) = ap (λ rest. space.size ∷ rest) (sizes_with spaces lockings)

few_with : (spaces : List Space) (lockings : List Locking) → HasFewCells spaces → HasFewCells (spaces_with spaces lockings)
few_with spaces lockings few =
    let size : Space → ℕ = λ space. space.size in
    let same : sum_by size (spaces_with spaces lockings) ≡ sum_by size spaces
    = sym (sum-map size (spaces_with spaces lockings)) ∙ ap sum (sizes_with spaces lockings) ∙ sum-map size spaces in
    omega arith

-- a space keeps all but its locks
space_with : (spaces : List Space) (lockings : List Locking) (i : ℕ) (d : Space) → i < length spaces
    → (locking : Locking) × (get_or (spaces_with spaces lockings) i d ≡ record (get_or spaces i d) { locks = locking })
space_with [] lockings i d inside = absurd (omega (arith, inside))
space_with (space ∷ spaces) [] i d inside = ((get_or (space ∷ spaces) i d).locks, refl)
space_with (space ∷ spaces) (locking ∷ lockings) zero d inside = (locking, refl)
space_with (space ∷ spaces) (locking ∷ lockings) (suc i) d inside = space_with spaces lockings i d (omega (arith, inside))

-- with the locks that they have, spaces are as they are
pub with_their_own : (spaces : List Space) → spaces_with spaces (lockings_of spaces) ≡ spaces
with_their_own [] = refl
with_their_own (space ∷ spaces) = ap (λ rest. space ∷ rest) (with_their_own spaces)

-- space by space
pub spaces_with_more : (made more spaces : List Space) (lockings : List Locking) (s : ℕ) (space new : Space) (d : Locking) → s < length spaces
    → s < length lockings → space ≡ get_or spaces s space → new ≡ record space { locks = get_or lockings s d } → more ≡ made ++ new ∷ []
    → made ++ spaces_with (drop s spaces) (drop s lockings) ≡ spaces_with spaces lockings
    → more ++ spaces_with (drop (s + 1) spaces) (drop (s + 1) lockings) ≡ spaces_with spaces lockings
spaces_with_more made more spaces lockings s space new d inside within is_space is_new is_more before =
    let locking = get_or lockings s d in
    let rest = spaces_with (drop (s + 1) spaces) (drop (s + 1) lockings) in
    let here : spaces_with (drop s spaces) (drop s lockings) ≡ new ∷ rest
    = ap (λ xs. spaces_with xs (drop s lockings)) (drop_more spaces s space inside ∙ ap (λ x. x ∷ drop (s + 1) spaces) (sym is_space))
    ∙ ap (spaces_with (space ∷ drop (s + 1) spaces)) (drop_more lockings s d within)
    ∙ ap (λ x. x ∷ rest) (sym is_new) in
    ap (λ xs. xs ++ rest) is_more
    ∙ append_assoc made (new ∷ []) rest
    ∙ ap (λ xs. made ++ xs) (sym here)
    ∙ before

-- none is left
pub spaces_with_all : (made spaces : List Space) (lockings : List Locking) (s : ℕ) → length spaces ≤ s
    → made ++ spaces_with (drop s spaces) (drop s lockings) ≡ spaces_with spaces lockings → made ≡ spaces_with spaces lockings
spaces_with_all made spaces lockings s past before =
    sym (append-nil made) ∙ ap (λ xs. made ++ spaces_with xs (drop s lockings)) (sym (drop_all s spaces past)) ∙ before

-- it is a layout
pub with_is_layout : (layout : Hierarchy) (lockings : List Locking) → IsLayout layout → IsLayout (with_lockings layout lockings)
with_is_layout layout lockings is =
    let long = length_with layout.spaces lockings in
    record {
      tree = is.tree;
      some = omega (arith, is.some, long);
      few = omega (arith, is.few, long);
      each = λ i d inside.
          let within : i < length layout.spaces = omega (arith, inside, long) in
          let there = space_with layout.spaces lockings i d within in
          let h = is.each i d within in
          subst (IsSpace layout.format layout.tree) (sym there.1) (record {
            named = h.named;
            filled = h.filled;
            size = h.size;
            whole = h.whole;
            unit = h.unit;
            owned = h.owned;
            owners = h.owners;
            affinities = h.affinities;
          });
      different = λ i j d before inside same.
          let within : j < length layout.spaces = omega (arith, inside, long) in
          let at_i = ap (λ (s : Space). s.name) (space_with layout.spaces lockings i d (omega arith)).1 in
          let at_j = ap (λ (s : Space). s.name) (space_with layout.spaces lockings j d within).1 in
          is.different i j d before within (sym at_i ∙ same ∙ at_j);
      cells = λ first. few_with layout.spaces lockings (is.cells first);
    }
