-- The order of cells, and the cells of one owner in it.
use Rattle.std.proofs.Common.{◌≡◌, ℕ, zero, suc, ◌+◌, ◌-◌, ◌<◌, ◌≤◌, inl, inr, cond, eqb, List, [], ◌∷◌, ◌++◌, length, take, get_or, sum_by, refl, ap, sym, subst, ◌∙◌, arith, length-append, eq-eqb, zero-add, ◌≢◌}
use Rattle.std.proofs.lemmas.Bool.{cases_Bool, cases_lt, cases_order, eqb-true, ne_eqb}
use Rattle.std.proofs.lemmas.List.{get_or_append_left, get_or-append-add, take-take, take_all}
use Rattle.std.proofs.lemmas.List.Sums.{sum_by-cons, sum_by-take-le, count_by_more_yes, count_by_more_no, count_by-le-length}
use Rattle.std.proofs.lemmas.List.FromFn.{length-map-range_with_len, get_or-map-range_with_len}
use Rattle.waff_model.specs.declared.cell.Cell.{Cell}
use Rattle.waff_model.specs.Layout.{Space, IsCell, size_at, owner_at, owner_of}
use Rattle.waff_model.specs.Parcel.{owners_across, owners_in, cells_ahead, cells_before, count_of, parcel_size, owned_among, offset_of}

length-owners_across : (space : Space) → length (owners_across space) ≡ space.size
length-owners_across space = length-map-range_with_len (owner_at space) 0 space.size

-- there are as many owners as cells
length-owners_in : (spaces : List Space) → length (owners_in spaces) ≡ sum_by (λ space. space.size) spaces
length-owners_in [] = refl
length-owners_in (space ∷ spaces) =
    let parts : length (owners_in (space ∷ spaces)) ≡ length (owners_across space) + length (owners_in spaces) = length-append (owners_across space) (owners_in spaces) in
    let first = length-owners_across space in
    let more = length-owners_in spaces in
    let sum = sum_by-cons (λ (s : Space). s.size) space spaces in
    omega arith

cells_ahead-cons : (space : Space) (spaces : List Space) (s : ℕ) → cells_ahead (space ∷ spaces) (suc s) ≡ space.size + cells_ahead spaces s
cells_ahead-cons space spaces s = sum_by-cons (λ (s : Space). s.size) space (take s spaces)

-- the cells of one space more
ahead_more : (spaces : List Space) (s : ℕ) → s < length spaces → cells_ahead spaces (suc s) ≡ cells_ahead spaces s + size_at spaces s
ahead_more [] s within = absurd (omega arith)
ahead_more (space ∷ spaces) zero within = omega (arith, cells_ahead-cons space spaces zero)
ahead_more (space ∷ spaces) (suc s) within =
    omega (arith, cells_ahead-cons space spaces (suc s), cells_ahead-cons space spaces s, ahead_more spaces s (omega arith))

-- a cell stands among all cells
before_all : (spaces : List Space) (s i : ℕ) → i < size_at spaces s → cells_ahead spaces s + i < sum_by (λ space. space.size) spaces
before_all [] s i within = absurd (omega arith)
before_all (space ∷ spaces) zero i within =
    let sum = sum_by-cons (λ (s : Space). s.size) space spaces in omega arith
before_all (space ∷ spaces) (suc s) i within =
    let ahead = cells_ahead-cons space spaces s in
    let more = before_all spaces s i within in
    let sum = sum_by-cons (λ (s : Space). s.size) space spaces in
    omega arith

-- the owner that stands at a cell's number in the order is its owner
owner_stands : (spaces : List Space) (s i : ℕ) → i < size_at spaces s → get_or (owners_in spaces) (cells_ahead spaces s + i) 0 ≡ owner_of spaces (record { space = s; index = i })
owner_stands [] s i within = absurd (omega arith)
owner_stands (space ∷ spaces) zero i within =
    let inside : i < length (owners_across space) = omega (arith, length-owners_across space) in
    ap (λ n. get_or (owners_across space ++ owners_in spaces) n 0) (zero-add i)
    ∙ get_or_append_left (owners_across space) (owners_in spaces) 0 i inside
    ∙ get_or-map-range_with_len (owner_at space) 0 space.size i i 0 within (zero-add i)
owner_stands (space ∷ spaces) (suc s) i within =
    let number : cells_ahead (space ∷ spaces) (suc s) + i ≡ length (owners_across space) + (cells_ahead spaces s + i)
    = omega (arith, cells_ahead-cons space spaces s, length-owners_across space) in
    ap (λ n. get_or (owners_across space ++ owners_in spaces) n 0) number
    ∙ get_or-append-add (owners_across space) (owners_in spaces) (cells_ahead spaces s + i) 0
    ∙ owner_stands spaces s i within

-- two cells with one number in the order are the same
same_number : (spaces : List Space) (s i t j : ℕ) → i < size_at spaces s → j < size_at spaces t → cells_ahead spaces s + i ≡ cells_ahead spaces t + j → (s ≡ t) × (i ≡ j)
same_number [] s i t j one other same = absurd (omega arith)
same_number (space ∷ spaces) zero i zero j one other same = (refl, omega arith)
same_number (space ∷ spaces) zero i (suc t) j one other same = absurd (omega (arith, cells_ahead-cons space spaces t))
same_number (space ∷ spaces) (suc s) i zero j one other same = absurd (omega (arith, cells_ahead-cons space spaces s))
same_number (space ∷ spaces) (suc s) i (suc t) j one other same =
    let rest : cells_ahead spaces s + i ≡ cells_ahead spaces t + j = omega (arith, cells_ahead-cons space spaces s, cells_ahead-cons space spaces t) in
    let both = same_number spaces s i t j one other rest in
    (ap suc both.0, both.1)

-- each number in the order is a cell's
cell_numbered : (spaces : List Space) (k : ℕ) → k < sum_by (λ space. space.size) spaces → (cell : Cell) × IsCell spaces cell × (cells_before spaces cell ≡ k)
cell_numbered [] k within = absurd (omega arith)
cell_numbered (space ∷ spaces) k within =
    elim (cases_lt k space.size) [
      | inl here ↦ (record { space = 0; index = k }, here, zero-add k)
      | inr later ↦
          let sum = sum_by-cons (λ (s : Space). s.size) space spaces in
          let (cell, is_cell, number) = cell_numbered spaces (k - space.size) (omega arith) in
          (record { space = suc cell.space; index = cell.index }, is_cell, omega (arith, cells_ahead-cons space spaces cell.space))
    ]

-- one more cell of a
count_more : (owners : List ℕ) (k a : ℕ) → k < length owners → get_or owners k 0 ≡ a → count_of a (take (k + 1) owners) ≡ count_of a (take k owners) + 1
count_more owners k a within owned = count_by_more_yes (λ owner. eqb owner a) owners k 0 within (eq-eqb (get_or owners k 0) a owned)

-- fewer of a's cells come before the earlier of two numbers, where the cell there is a's
count_less : (owners : List ℕ) (k n a : ℕ) → k < n → k < length owners → get_or owners k 0 ≡ a → count_of a (take k owners) < count_of a (take n owners)
count_less owners k n a before within owned =
    let one = count_more owners k a within owned in
    let less : count_of a (take (k + 1) (take n owners)) ≤ count_of a (take n owners) = sum_by-take-le (λ owner. cond (eqb owner a) 1 0) (take n owners) (k + 1) in
    let same : count_of a (take (k + 1) (take n owners)) ≡ count_of a (take (k + 1) owners) = ap (count_of a) (take-take (k + 1) n owners (omega arith)) in
    omega arith

count_whole : (owners : List ℕ) (k a : ℕ) → k < length owners → get_or owners k 0 ≡ a → count_of a (take k owners) < count_of a owners
count_whole owners k a within owned =
    let one = count_more owners k a within owned in
    let less : count_of a (take (k + 1) owners) ≤ count_of a owners = sum_by-take-le (λ owner. cond (eqb owner a) 1 0) owners (k + 1) in
    omega arith

-- each number below the count of a is how many of a's cells come before one of them
count_reached : (owners : List ℕ) (a n : ℕ) → n < count_of a owners → (k : ℕ) × (k < length owners) × (get_or owners k 0 ≡ a) × (count_of a (take k owners) ≡ n)
count_reached [] a n below = absurd (omega arith)
count_reached (owner ∷ owners) a n below =
    let sum = sum_by-cons (λ owner. cond (eqb owner a) 1 0) owner owners in
    elim (cases_Bool (eqb owner a)) [
      | inl same ↦
          let one : count_of a (owner ∷ owners) ≡ 1 + count_of a owners = sum ∙ ap (λ b. cond b 1 0 + count_of a owners) same in
          elim n as (λ n. n < count_of a (owner ∷ owners) → (k : ℕ) × (k < length (owner ∷ owners)) × (get_or (owner ∷ owners) k 0 ≡ a) × (count_of a (take k (owner ∷ owners)) ≡ n)) [
            | zero ↦ λ below. (0, omega arith, eqb-true owner a same, refl)
            | suc n ↦ λ below.
                let (k, within, owned, count) = count_reached owners a n (omega arith) in
                let more : count_of a (owner ∷ take k owners) ≡ 1 + count_of a (take k owners) = sum_by-cons (λ owner. cond (eqb owner a) 1 0) owner (take k owners) ∙ ap (λ b. cond b 1 0 + count_of a (take k owners)) same in
                (suc k, omega arith, owned, omega arith)
          ] below
      | inr other ↦
          let none : count_of a (owner ∷ owners) ≡ 0 + count_of a owners = sum ∙ ap (λ b. cond b 1 0 + count_of a owners) other in
          let (k, within, owned, count) = count_reached owners a n (omega arith) in
          let more : count_of a (owner ∷ take k owners) ≡ 0 + count_of a (take k owners) = sum_by-cons (λ owner. cond (eqb owner a) 1 0) owner (take k owners) ∙ ap (λ b. cond b 1 0 + count_of a (take k owners)) other in
          (suc k, omega arith, owned, omega arith)
    ]

module _ (spaces : List Space) where
  cells_before-all : (cell : Cell) → IsCell spaces cell → cells_before spaces cell < length (owners_in spaces)
  cells_before-all cell is_cell = omega (arith, length-owners_in spaces, before_all spaces cell.space cell.index is_cell)

  owner_of_number : (cell : Cell) → IsCell spaces cell → get_or (owners_in spaces) (cells_before spaces cell) 0 ≡ owner_of spaces cell
  owner_of_number cell is_cell = owner_stands spaces cell.space cell.index is_cell

  next_number : (cell : Cell) → cells_before spaces cell + 1 ≡ cells_ahead spaces cell.space + (cell.index + 1)
  next_number cell = omega arith

  -- one cell more counts for its owner, and for no other
  pub owned_more : (cell : Cell) → IsCell spaces cell → (a : ℕ) → owner_of spaces cell ≡ a → owned_among spaces (cells_ahead spaces cell.space + (cell.index + 1)) a ≡ owned_among spaces (cells_before spaces cell) a + 1
  owned_more cell is_cell a owned =
      ap (λ k. owned_among spaces k a) (sym (next_number cell))
      ∙ count_more (owners_in spaces) (cells_before spaces cell) a (cells_before-all cell is_cell) (owner_of_number cell is_cell ∙ owned)

  pub owned_same : (cell : Cell) → IsCell spaces cell → (a : ℕ) → owner_of spaces cell ≢ a → owned_among spaces (cells_ahead spaces cell.space + (cell.index + 1)) a ≡ owned_among spaces (cells_before spaces cell) a
  owned_same cell is_cell a other =
      ap (λ k. owned_among spaces k a) (sym (next_number cell))
      ∙ count_by_more_no (λ owner. eqb owner a) (owners_in spaces) (cells_before spaces cell) 0 (cells_before-all cell is_cell)
      (ne_eqb (get_or (owners_in spaces) (cells_before spaces cell) 0) a (λ same. other (sym (owner_of_number cell is_cell) ∙ same)))

  pub ahead_of_next : (s : ℕ) → s < length spaces → cells_ahead spaces (s + 1) ≡ cells_ahead spaces s + size_at spaces s
  ahead_of_next s within = let next : s + 1 ≡ suc s = omega arith in ap (cells_ahead spaces) next ∙ ahead_more spaces s within

  -- no affinity owns more cells than there are
  pub owned_few : (k a : ℕ) → owned_among spaces k a ≤ sum_by (λ space. space.size) spaces
  owned_few k a =
      omega (arith, sum_by-take-le (λ owner. cond (eqb owner a) 1 0) (owners_in spaces) k, count_by-le-length (λ owner. eqb owner a) (owners_in spaces), length-owners_in spaces)

  -- all cells are among those of all spaces
  pub owned_all : (n a : ℕ) → length spaces ≤ n → owned_among spaces (cells_ahead spaces n) a ≡ parcel_size spaces a
  owned_all n a all =
      let cells : cells_ahead spaces n ≡ sum_by (λ space. space.size) spaces = ap (sum_by (λ (space : Space). space.size)) (take_all n spaces all) in
      ap (count_of a) (take_all (cells_ahead spaces n) (owners_in spaces) (omega (arith, cells, length-owners_in spaces)))

  -- a cell's offset is below the size of its owner's parcel
  pub offset_within : (cell : Cell) → IsCell spaces cell → offset_of spaces cell < parcel_size spaces (owner_of spaces cell)
  offset_within cell is_cell = count_whole (owners_in spaces) (cells_before spaces cell) (owner_of spaces cell) (cells_before-all cell is_cell) (owner_of_number cell is_cell)

  earlier_offset : (one other : Cell) → IsCell spaces one → owner_of spaces one ≡ owner_of spaces other → cells_before spaces one < cells_before spaces other → offset_of spaces one < offset_of spaces other
  earlier_offset one other is_one same before =
      subst (λ a. offset_of spaces one < count_of a (take (cells_before spaces other) (owners_in spaces))) same
      (count_less (owners_in spaces) (cells_before spaces one) (cells_before spaces other) (owner_of spaces one) before (cells_before-all one is_one) (owner_of_number one is_one))

  -- two cells of one owner with one offset are the same
  pub same_offset : (one other : Cell) → IsCell spaces one → IsCell spaces other → owner_of spaces one ≡ owner_of spaces other → offset_of spaces one ≡ offset_of spaces other → one ≡ other
  same_offset one other is_one is_other owner offset =
      elim (cases_order (cells_before spaces one) (cells_before spaces other)) [
        | inl same ↦
            let both = same_number spaces one.space one.index other.space other.index is_one is_other same in
            let at : ℕ → ℕ → Cell = λ s i. record { space = s; index = i } in
            ap (λ s. at s one.index) both.0 ∙ ap (λ i. at other.space i) both.1
        | inr (inl before) ↦ absurd (omega (arith, earlier_offset one other is_one owner before))
        | inr (inr after) ↦ absurd (omega (arith, earlier_offset other one is_other (sym owner) after))
      ]

  -- each number below the size of a parcel is the offset of one of its cells
  pub offset_filled : (a n : ℕ) → n < parcel_size spaces a → (cell : Cell) × IsCell spaces cell × (owner_of spaces cell ≡ a) × (offset_of spaces cell ≡ n)
  offset_filled a n below =
      let (k, within, owned, count) = count_reached (owners_in spaces) a n below in
      let (cell, is_cell, number) = cell_numbered spaces k (omega (arith, length-owners_in spaces)) in
      let owner : owner_of spaces cell ≡ a = sym (owner_of_number cell is_cell) ∙ ap (λ n. get_or (owners_in spaces) n 0) number ∙ owned in
      let offset : offset_of spaces cell ≡ n = ap (λ a. count_of a (take (cells_before spaces cell) (owners_in spaces))) owner ∙ ap (λ k. count_of a (take k (owners_in spaces))) number ∙ count in
      (cell, is_cell, owner, offset)
