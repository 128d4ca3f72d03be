-- What holds of the places of all cells of a layout.
use Rattle.std.proofs.Common.{◌≡◌, ◌≢◌, inl, inr, ℕ, zero, suc, true, false, [], ◌∷◌, ◌+◌, ◌-◌, ◌*◌, ◌/◌, ◌%◌, ◌<◌, ◌≤◌, List, All, length, take, Option, Some, None, cond, ltb, option_map, unwrap_or, slice_get, slice_index, position, get_or, refl, ap, ap₂, sym, subst, ◌∙◌, arith, le_refl, div-le_self, div-add-mod'}
use Rattle.std.specs.List.{position_or_len}
use Rattle.std.proofs.lemmas.Bool.{and_parts, cases_order, leb-true, lt-ltb, le-ltb, le-leb, and_from, and_right}
use Rattle.std.proofs.lemmas.List.Quantifiers.{position-Some}
use Rattle.std.proofs.lemmas.List.Sums.{position_or_len_is}
use Rattle.std.proofs.lemmas.Nat.{mod_below, mul-le, row_fits, same_from_place}
use Rattle.std.proofs.lemmas.Option.{get_or_from_slice_get, slice_get-get_or}
use Rattle.waff_model.specs.declared.cell.Cell.{Cell}
use Rattle.waff_model.specs.Layout.{Hierarchy, Space, IsCell, IsLayout, IsLocked, locking_of, owner_of, owners_at, unit_at}
use Rattle.waff_model.specs.Cells.{cells_of}
use Rattle.waff_model.specs.Tree.{AtOrAbove, Excludes}
use Rattle.waff_model.specs.declared.op.Op.{Op}
use Rattle.waff_model.specs.declared.locking.Locking.TheVariants.{Unlocked}
use Rattle.waff_model.specs.declared.message.Message.{Message}
use Rattle.waff_assign.specs.Held.{ExcludeEachOther, Held}
use Rattle.waff_assign.specs.Lowest.{Covers, IsAffinityOf, IsInFootprint, IsUnlockedAmong}
use Rattle.waff_assign.specs.Order.{affinity_of, held_of}
use Rattle.waff_assign.proofs.Holding.{affinities_do}
use Rattle.std.proofs.lemmas.List.Elements.{All-contains}
use Rattle.waff_model.proofs.OwnerLemmas.{space_below}
use Rattle.waff_model.proofs.TreeLemmas.{comparable}
use Rattle.waff_run.specs.Places.{Placing, Striped, files_of, first_at, has_file, place_of, placing_of, striped_from}
use Rattle.waff_run.specs.PlaceLaws.{AreApart, MayRunTogether, PlacesAreFound, lies}
use Rattle.waff_run.specs.declared.places.Spot.{Spot}
use Rattle.waff_run.proofs.Rows.{IsMapped, files_fewer, files_more, files_within, length-striped, lies_in, mapped, row_at, row_there, same_file}

-- no more cells come before one in its file than in its space
pub rank_below : (n unit count : ℕ) → n / unit / count * unit + n % unit ≤ n
rank_below n unit count =
    let fewer = mul-le (n / unit / count) unit (n / unit) unit (div-le_self (n / unit) count) (le_refl unit) in
    omega (arith, fewer, div-add-mod' n unit)

-- cells of one space that have one place and one rank are one
same_index : (unit count i j : ℕ) → 0 < unit → i / unit % count ≡ j / unit % count
    → i / unit / count * unit + i % unit ≡ j / unit / count * unit + j % unit → i ≡ j
same_index unit count i j whole place rank =
    let both = same_from_place (i / unit / count) (i % unit) (j / unit / count) (j % unit) unit (mod_below i unit whole) (mod_below j unit whole) rank in
    let run : i / unit ≡ j / unit
    = sym (div-add-mod' (i / unit) count) ∙ ap₂ (λ a b. a * count + b) both.0 place ∙ div-add-mod' (j / unit) count in
    sym (div-add-mod' i unit) ∙ ap₂ (λ a b. a * unit + b) run both.1 ∙ div-add-mod' j unit

owner_by : (o : Option Space) (i j : ℕ)
    → i / unwrap_or (option_map (λ (s : Space). s.unit) o) 0 % unwrap_or (option_map (λ (s : Space). length s.to) o) 0
    ≡ j / unwrap_or (option_map (λ (s : Space). s.unit) o) 0 % unwrap_or (option_map (λ (s : Space). length s.to) o) 0
    → unwrap_or (option_map (λ (s : Space). slice_index s.to (i / s.unit % length s.to)) o) 0
    ≡ unwrap_or (option_map (λ (s : Space). slice_index s.to (j / s.unit % length s.to)) o) 0
owner_by None i j same = refl
owner_by (Some space) i j same = ap (slice_index space.to) same

-- the place of the cell with this index in the list of the map of space s, and its rank in the file
abbrev place : List Space → ℕ → ℕ → ℕ
place spaces s i = i / unit_at spaces s % owners_at spaces s

abbrev rank : List Space → ℕ → ℕ → ℕ
rank spaces s i = i / unit_at spaces s / owners_at spaces s * unit_at spaces s + i % unit_at spaces s

abbrev at : ℕ → ℕ → Cell
at s i = record { space = s; index = i }

owner_by_place : (spaces : List Space) (s t i j : ℕ) → s ≡ t → place spaces s i ≡ place spaces t j → owner_of spaces (at s i) ≡ owner_of spaces (at t j)
owner_by_place spaces s t i j same =
    subst (λ t. place spaces s i ≡ place spaces t j → owner_of spaces (at s i) ≡ owner_of spaces (at t j)) same
    (λ places. owner_by (slice_get spaces s) i j places)

index_by_place : (spaces : List Space) (s t i j : ℕ) → 0 < unit_at spaces s → s ≡ t → place spaces s i ≡ place spaces t j → rank spaces s i ≡ rank spaces t j → i ≡ j
index_by_place spaces s t i j whole same =
    subst (λ t. place spaces s i ≡ place spaces t j → rank spaces s i ≡ rank spaces t j → i ≡ j) same
    (λ places ranks. same_index (unit_at spaces s) (owners_at spaces s) i j whole places ranks)

module _ (layout : Hierarchy) (bytes : ℕ) (is : IsLayout layout) where
  there : (cell : Cell) → IsCell layout.spaces cell → cell.space < length layout.spaces
  there cell is_cell = space_below layout.spaces cell.space cell.index is_cell

  map_there : (cell : Cell) → IsCell layout.spaces cell → IsMapped layout.spaces cell.space
  map_there cell is_cell = mapped layout.tree layout.spaces cell.space is.each (there cell is_cell)

  place_below : (cell : Cell) → IsCell layout.spaces cell → place layout.spaces cell.space cell.index < owners_at layout.spaces cell.space
  place_below cell is_cell =
      mod_below (cell.index / unit_at layout.spaces cell.space) (owners_at layout.spaces cell.space) (map_there cell is_cell).some

  file_of : (cell : Cell) → IsCell layout.spaces cell → (lies layout bytes cell).file ≡ files_of (take cell.space layout.spaces) + place layout.spaces cell.space cell.index
  file_of cell is_cell =
      let files = files_of (take cell.space layout.spaces) in
      let top : 0 + files + place layout.spaces cell.space cell.index ≡ files + place layout.spaces cell.space cell.index = omega arith in
      ap (λ (spot : Spot). spot.file) (lies_in layout.spaces bytes cell (there cell is_cell)) ∙ top

  byte_of : (cell : Cell) → IsCell layout.spaces cell → (lies layout bytes cell).at ≡ rank layout.spaces cell.space cell.index * bytes
  byte_of cell is_cell = ap (λ (spot : Spot). spot.at) (lies_in layout.spaces bytes cell (there cell is_cell))

  one_place : (one other : Cell) → IsCell layout.spaces one → IsCell layout.spaces other → (lies layout bytes one).file ≡ (lies layout bytes other).file
      → (one.space ≡ other.space) × (place layout.spaces one.space one.index ≡ place layout.spaces other.space other.index)
  one_place one other is_one is_other same =
      same_file layout.spaces one.space (place layout.spaces one.space one.index) other.space (place layout.spaces other.space other.index)
      (place_below one is_one) (place_below other is_other) (sym (file_of one is_one) ∙ same ∙ file_of other is_other)

  pub one_owner : (one other : Cell) → IsCell layout.spaces one → IsCell layout.spaces other → (lies layout bytes one).file ≡ (lies layout bytes other).file
      → owner_of layout.spaces one ≡ owner_of layout.spaces other
  one_owner one other is_one is_other same =
      let both = one_place one other is_one is_other same in
      owner_by_place layout.spaces one.space other.space one.index other.index both.0 both.1

  pub lies_within : (cell : Cell) → IsCell layout.spaces cell → (lies layout bytes cell).file < files_of layout.spaces
  lies_within cell is_cell =
      omega (arith, file_of cell is_cell, place_below cell is_cell, files_within layout.spaces cell.space (there cell is_cell))

  -- of two cells in one file that which comes first ends where the other begins, or before
  first_ends : (one other : Cell) → IsCell layout.spaces one → IsCell layout.spaces other
      → rank layout.spaces one.space one.index < rank layout.spaces other.space other.index → (lies layout bytes one).at + bytes ≤ (lies layout bytes other).at
  first_ends one other is_one is_other first =
      let room = row_fits (rank layout.spaces one.space one.index) bytes (rank layout.spaces other.space other.index) bytes first (le_refl bytes) in
      omega (arith, room, byte_of one is_one, byte_of other is_other)

  pub apart : (one other : Cell) → IsCell layout.spaces one → IsCell layout.spaces other → one ≢ other → AreApart bytes (lies layout bytes one) (lies layout bytes other)
  apart one other is_one is_other differ same =
      let both = one_place one other is_one is_other same in
      elim (cases_order (rank layout.spaces one.space one.index) (rank layout.spaces other.space other.index)) [
        | inl ranks ↦
            let index = index_by_place layout.spaces one.space other.space one.index other.index (map_there one is_one).whole both.0 both.1 ranks in
            let equal : one ≡ other = ap (λ s. at s one.index) both.0 ∙ ap (λ i. at other.space i) index in
            absurd (differ equal)
        | inr (inl first) ↦ inl (first_ends one other is_one is_other first)
        | inr (inr last) ↦ inr (first_ends other one is_other is_one last)
      ]

  -- all cells of one file have locks, or none
  one_locking : (one other : Cell) → IsCell layout.spaces one → IsCell layout.spaces other → (lies layout bytes one).file ≡ (lies layout bytes other).file
      → locking_of layout.spaces one ≡ locking_of layout.spaces other
  one_locking one other is_one is_other same =
      ap (λ s. unwrap_or (option_map (λ (space : Space). space.locks) (slice_get layout.spaces s)) Unlocked) (one_place one other is_one is_other same).0

  -- affinities that cover a cell without a lock each of one file exclude each other
  pub no_common_file : (a b : ℕ) (ops others : List Op) → All (IsCell layout.spaces) (cells_of ops) → All (IsCell layout.spaces) (cells_of others)
      → Covers layout (IsUnlockedAmong layout (cells_of ops)) a → Covers layout (IsUnlockedAmong layout (cells_of others)) b → ¬ Excludes layout.tree a b
      → (one other : Cell) → IsInFootprint ops one → IsInFootprint others other → ¬ IsLocked layout.spaces one
      → (lies layout bytes one).file ≢ (lies layout bytes other).file
  no_common_file a b ops others cells more covers covers_more free one other has has_more unlocked same =
      let is_one = All-contains (IsCell layout.spaces) (cells_of ops) one cells has in
      let is_other = All-contains (IsCell layout.spaces) (cells_of others) other more has_more in
      let owner = one_owner one other is_one is_other same in
      let locking = one_locking one other is_one is_other same in
      free (comparable layout.tree a b (owner_of layout.spaces other)
      (subst (λ o. AtOrAbove layout.tree a o) owner (covers one (has, unlocked)))
      (covers_more other (has_more, λ locked. unlocked (λ none. locked (sym locking ∙ none)))))

  -- and so do messages that name such cells
  by_affinities : (ops others : List Op) (a b : Option ℕ) (held held_too : Held) → held.affinity ≡ a → held_too.affinity ≡ b
      → All (IsCell layout.spaces) (cells_of ops) → All (IsCell layout.spaces) (cells_of others)
      → IsAffinityOf layout ops a → IsAffinityOf layout others b → ¬ ExcludeEachOther layout.tree held held_too
      → (one other : Cell) → IsInFootprint ops one → IsInFootprint others other → ¬ IsLocked layout.spaces one
      → (lies layout bytes one).file ≢ (lies layout bytes other).file
  by_affinities ops others None b held held_too is is_too cells more all lowest free one other has has_more unlocked same = unlocked (all one has)
  by_affinities ops others (Some a) None held held_too is is_too cells more lowest all free one other has has_more unlocked same =
      let is_one = All-contains (IsCell layout.spaces) (cells_of ops) one cells has in
      let is_other = All-contains (IsCell layout.spaces) (cells_of others) other more has_more in
      unlocked (λ none. all other has_more (sym (one_locking one other is_one is_other same) ∙ none))
  by_affinities ops others (Some a) (Some b) held held_too is is_too cells more lowest lowest_too free one other has has_more unlocked same =
      no_common_file a b ops others cells more lowest.1.covers lowest_too.1.covers
      (λ excludes. free (affinities_do layout.tree held held_too a b is is_too excludes)) one other has has_more unlocked same

  pub no_file_of_both : (messages : List Message) (assigned : List Held) (i j : ℕ) (first second : Message)
      → MayRunTogether layout messages assigned i j first second
      → All (IsCell layout.spaces) (cells_of first.ops) → All (IsCell layout.spaces) (cells_of second.ops)
      → (one other : Cell) → IsInFootprint first.ops one → IsInFootprint second.ops other → ¬ IsLocked layout.spaces one
      → (lies layout bytes one).file ≢ (lies layout bytes other).file
  no_file_of_both messages assigned i j first second may cells more =
      by_affinities first.ops second.ops (affinity_of assigned i) (affinity_of assigned j) (held_of assigned i) (held_of assigned j) refl refl cells more
      (may.assignment.each i first may.from may.at).affinity (may.assignment.each j second may.from_too may.at_too).affinity may.free

-- the file for a place of the map of space s is no file of the spaces before it, and is one of s
module _ (spaces : List Space) (s p : ℕ) (inside : p < owners_at spaces s) (within : s < length spaces) where
  row_read : (k : ℕ) (d : Striped) → k < length spaces → get_or (striped_from 0 spaces) k d ≡ row_at 0 spaces k
  row_read k d below = get_or_from_slice_get (striped_from 0 spaces) k (row_at 0 spaces k) d (row_there 0 spaces k below)

  none_before : (k : ℕ) → k < s → has_file (files_of (take s spaces) + p) (row_at 0 spaces k) ≡ false
  none_before k before =
      let below : k < length spaces = omega arith in
      let more = files_more spaces k below in
      let fewer = files_fewer spaces (suc k) s (omega arith) in
      and_right _ _ (le-ltb (files_of (take s spaces) + p) (0 + files_of (take k spaces) + owners_at spaces k) (omega (arith, more, fewer)))

  has_here : has_file (files_of (take s spaces) + p) (row_at 0 spaces s) ≡ true
  has_here = and_from _ _
      (le-leb (0 + files_of (take s spaces)) (files_of (take s spaces) + p) (omega arith))
      (lt-ltb (files_of (take s spaces) + p) (0 + files_of (take s spaces) + owners_at spaces s) (omega arith))

  found : position (has_file (files_of (take s spaces) + p)) (striped_from 0 spaces) ≡ Some s
  found =
      let rows = striped_from 0 spaces in
      let test = has_file (files_of (take s spaces) + p) in
      let d = row_at 0 spaces s in
      let long = length-striped 0 spaces in
      let first : position_or_len test rows ≡ s = position_or_len_is test rows s d (omega (arith, long))
      (λ k before. ap test (row_read k d (omega arith)) ∙ none_before k before)
      (λ _. ap test (row_read s d within) ∙ has_here) in
      ap (λ n. cond (ltb n (length rows)) (Some n) None) first
      ∙ ap (λ b. cond b (Some s) None) (lt-ltb s (length rows) (omega (arith, long)))

  pub place_found : (bytes : ℕ) → place_of (placing_of spaces bytes) (files_of (take s spaces) + p) ≡ Some (s, p)
  place_found bytes =
      let rows = striped_from 0 spaces in
      let file = files_of (take s spaces) + p in
      let first : first_at rows s ≡ 0 + files_of (take s spaces)
      = ap (λ o. unwrap_or (option_map (λ (row : Striped). row.first) o) 0) (row_there 0 spaces s within) in
      let rest : file - first_at rows s ≡ p = omega (arith, first) in
      ap (option_map (λ s. (s, file - first_at rows s))) found
      ∙ ap (λ n. Some (s, n)) rest

-- the space of a file that was found has the file, and the place is that in its list
pub place_is : (placing : Placing) (file s : ℕ) (row : Striped) → Some s ≡ position (has_file file) placing.spaces → row ≡ get_or placing.spaces s row
    → (row.first ≤ file) × (Some (s, file - row.first) ≡ place_of placing file)
place_is placing file s row found read =
    let (within, passes, none) = position-Some (has_file file) placing.spaces s row (sym found) in
    let test : has_file file row ≡ true = ap (has_file file) read ∙ passes in
    let there : first_at placing.spaces s ≡ row.first
    = ap (λ o. unwrap_or (option_map (λ (r : Striped). r.first) o) 0) (slice_get-get_or placing.spaces s row within)
    ∙ ap (λ (r : Striped). r.first) (sym read) in (
      leb-true row.first file (and_parts _ _ test).0,
      ap (λ n. Some (s, file - n)) (sym there) ∙ ap (option_map (λ s. (s, file - first_at placing.spaces s))) found,
    )

owned_there : (spaces : List Space) (s p : ℕ) → p < owners_at spaces s → s < length spaces
owned_there [] s p inside = absurd (omega arith)
owned_there (space ∷ spaces) zero p inside = omega arith
owned_there (space ∷ spaces) (suc s) p inside = omega (arith, owned_there spaces s p inside)

pub places_found : (layout : Hierarchy) (bytes : ℕ) → PlacesAreFound layout bytes
places_found layout bytes s p inside = place_found layout.spaces s p inside (owned_there layout.spaces s p inside) bytes
