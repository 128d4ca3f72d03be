-- Rows that are not refused give a layout.
use Rattle.std.proofs.Common.{◌≡◌, ◌≢◌, ℕ, zero, suc, zero-add, ◌+◌, ◌*◌, ◌<◌, ◌≤◌, inl, inr, Bool, true, false, not, cond, nat_lt, ◌==◌, ◌||◌, List, [], ◌∷◌, length, map, take, get_or, Some, None, unwrap_or, find, All, AllPairs, Contains, count_by, sum_by, refl, ap, sym, ◌∙◌, arith}
use Rattle.std.specs.Prelude.{is_none, ℤ, pos, negsuc}
use Rattle.std.specs.List.{list_any}
use Rattle.std.specs.Str.{bytes_eq}
use Rattle.std.proofs.lemmas.Bool.{cases_Bool, or_parts}
use Rattle.std.proofs.lemmas.Bool.Decides.{nat_tests}
use Rattle.std.proofs.lemmas.List.{get_or-take, get_or-map, length-map, length-take}
use Rattle.std.proofs.lemmas.List.Elements.{All-map, All-weaker, All-contains}
use Rattle.std.proofs.lemmas.List.Folds.{list_any_at, fold-map}
use Rattle.std.proofs.lemmas.List.Sums.{sum_by-le, sum_by-cons, sum_by_more_le, get_or-le-sum_by}
use Rattle.std.proofs.lemmas.Slice.Eq.{bytes_eq-Decides}
use Rattle.waff_model.specs.declared.limits.TheConstants.{MAX_SPACES, MAX_LARGE_SIZE, MAX_OWNERS}
use Rattle.waff_model.specs.declared.format.Format.{Format}
use Rattle.waff_model.specs.declared.format.Format.TheVariants.{F1, F2, F3}
use Rattle.waff_model.specs.declared.kind.Kind.{Kind}
use Rattle.waff_model.specs.declared.locking.Locking.TheVariants.{Unlocked}
use Rattle.waff_model.specs.declared.layout_rows.SpaceSpec.{SpaceSpec}
use Rattle.waff_model.specs.declared.layout_rows.MapSpec.{MapSpec}
use Rattle.waff_model.specs.Names.{is_name}
use Rattle.waff_model.specs.Tree.{Node, IsTree, number_of}
use Rattle.waff_model.specs.Formats.{max_size_of, max_unit_of}
use Rattle.waff_model.specs.Layout.{Hierarchy, Space, IsSpace, IsLayout, HasFewCells}
use Rattle.waff_model.specs.LayoutRefusal.{within, spaces_named, maps_named, layout_checks, layout_refusal, are_bad_owners, has_too_many_cells}
use Rattle.waff_model.specs.LayoutOf.{owners_of, map_of, space_of, hierarchy_of}
use Rattle.waff_model.proofs.RefusalLemmas.{none_holds}

-- where no element passes, each fails
fails_each : {X : Type 0} (p : X → Bool) (xs : List X) → list_any p xs ≡ false → All (λ x. p x ≡ false) xs
fails_each p xs none k d inside =
    elim (cases_Bool (p (get_or xs k d))) [
      | inl passes ↦ let some : list_any p xs ≡ true = list_any_at p xs k d inside passes in cc
      | inr fails ↦ fails
    ]

not_false : (b : Bool) → not b ≡ false → b ≡ true
not_false true h = refl
not_false false h = absurd (cc)

-- two places that pass count as two
count_two : {X : Type 0} (p : X → Bool) (xs : List X) (i j : ℕ) (d : X) → i < j → j < length xs → p (get_or xs i d) ≡ true → p (get_or xs j d) ≡ true → nat_lt 1 (count_by p xs) ≡ true
count_two {X} p xs i j d before inside at_i at_j =
    let one : X → ℕ = λ x. cond (p x) 1 0 in
    let later : sum_by one (take j xs) + one (get_or xs j d) ≤ sum_by one xs = sum_by_more_le one xs j d inside in
    let front : i < length (take j xs) = simp length-take (omega arith) in
    let earlier : one (get_or (take j xs) i d) ≤ sum_by one (take j xs) = get_or-le-sum_by one (take j xs) i d front in
    let same : get_or (take j xs) i d ≡ get_or xs i d = get_or-take j xs i d before in
    let one_i : one (get_or (take j xs) i d) ≡ 1 = ap one same ∙ ap (λ b. cond b 1 0) at_i in
    let one_j : one (get_or xs j d) ≡ 1 = ap (λ b. cond b 1 0) at_j in
    let two : 1 < count_by p xs = omega arith in
    grind (arith, nat_tests)

-- an element that counts is found
pub found : {X : Type 0} (p : X → Bool) (xs : List X) → (count_by p xs == 0) ≡ false → (x : X) × (find p xs ≡ Some x) × Contains xs x
found p [] none = absurd (cc)
found {X} p (x ∷ xs) counted =
    elim (cases_Bool (p x)) [
      | inl passes ↦ (x, (ap (λ b. cond b (Some x) (find p xs)) passes), (0, omega arith, refl))
      | inr fails ↦
          let less : count_by p (x ∷ xs) ≡ count_by p xs = sum_by-cons (λ y. cond (p y) 1 0) x xs ∙ ap (λ b. cond b 1 0 + count_by p xs) fails ∙ zero-add (count_by p xs) in
          let rest : (y : X) × (find p xs ≡ Some y) × Contains xs y = found p xs (ap (λ n. n == 0) (sym less) ∙ counted) in
          (rest.0, ap (λ b. cond b (Some x) (find p xs)) fails ∙ rest.1, (suc rest.2.0, omega (arith, rest.2.1), rest.2.2))
    ]

-- where none counts, none is found
pub none_found : {X : Type 0} (p : X → Bool) (xs : List X) → (count_by p xs == 0) ≡ true → find p xs ≡ None
none_found p [] none = refl
none_found {X} p (x ∷ xs) none =
    let one : X → ℕ = λ y. cond (p y) 1 0 in
    let counts : count_by p (x ∷ xs) ≡ one x + count_by p xs = sum_by-cons one x xs in
    elim (cases_Bool (p x)) [
      | inl passes ↦
          let first : one x ≡ 1 = ap (λ b. cond b 1 0) passes in
          let some : 0 < count_by p (x ∷ xs) = omega (arith, counts, first) in
          let fails : (count_by p (x ∷ xs) == 0) ≡ false = grind (arith, nat_tests, some) in
          absurd (cc)
      | inr fails ↦
          let less : count_by p (x ∷ xs) ≡ count_by p xs = counts ∙ ap (λ b. cond b 1 0 + count_by p xs) fails ∙ zero-add (count_by p xs) in
          ap (λ b. cond b (Some x) (find p xs)) fails ∙ none_found p xs (ap (λ n. n == 0) (sym less) ∙ none)
    ]

-- every format has a unit of one cell
unit_below : (format : Format) → 1 ≤ max_unit_of format
unit_below F1 = omega arith
unit_below F2 = omega arith
unit_below F3 = omega arith

-- the root alone is an affinity, where there is one
root_within : (count : ℕ) → 0 < count → All (λ a. a < count) (0 ∷ [])
root_within count some zero d inside = some
root_within count some (suc k) d inside = absurd (omega arith)

-- a number within its limit
is_within : (z : ℤ) (limit : ℕ) → is_none (within z limit) ≡ false → (0 < unwrap_or (within z limit) 0) × (unwrap_or (within z limit) 0 ≤ limit)
is_within (pos n) limit some = grind (arith, nat_tests)
is_within (negsuc n) limit some = absurd (cc)

-- a name that is found is that of an affinity
is_affinity : (tree : List Node) (name : List ℕ) → is_none (number_of tree name) ≡ false → unwrap_or (number_of tree name) 0 < length tree
is_affinity tree name some = grind (arith, nat_tests)

-- owners that are not refused are affinities, within the limit
record AreOwners (tree : List Node) (to : List ℕ) : Type 0 where
  owned : 0 < length to
  owners : length to ≤ MAX_OWNERS
  affinities : All (λ a. a < length tree) to

are_owners : (tree : List Node) (names : List (List ℕ)) → are_bad_owners tree names ≡ false → AreOwners tree (owners_of tree names)
are_owners tree names good =
    let sizes = or_parts (length names == 0 || nat_lt MAX_OWNERS (length names)) (list_any (λ name. is_none (number_of tree name)) names) good in
    let some_few = or_parts (length names == 0) (nat_lt MAX_OWNERS (length names)) sizes.0 in
    record {
      owned = simp length-map (grind (arith, nat_tests, some_few.0));
      owners = simp length-map (grind (arith, nat_tests, some_few.1));
      affinities = All-map (λ a. a < length tree) (λ name. unwrap_or (number_of tree name) 0) names
          (λ k d inside. is_affinity tree (get_or names k d) (fails_each (λ name. is_none (number_of tree name)) names sizes.1 k d inside));
    }

module _ (format : Format) (tree : List Node) (maps : List MapSpec) where
  -- a space of a name and a size within the limits has a space's numbers: those of its map, or of the root where it has none
  is_space : 0 < length tree → (space : SpaceSpec) → not (is_name space.name) ≡ false → is_none (within space.size (max_size_of format)) ≡ false
      → All (λ m. is_none (within m.unit (max_unit_of format)) ≡ false) maps → All (λ m. are_bad_owners tree m.to ≡ false) maps
      → IsSpace format tree (space_of format tree maps space)
  is_space filled space name size units owners =
      let cells = is_within space.size (max_size_of format) size in
      elim (cases_Bool (maps_named maps space.name == 0)) [
        | inl bare ↦
            let none : map_of maps space.name ≡ None = none_found (λ m. bytes_eq m.space space.name) maps bare in
            record {
              named = not_false (is_name space.name) name;
              filled = cells.0;
              size = cells.1;
              whole = rw none (omega arith);
              unit = rw none (unit_below format);
              owned = rw none (omega arith);
              owners = rw none (omega arith);
              affinities = rw none (root_within (length tree) filled);
            }
        | inr mapped ↦
            let mine = found (λ m. bytes_eq m.space space.name) maps mapped in
            let unit = is_within mine.0.unit (max_unit_of format) (All-contains (λ m. is_none (within m.unit (max_unit_of format)) ≡ false) maps mine.0 units mine.2) in
            let to = are_owners tree mine.0.to (All-contains (λ m. are_bad_owners tree m.to ≡ false) maps mine.0 owners mine.2) in
            record {
              named = not_false (is_name space.name) name;
              filled = cells.0;
              size = cells.1;
              whole = rw mine.1 unit.0;
              unit = rw mine.1 unit.1;
              owned = rw mine.1 to.owned;
              owners = rw mine.1 to.owners;
              affinities = rw mine.1 to.affinities;
            }
      ]

  -- spaces that are named once have different names
  are_different : (spaces : List SpaceSpec) → All (λ s. nat_lt 1 (spaces_named spaces s.name) ≡ false) spaces → AllPairs (λ s t. s.name ≢ t.name) (map (space_of format tree maps) spaces)
  are_different spaces once i j d before inside same =
      let none : SpaceSpec = record { name = []; size = pos 0; locks = Unlocked } in
      let inside' : j < length spaces = simp length-map at inside in
      let before' : i < length spaces = omega arith in
      let name : List ℕ = (get_or spaces i none).name in
      let name_i : (get_or (map (space_of format tree maps) spaces) i d).name ≡ name = ap (λ s. s.name) (get_or-map (space_of format tree maps) spaces i none d before') in
      let name_j : (get_or (map (space_of format tree maps) spaces) j d).name ≡ (get_or spaces j none).name = ap (λ s. s.name) (get_or-map (space_of format tree maps) spaces j none d inside') in
      let same_name : (get_or spaces j none).name ≡ name = sym name_j ∙ sym same ∙ name_i in
      let twice : nat_lt 1 (spaces_named spaces name) ≡ true = count_two (λ s. bytes_eq s.name name) spaces i j none before inside' ((bytes_eq-Decides name name).1 refl) ((bytes_eq-Decides (get_or spaces j none).name name).1 same_name) in
      let not_twice : nat_lt 1 (spaces_named spaces name) ≡ false = once i none before' in
      cc

-- no format has larger spaces
pub size_below : (format : Format) → max_size_of format ≤ MAX_LARGE_SIZE
size_below F1 = omega arith
size_below F2 = omega arith
size_below F3 = omega arith

-- how many cells there are at most
pub cells_within : (layout : Hierarchy) → IsLayout layout → sum_by (λ space. space.size) layout.spaces ≤ MAX_SPACES * MAX_LARGE_SIZE
cells_within layout is =
    let each : All (λ (space : Space). space.size ≤ MAX_LARGE_SIZE) layout.spaces
    = All-weaker (IsSpace layout.format layout.tree) (λ space. space.size ≤ MAX_LARGE_SIZE) (λ space h. omega (arith, h.size, size_below layout.format)) layout.spaces is.each in
    let sum = sum_by-le (λ (space : Space). space.size) MAX_LARGE_SIZE layout.spaces each in
    omega (arith, sum, is.few)

-- where there are not too many cells, they are few in format 1
has_few_cells : (format : Format) (tree : List Node) (maps : List MapSpec) (spaces : List SpaceSpec) → has_too_many_cells format spaces ≡ false
    → format ≡ F1 → HasFewCells (map (space_of format tree maps) spaces)
has_few_cells F1 tree maps spaces few is = rw (fold-map (λ a (s : Space). a + s.size) (space_of F1 tree maps) 0 spaces) (grind (arith, nat_tests, few))
has_few_cells F2 tree maps spaces few is = absurd (cc)
has_few_cells F3 tree maps spaces few is = absurd (cc)

-- rows that are not refused give a layout
pub is_layout : (format : Format) (kind : Kind) (tree : List Node) (spaces : List SpaceSpec) (maps : List MapSpec) → IsTree tree → layout_refusal format tree spaces maps ≡ None → IsLayout (hierarchy_of format kind tree spaces maps)
is_layout format kind tree spaces maps is_tree none =
    let checks = none_holds (layout_checks format tree spaces maps) none in
    let counts : Bool = length spaces == 0 || nat_lt MAX_SPACES (length spaces) in
    let bad_name = list_any (λ (s : SpaceSpec). not (is_name s.name)) spaces in
    let strange_map = list_any (λ (m : MapSpec). spaces_named spaces m.space == 0) maps in
    let space = or_parts counts (bad_name || strange_map) checks.0 in
    let count = or_parts (length spaces == 0) (nat_lt MAX_SPACES (length spaces)) space.0 in
    let names = fails_each (λ (s : SpaceSpec). not (is_name s.name)) spaces (or_parts bad_name strange_map space.1).0 in
    let sizes = fails_each (λ (s : SpaceSpec). is_none (within s.size (max_size_of format))) spaces checks.1.0 in
    let once = fails_each (λ (s : SpaceSpec). nat_lt 1 (spaces_named spaces s.name)) spaces checks.1.1.0 in
    let units = fails_each (λ (m : MapSpec). is_none (within m.unit (max_unit_of format))) maps checks.1.1.1.1.1.0 in
    let owners = fails_each (λ (m : MapSpec). are_bad_owners tree m.to) maps checks.1.1.1.1.1.1.0 in
    let few : has_too_many_cells format spaces ≡ false = checks.1.1.1.1.1.1.1.0 in
    record {
      tree = is_tree;
      some = simp length-map (grind (arith, nat_tests, count.0));
      few = simp length-map (grind (arith, nat_tests, count.1));
      each = All-map (IsSpace format tree) (space_of format tree maps) spaces
          (λ k d inside. is_space format tree maps is_tree.filled (get_or spaces k d) (names k d inside) (sizes k d inside) units owners);
      different = are_different format tree maps spaces once;
      cells = has_few_cells format tree maps spaces few;
    }
