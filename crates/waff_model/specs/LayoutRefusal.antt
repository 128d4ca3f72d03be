-- Why rows of spaces and maps are no layout: the checks, in their order.
use Rattle.std.specs.Prelude.{ℕ, ℤ, pos, negsuc, Bool, false, List, [], ◌∷◌, length, Option, Some, None}
use Rattle.std.specs.Prelude.{is_none, unwrap_or, count_by, sum_by, not, ◌==◌, nat_le, nat_lt, ◌&&◌}
use Rattle.std.specs.Prelude.{◌||◌, if◌then◌else◌}
use Rattle.std.specs.List.{list_any}
use Rattle.std.specs.Str.{bytes_eq}
use Rattle.waff_model.specs.Names.{is_name}
use Rattle.waff_model.specs.Refusals.{first_refusal}
use Rattle.waff_model.specs.Tree.{Node, number_of}
use Rattle.waff_model.specs.Formats.{max_size_of, max_unit_of}
use Rattle.waff_model.specs.Layout.{are_locked}
use Rattle.waff_model.specs.declared.limits.TheConstants.{MAX_SPACES, MAX_CELLS, MAX_OWNERS}
use Rattle.waff_model.specs.declared.format.Format.{Format}
use Rattle.waff_model.specs.declared.format.Format.TheVariants.{F1, F2, F3}
use Rattle.waff_model.specs.declared.layout_rows.SpaceSpec.{SpaceSpec}
use Rattle.waff_model.specs.declared.layout_rows.MapSpec.{MapSpec}
use Rattle.waff_model.specs.declared.layout_rows.LayoutError.{LayoutError}
use Rattle.waff_model.specs.declared.layout_rows.LayoutError.TheVariants as refusal

-- the number, if it is one from 1 to the limit
abbrev pub within : ℤ → ℕ → Option ℕ
within (pos n) limit = if nat_le 1 n && nat_le n limit then Some n else None
within (negsuc n) limit = None

-- the size of a space, 0 where it is not within the limit
abbrev pub size_of : Format → SpaceSpec → ℕ
size_of format space = unwrap_or (within space.size (max_size_of format)) 0

-- the unit of a map, 0 where it is not within the limit
abbrev pub unit_of : Format → MapSpec → ℕ
unit_of format m = unwrap_or (within m.unit (max_unit_of format)) 0

-- how many of the spaces have this name, and how many of the maps are for the space of this name
abbrev pub spaces_named : List SpaceSpec → List ℕ → ℕ
spaces_named spaces name = count_by (λ s. bytes_eq s.name name) spaces

abbrev pub maps_named : List MapSpec → List ℕ → ℕ
maps_named maps name = count_by (λ m. bytes_eq m.space name) maps

-- no space, too many, one whose name is no name, or a map for none of them
abbrev pub has_bad_space : List SpaceSpec → List MapSpec → Bool
has_bad_space spaces maps =
    (length spaces == 0 || nat_lt MAX_SPACES (length spaces))
    || (list_any (λ s. not (is_name s.name)) spaces
    || list_any (λ m. spaces_named spaces m.space == 0) maps)

-- a size outside its limit
abbrev pub has_bad_size : Format → List SpaceSpec → Bool
has_bad_size format spaces = list_any (λ s. is_none (within s.size (max_size_of format))) spaces

-- a space whose name another has too
abbrev pub has_space_twice : List SpaceSpec → Bool
has_space_twice spaces = list_any (λ s. nat_lt 1 (spaces_named spaces s.name)) spaces

-- a space without locks and without map
abbrev pub has_no_map : List SpaceSpec → List MapSpec → Bool
has_no_map spaces maps = list_any (λ s. not (are_locked s.locks) && maps_named maps s.name == 0) spaces

-- a space with two maps
abbrev pub has_map_twice : List SpaceSpec → List MapSpec → Bool
has_map_twice spaces maps = list_any (λ s. nat_lt 1 (maps_named maps s.name)) spaces

-- a unit outside its limit
abbrev pub has_bad_unit : Format → List MapSpec → Bool
has_bad_unit format maps = list_any (λ m. is_none (within m.unit (max_unit_of format))) maps

-- owners of a map: none, too many, or one that is no affinity
abbrev pub are_bad_owners : List Node → List (List ℕ) → Bool
are_bad_owners tree to =
    (length to == 0 || nat_lt MAX_OWNERS (length to))
    || list_any (λ name. is_none (number_of tree name)) to

-- a map whose owners are bad
abbrev pub has_bad_owners : List Node → List MapSpec → Bool
has_bad_owners tree maps = list_any (λ m. are_bad_owners tree m.to) maps

-- more cells over all spaces than the limit, which format 1 alone has
abbrev pub has_too_many_cells : Format → List SpaceSpec → Bool
has_too_many_cells F1 spaces = nat_lt MAX_CELLS (sum_by (size_of F1) spaces)
has_too_many_cells F2 spaces = false
has_too_many_cells F3 spaces = false

-- what is checked before rows become a layout over the tree, in order
abbrev pub layout_checks : Format → List Node → List SpaceSpec
    → List MapSpec → List (Bool × LayoutError)
layout_checks format tree spaces maps =
    (has_bad_space spaces maps, refusal.Space)
    ∷ (has_bad_size format spaces, refusal.Size)
    ∷ (has_space_twice spaces, refusal.SpaceTwice)
    ∷ (has_no_map spaces maps, refusal.NoMap)
    ∷ (has_map_twice spaces maps, refusal.MapTwice)
    ∷ (has_bad_unit format maps, refusal.Unit)
    ∷ (has_bad_owners tree maps, refusal.To)
    ∷ (has_too_many_cells format spaces, refusal.TooManyCells)
    ∷ []

-- why these rows give no layout over the tree
abbrev pub layout_refusal : Format → List Node → List SpaceSpec
    → List MapSpec → Option LayoutError
layout_refusal format tree spaces maps = first_refusal (layout_checks format tree spaces maps)
