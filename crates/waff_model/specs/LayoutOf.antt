-- The layout that rows of spaces and maps stand for.
use Rattle.std.specs.Prelude.{ℕ, List, [], ◌∷◌, Option, Some, None, option_map, unwrap_or, map, find}
use Rattle.std.specs.Prelude.{Result, Ok, Err}
use Rattle.std.specs.Str.{bytes_eq}
use Rattle.waff_model.specs.Tree.{Node, number_of}
use Rattle.waff_model.specs.Layout.{Space, Hierarchy}
use Rattle.waff_model.specs.LayoutRefusal.{size_of, unit_of, layout_refusal}
use Rattle.waff_model.specs.declared.format.Format.{Format}
use Rattle.waff_model.specs.declared.kind.Kind.{Kind}
use Rattle.waff_model.specs.declared.layout_rows.SpaceSpec.{SpaceSpec}
use Rattle.waff_model.specs.declared.layout_rows.MapSpec.{MapSpec}
use Rattle.waff_model.specs.declared.layout_rows.LayoutError.{LayoutError}

-- the numbers of the affinities with these names
abbrev pub owners_of : List Node → List (List ℕ) → List ℕ
owners_of tree names = map (λ name. unwrap_or (number_of tree name) 0) names

-- the map of the space with this name
abbrev pub map_of : List MapSpec → List ℕ → Option MapSpec
map_of maps name = find (λ m. bytes_eq m.space name) maps

-- the space of a row, with its map: where it has none, all its cells go to the root
abbrev pub space_of : Format → List Node → List MapSpec → SpaceSpec → Space
space_of format tree maps space = record {
  name = space.name;
  size = size_of format space;
  unit = unwrap_or (option_map (unit_of format) (map_of maps space.name)) 1;
  to = unwrap_or (option_map (λ m. owners_of tree m.to) (map_of maps space.name)) (0 ∷ []);
  locks = space.locks;
}

-- the layout of these rows over the tree, where none of them is refused
abbrev pub hierarchy_of : Format → Kind → List Node → List SpaceSpec → List MapSpec → Hierarchy
hierarchy_of format kind tree spaces maps = record {
  format = format;
  kind = kind;
  tree = tree;
  spaces = map (space_of format tree maps) spaces;
}

-- the layout of these rows over the tree, or why they give none
abbrev pub layout_of : Format → Kind → List Node → List SpaceSpec
    → List MapSpec → Result Hierarchy LayoutError
layout_of format kind tree spaces maps = answer (layout_refusal format tree spaces maps)
  where
    answer : Option LayoutError → Result Hierarchy LayoutError
    answer None = Ok (hierarchy_of format kind tree spaces maps)
    answer (Some refusal) = Err refusal
