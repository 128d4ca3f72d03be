-- Locks, and a hyphen that tells a message of no affinity, are of format 3 alone.
use Rattle.std.proofs.Common.{◌≡◌, ◌≢◌, ℕ, true, false, ◌||◌, List, [], ◌∷◌, length, map, get_or, Option, Some, None, Ok, codes, refl, sym, ap, ◌∙◌, arith}
use Rattle.std.specs.Str.{bytes_eq}
use Rattle.std.proofs.lemmas.List.Quantifiers.{position-Some}
use Rattle.std.proofs.lemmas.Option.{slice_get-get_or}
use Rattle.std.proofs.lemmas.Slice.Eq.{bytes_eq-Decides}
use Rattle.toml.specs.Data.{Data}
use Rattle.waff_model.specs.Formats.{may_lock}
use Rattle.waff_model.specs.Layout.{Hierarchy, are_locked, has_locks}
use Rattle.waff_model.specs.LayoutOf as model
use Rattle.waff_model.specs.Tree.{Node, number_of}
use Rattle.waff_model.specs.declared.format.Format.{Format}
use Rattle.waff_model.specs.declared.format.Format.TheVariants.{F1, F2, F3}
use Rattle.waff_model.specs.declared.layout_rows.MapSpec.{MapSpec}
use Rattle.waff_read.specs.Affinities.{is_affinity_name, tree_of}
use Rattle.waff_read.specs.Documents.{rows_at}
use Rattle.waff_read.specs.Formats.{format_of}
use Rattle.waff_read.specs.Laws.{LocksAreOfFormat3, HyphenIsNoAffinity}
use Rattle.waff_read.specs.Spaces.{locks_of, space_of, map_of}
use Rattle.waff_read.proofs.AffinityLaws.{tree_is_exact}
use Rattle.waff_read.proofs.HierarchyLaws.{hierarchy_is_exact, layout_of-made}

may_not_lock : (format : Format) → format ≢ F3 → may_lock format ≡ false
may_not_lock F1 other = refl
may_not_lock F2 other = refl
may_not_lock F3 other = absurd (other refl)

-- where a format has no locks, its rows give none
none_locked : (format : Format) → may_lock format ≡ false → (tree : List Node) (maps : List MapSpec) (rows : List Data)
    → has_locks (map (model.space_of format tree maps) (map (space_of format) rows)) ≡ false
none_locked format without tree maps [] = refl
none_locked format without tree maps (row ∷ rows) =
    let here : are_locked (locks_of format row) ≡ false = rw without refl in
    ap (λ b. b || has_locks (map (model.space_of format tree maps) (map (space_of format) rows))) here ∙ none_locked format without tree maps rows

pub locks_are_of_format_3 : (bytes : List ℕ) (layout : Hierarchy) → LocksAreOfFormat3 bytes layout
locks_are_of_format_3 bytes layout read other =
    let d = (hierarchy_is_exact bytes layout).0 read in
    let format = format_of d.document in
    let rows = rows_at (codes "space") d.document in
    let maps = map map_of (rows_at (codes "map") d.document) in
    let made = layout_of-made format d.kind d.tree (map (space_of format) rows) maps layout d.is_layout in
    let is : layout.format ≡ format = ap (λ (l : Hierarchy). l.format) made in
    ap (λ (l : Hierarchy). has_locks l.spaces) made
    ∙ none_locked format (may_not_lock format (λ third. other (is ∙ third))) d.tree maps rows

abbrev no_node : Node
no_node = record { name = []; parent = None }

-- no affinity of format 3 has a hyphen as its name
no_hyphen : (rows : List Data) (row : Data) (tree : List Node) → tree_of F3 rows ≡ Ok tree → number_of tree (codes "-") ≡ None
no_hyphen rows row tree read = by (number_of tree (codes "-")) refl
  where
    by : (o : Option ℕ) → number_of tree (codes "-") ≡ o → o ≡ None
    by None is = refl
    by (Some a) is =
        let are = ((tree_is_exact F3 rows tree).0 read).1 in
        let found = position-Some (λ (node : Node). bytes_eq (codes "-") node.name) tree a no_node is in
        let node = get_or tree a no_node in
        let count : length tree ≡ length rows = are.count in
        let affinity = are.each a (get_or rows a row) node (slice_get-get_or rows a row (omega (arith, found.0, count))) (slice_get-get_or tree a no_node found.0) in
        let hyphen : codes "-" ≡ node.name = (bytes_eq-Decides (codes "-") node.name).0 found.1 in
        let named : is_affinity_name F3 node.name ≡ true = affinity.named in
        let none : is_affinity_name F3 (codes "-") ≡ true = ap (is_affinity_name F3) hyphen ∙ named in
        absurd (cc none)

pub hyphen_is_no_affinity : (bytes : List ℕ) (layout : Hierarchy) → HyphenIsNoAffinity bytes layout
hyphen_is_no_affinity bytes layout read third =
    let d = (hierarchy_is_exact bytes layout).0 read in
    let format = format_of d.document in
    let affinities = rows_at (codes "affinity") d.document in
    let made =
    layout_of-made format d.kind d.tree (map (space_of format) (rows_at (codes "space") d.document)) (map map_of (rows_at (codes "map") d.document)) layout d.is_layout in
    let is : format ≡ F3 = sym (ap (λ (l : Hierarchy). l.format) made) ∙ third in
    ap (λ (l : Hierarchy). number_of l.tree (codes "-")) made
    ∙ no_hyphen affinities d.document d.tree (ap (λ f. tree_of f affinities) (sym is) ∙ d.is_tree)
