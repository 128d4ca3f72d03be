-- Trees read row by row.
use Rattle.std.proofs.Common.{◌≡◌, ℕ, ◌+◌, ◌<◌, ◌≤◌, ◌==◌, List, [], ◌∷◌, ◌++◌, length, map, drop, get_or, Bool, true, false, Option, Some, None, Ok, Err, position, refl, ap, sym, ◌∙◌, arith}
use Rattle.std.specs.Prelude.{is_some, if◌then◌else◌}
use Rattle.std.specs.Str.{bytes_eq}
use Rattle.std.proofs.lemmas.Bool.Decides.{nat_tests}
use Rattle.std.proofs.lemmas.List.{drop_more, drop_all}
use Rattle.toml.specs.Data.{Data}
use Rattle.toml.specs.View.{view}
use Rattle.toml.specs.declared.value.Value.{Value}
use Rattle.waff_parse.specs.Stopping.{Stops}
use Rattle.waff_parse.specs.declared.stop.Stop.{Stop}
use Rattle.waff_parse.specs.declared.stop.Stop.TheVariants as stop
use Rattle.waff_model.specs.Tree.{Node, number_of}
use Rattle.waff_model.specs.TreeRefusal.{refusal_of, node_checks}
use Rattle.waff_model.specs.declared.format.Format.{Format}
use Rattle.waff_model.specs.declared.tree.TreeError.{TreeError}
use Rattle.waff_model.specs.declared.tree.TreeError.TheVariants.{Name}
use Rattle.waff_model.proofs.RefusalLemmas.{none_holds}
use Rattle.waff_read.specs.Checks.{passed}
use Rattle.waff_read.specs.Affinities.{is_affinity_name, name_at, node_in, row_refusal, tree_from, tree_of}
use Rattle.waff_model.proofs.NodeEntries.{position-map}

none_unless_some : {A : Type 0} (o : Option A) → is_some o ≡ false → o ≡ None
none_unless_some None h = refl
none_unless_some (Some x) h = absurd (cc)

-- a node that is not refused has a name that is not there
pub new_name : (tree : List Node) (node : Node) (names : List (List ℕ)) → refusal_of tree node ≡ None → names ≡ map (λ n. n.name) tree → position (bytes_eq node.name) names ≡ None
new_name tree node names accepted same =
    let checks = none_holds (node_checks tree node) accepted in
    let absent : number_of tree node.name ≡ None = none_unless_some (number_of tree node.name) checks.1.0 in
    rw same (position-map (bytes_eq node.name) (λ (n : Node). n.name) tree ∙ absent)

-- where a row is not refused, its name is one of an affinity, and the builder does not refuse its node
pub row_accepted : (format : Format) (tree : List Node) (row : Data) → row_refusal format tree row ≡ None
    → (is_affinity_name format (name_at row) ≡ true) × (refusal_of tree (node_in tree row) ≡ None)
row_accepted format tree row none = by (is_affinity_name format (name_at row)) refl none
  where
    by : (b : Bool) → is_affinity_name format (name_at row) ≡ b → (if b then refusal_of tree (node_in tree row) else Some Name) ≡ None
        → (is_affinity_name format (name_at row) ≡ true) × (refusal_of tree (node_in tree row) ≡ None)
    by true is none = (is, none)
    by false is none = absurd (cc)

-- a row of such a name is refused where the builder refuses its node, and another for its name
pub row_named : (format : Format) (tree : List Node) (row : Data) → is_affinity_name format (name_at row) ≡ true
    → passed (refusal_of tree (node_in tree row)) ≡ passed (row_refusal format tree row)
row_named format tree row named = rw named refl

pub row_unnamed : (format : Format) (tree : List Node) (row : Data) → is_affinity_name format (name_at row) ≡ false → passed (row_refusal format tree row) ≡ Err Name
row_unnamed format tree row unnamed = rw unnamed refl

-- what the test of a list without elements says where it fails
pub is_filled : (n : ℕ) (b : Bool) → b ≡ (n == 0) → b ≡ false → 0 < n
is_filled n b test fails = grind (arith, nat_tests)

-- a row that is not refused
tree_from-step : (format : Format) (tree : List Node) (row : Data) (more : List Data) → passed (row_refusal format tree row) ≡ Ok tt → tree_from format tree (row ∷ more) ≡ tree_from format (tree ++ node_in tree row ∷ []) more
unfolding tree_from
tree_from-step format tree row more accepted = rw accepted refl

-- a row that is refused
tree_from-stop : (format : Format) (tree : List Node) (row : Data) (more : List Data) (e : TreeError) → passed (row_refusal format tree row) ≡ Err e → tree_from format tree (row ∷ more) ≡ Err e
unfolding tree_from
tree_from-stop format tree row more e refused = rw refused refl

-- after the last row
tree_from-end : (format : Format) (tree : List Node) → tree_from format tree [] ≡ Ok tree
unfolding tree_from
tree_from-end format tree = refl

-- some rows are read from the empty tree on
pub tree_of-filled : (format : Format) (rows : List Value) → 0 < length rows → tree_of format (map view rows) ≡ tree_from format [] (map view rows)
tree_of-filled format [] filled = absurd (omega arith)
tree_of-filled format (row ∷ more) filled = refl

module _ (format : Format) (tree : List Node) (rows : List Value) (i : ℕ) (row : Value) where
  rows_more : i < length rows → row ≡ get_or rows i row → tree_from format tree (map view (drop i rows)) ≡ tree_from format tree (view row ∷ map view (drop (i + 1) rows))
  rows_more inside is =
      ap (λ (more : List Value). tree_from format tree (map view more)) (drop_more rows i row inside)
      ∙ ap (λ (item : Value). tree_from format tree (view item ∷ map view (drop (i + 1) rows))) (sym is)

  -- a row that is not refused leaves what is to be read
  pub goes_on : i < length rows → row ≡ get_or rows i row → passed (row_refusal format tree (view row)) ≡ Ok tt
      → tree_from format (tree ++ node_in tree (view row) ∷ []) (map view (drop (i + 1) rows)) ≡ tree_from format tree (map view (drop i rows))
  goes_on inside is accepted =
      sym (tree_from-step format tree (view row) (map view (drop (i + 1) rows)) accepted) ∙ sym (rows_more inside is)

  -- a row that is refused ends the reading
  pub stops : i < length rows → row ≡ get_or rows i row → (e : Stop TreeError) → Stops e (passed (row_refusal format tree (view row)))
      → tree_from format tree (map view (drop i rows)) ≡ tree_from format [] (map view rows) → Stops e (tree_from format [] (map view rows))
  stops inside is stop.Memory told same = tt
  stops inside is (stop.Fault e) told same =
      sym same ∙ rows_more inside is ∙ tree_from-stop format tree (view row) (map view (drop (i + 1) rows)) e told

module _ (format : Format) (tree : List Node) (rows : List Value) (i : ℕ) where
  -- after the last row the tree is what was to be read
  pub ends : length rows ≤ i → tree_from format tree (map view (drop i rows)) ≡ tree_from format [] (map view rows) → tree_from format [] (map view rows) ≡ Ok tree
  ends past same =
      sym same
      ∙ ap (λ (more : List Value). tree_from format tree (map view more)) (drop_all i rows past)
      ∙ tree_from-end format tree
