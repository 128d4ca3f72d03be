-- The table of names as a list of nodes: finding a name, and adding a name that is not there.
use Rattle.std.proofs.Common.{◌≡◌, ℕ, suc, ◌+◌, ◌<◌, ◌≤◌, List, [], ◌∷◌, ◌++◌, length, map, Bool, false, not, cond, Option, None, position, get_or, refl, ap, sym, ◌∙◌, arith}
use Rattle.std.specs.Prelude.{String, string_bytes}
use Rattle.std.specs.List.{position_or_len}
use Rattle.std.specs.String.{string_eq}
use Rattle.std.specs.Str.{bytes_eq}
use Rattle.std.proofs.lemmas.List.Sums.{fails_before_first}
use Rattle.std.proofs.lemmas.List.{get_or-map, length-map, map_push}
use Rattle.std.proofs.lemmas.Bool.Decides.{nat_tests}
use Rattle.std.specs.Map.{keys_of}
use Rattle.indexmap.specs.IndexMap.{insert_entry}
use Rattle.waff_model.specs.Tree.{Node, number_of}
use Rattle.waff_model.specs.Nodes.{entry_node, nodes_of}

position_or_len-map : {X Y : Type 0} (p : Y → Bool) (f : X → Y) (xs : List X) → position_or_len p (map f xs) ≡ position_or_len (λ x. p (f x)) xs
position_or_len-map p f [] = refl
position_or_len-map p f (x ∷ xs) = ap (λ n. cond (not (p (f x))) (1 + n) 0) (position_or_len-map p f xs)

pub position-map : {X Y : Type 0} (p : Y → Bool) (f : X → Y) (xs : List X) → position p (map f xs) ≡ position (λ x. p (f x)) xs
position-map p f xs = rw (position_or_len-map p f xs, length-map)

-- where no place is found, every element fails
pub fails_where_none : {X : Type 0} (p : X → Bool) (xs : List X) (i : ℕ) (d : X) → position p xs ≡ None → i < length xs → p (get_or xs i d) ≡ false
fails_where_none p xs i d none within =
    let past : length xs ≤ position_or_len p xs = grind (arith, nat_tests) in
    fails_before_first p xs i d (omega arith)

module _ {A : Type 0} where
  pub number_of-nodes_of : (es : List (String A × Option ℕ)) (name : List ℕ) → number_of (nodes_of es) name ≡ position (λ key. bytes_eq name (string_bytes key)) (keys_of es)
  number_of-nodes_of es name =
      position-map (λ (node : Node). bytes_eq name node.name) entry_node es ∙ sym (position-map (λ (key : String A). bytes_eq name (string_bytes key)) (λ e. e.0) es)

  insert_entry-absent : (es : List (String A × Option ℕ)) (key : String A) (parent : Option ℕ) → ((i : ℕ) → i < length es → string_eq key (get_or es i (key, parent)).0 ≡ false) → insert_entry string_eq es key parent ≡ es ++ (key, parent) ∷ []
  insert_entry-absent [] key parent none = refl
  insert_entry-absent (e ∷ es) key parent none =
      rw (none 0 (omega arith)) (ap (λ t. e ∷ t) (insert_entry-absent es key parent (λ i within. none (suc i) (omega arith))))

  -- an entry of a new name goes last
  pub nodes_of-insert_entry : (es : List (String A × Option ℕ)) (key : String A) (parent : Option ℕ) → number_of (nodes_of es) (string_bytes key) ≡ None → nodes_of (insert_entry string_eq es key parent) ≡ nodes_of es ++ record { name = string_bytes key; parent = parent } ∷ []
  nodes_of-insert_entry es key parent none =
      let missing : position (λ k. bytes_eq (string_bytes key) (string_bytes k)) (keys_of es) ≡ None = sym (number_of-nodes_of es (string_bytes key)) ∙ none in
      let absent : (i : ℕ) → i < length es → string_eq key (get_or es i (key, parent)).0 ≡ false =
      λ i within. rw (← get_or-map (λ (e : String A × Option ℕ). e.0) es i (key, parent) key within)
      (fails_where_none (λ k. bytes_eq (string_bytes key) (string_bytes k)) (keys_of es) i key missing (rw length-map within)) in
      rw (insert_entry-absent es key parent absent) (map_push entry_node es (key, parent))
