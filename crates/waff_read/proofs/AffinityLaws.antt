-- Rows of affinities are read as the tree that they describe, or the first that is no affinity decides.
use Rattle.std.proofs.Common.{◌≡◌, ℕ, zero, suc, ◌<◌, ◌≤◌, List, [], ◌∷◌, ◌++◌, length, map, take, Bool, true, false, not, Option, Some, None, option_map, unwrap_or, Ok, Err, slice_get, codes, refl, sym, ap, ◌∙◌, subst, inl, inr, arith}
use Rattle.std.specs.Prelude.{is_some, is_none, nat_le, ◌&&◌, if◌then◌else◌}
use Rattle.std.specs.Str.{bytes_eq}
use Rattle.std.proofs.lemmas.Bool.{leb-true, leb-false, le-leb, not-true}
use Rattle.std.proofs.lemmas.Bool.Decides.{nat_tests}
use Rattle.std.proofs.lemmas.List.{append-nil, append_assoc, length_push}
use Rattle.std.proofs.lemmas.List.Quantifiers.{position-Some}
use Rattle.toml.specs.Data.{Data}
use Rattle.waff_parse.specs.Refusals.{◌>>=◌}
use Rattle.waff_model.specs.Names.{is_name}
use Rattle.waff_model.specs.Refusals.{first_refusal}
use Rattle.waff_model.specs.Tree.{Node, number_of}
use Rattle.waff_model.specs.TreeRefusal.{refusal_of, node_checks, is_unknown}
use Rattle.waff_model.specs.declared.format.Format.{Format}
use Rattle.waff_model.specs.declared.limits.TheConstants.{MAX_AFFINITIES}
use Rattle.waff_model.specs.declared.tree.TreeError.{TreeError}
use Rattle.waff_model.specs.declared.tree.TreeError.TheVariants as refusal
use Rattle.waff_model.proofs.RefusalLemmas.{none_holds}
use Rattle.waff_read.specs.Affinities.{is_affinity_name, name_at, node_in, place_of, row_refusal, tree_from, tree_of}
use Rattle.waff_read.specs.Checks.{passed}
use Rattle.waff_read.specs.Documents.{text_at}
use Rattle.waff_read.specs.Refused.{IsParent, IsAffinity, AreAffinities, TreeIsExact, HasTreeFault, number, FirstAffinityDecides}
use Rattle.waff_read.proofs.AffinityLemmas.{row_accepted}
use Rattle.waff_model.proofs.NodeEntries.{position-map}

none_of : {A : Type 0} (o : Option A) → is_some o ≡ false → o ≡ None
none_of None h = refl
none_of (Some x) h = absurd (cc)

and_first : (a b : Bool) → (a && b) ≡ true → a ≡ true
and_first true b h = refl
and_first false b h = absurd (cc)

-- what an affinity may be named is a name
is_name_of : (format : Format) (name : List ℕ) → is_affinity_name format name ≡ true → is_name name ≡ true
is_name_of format name h = and_first (is_name name) _ h

abbrev node_of : List ℕ → Option ℕ → Node
node_of name parent = record { name = name; parent = parent }

module _ (before : List Node) where
  abbrev names : List (List ℕ)
  names = map (λ node. node.name) before

  place_is : (name : List ℕ) → place_of names name ≡ unwrap_or (number_of before name) MAX_AFFINITIES
  place_is name = ap (λ (o : Option ℕ). unwrap_or o MAX_AFFINITIES) (position-map (bytes_eq name) (λ (n : Node). n.name) before)

  known : (name : List ℕ) (p : ℕ) → number_of before name ≡ Some p → place_of names name ≡ p
  known name p is = place_is name ∙ ap (λ (o : Option ℕ). unwrap_or o MAX_AFFINITIES) is

  unknown : (name : List ℕ) → number_of before name ≡ None → place_of names name ≡ MAX_AFFINITIES
  unknown name is = place_is name ∙ ap (λ (o : Option ℕ). unwrap_or o MAX_AFFINITIES) is

  inside : (name : List ℕ) (p : ℕ) → number_of before name ≡ Some p → p < length before
  inside name p is = (position-Some (λ (node : Node). bytes_eq name node.name) before p (node_of [] None) is).0

  -- the parent of an affinity is the number that its row gives it
  parent_same : (text : Option (List ℕ)) (parent : Option ℕ) → IsParent before text parent → parent ≡ option_map (place_of names) text
  parent_same None parent is = is
  parent_same (Some name) parent (p, at, is) = is ∙ ap Some (sym (known name p at))

  parent_inside : (text : Option (List ℕ)) (parent : Option ℕ) → IsParent before text parent → is_unknown before parent ≡ false
  parent_inside None parent is = rw is refl
  parent_inside (Some name) parent (p, at, is) =
      let within : p < length before = inside name p at in
      let test : nat_le (length before) p ≡ false = grind (arith, nat_tests, within) in
      rw is test

  parent_found : (text : Option (List ℕ)) → is_unknown before (option_map (place_of names) text) ≡ false → length before ≤ MAX_AFFINITIES
      → IsParent before text (option_map (place_of names) text)
  parent_found None is few = refl
  parent_found (Some name) is few = by (number_of before name) refl
    where
      by : (n : Option ℕ) → number_of before name ≡ n → IsParent before (Some name) (Some (place_of names name))
      by (Some p) at = (p, at, ap Some (known name p at))
      by None at =
          let past : place_of names name ≡ MAX_AFFINITIES = unknown name at in
          let test : nat_le (length before) (place_of names name) ≡ true = le-leb (length before) (place_of names name) (omega (arith, few, past)) in
          absurd (cc)

  parent_lost : (text : Option (List ℕ)) → is_unknown before (option_map (place_of names) text) ≡ true
      → (name : List ℕ) × (text ≡ Some name) × (number_of before name ≡ None)
  parent_lost None is = absurd (cc)
  parent_lost (Some name) is = by (number_of before name) refl
    where
      by : (n : Option ℕ) → number_of before name ≡ n → (other : List ℕ) × (Some name ≡ Some other) × (number_of before other ≡ None)
      by (Some p) at =
          let past : length before ≤ place_of names name = leb-true (length before) (place_of names name) is in
          let same : place_of names name ≡ p = known name p at in
          let within : p < length before = inside name p at in
          absurd (omega (arith, past, same, within))
      by None at = (name, refl, at)

  lost_parent : length before ≤ MAX_AFFINITIES → (text : Option (List ℕ)) (name : List ℕ) → text ≡ Some name → number_of before name ≡ None
      → is_unknown before (option_map (place_of names) text) ≡ true
  lost_parent few text name is at =
      let past : place_of names name ≡ MAX_AFFINITIES = unknown name at in
      let test : nat_le (length before) (place_of names name) ≡ true = le-leb (length before) (place_of names name) (omega (arith, few, past)) in
      rw is test

  rootless : (parent : Option ℕ) → (parent ≡ None → length before ≡ 0) → (is_none parent && nat_le 1 (length before)) ≡ false
  rootless None root = let none = root refl in rw none refl
  rootless (Some p) root = refl

  rooted : (parent : Option ℕ) → (is_none parent && nat_le 1 (length before)) ≡ false → parent ≡ None → length before ≡ 0
  rooted None test is = let short : length before < 1 = leb-false 1 (length before) test in omega (arith, short)
  rooted (Some p) test is = absurd (cc)

  second_root : (text : Option (List ℕ)) → (is_none (option_map (place_of names) text) && nat_le 1 (length before)) ≡ true → (text ≡ None) × (1 ≤ length before)
  second_root None test = (refl, leb-true 1 (length before) test)
  second_root (Some name) test = absurd (cc)

  root_second : (text : Option (List ℕ)) → text ≡ None → 1 ≤ length before → (is_none (option_map (place_of names) text) && nat_le 1 (length before)) ≡ true
  root_second text none some = let test = le-leb 1 (length before) some in rw none test

-- of five checks in a row the one that decides holds, and none before it
abbrev flag : Bool → Bool → Bool → Bool → Bool → TreeError → Bool
flag a b c d e refusal.Name = a
flag a b c d e refusal.Twice = b
flag a b c d e refusal.SecondRoot = c
flag a b c d e refusal.ParentUnknown = d
flag a b c d e refusal.TooMany = e
flag a b c d e refusal.NoRoot = false
flag a b c d e refusal.Memory = false

record Decides (a b c d e : Bool) (x : TreeError) : Type 0 where
  holds : flag a b c d e x ≡ true
  least : (other : TreeError) → flag a b c d e other ≡ true → number x ≤ number other

least_first : (b c d e : Bool) (other : TreeError) → flag true b c d e other ≡ true → 1 ≤ number other
least_first b c d e refusal.Name h = omega arith
least_first b c d e _ h = omega arith

least_second : (c d e : Bool) (other : TreeError) → flag false true c d e other ≡ true → 2 ≤ number other
least_second c d e refusal.Name h = absurd (cc)
least_second c d e _ h = omega arith

least_third : (d e : Bool) (other : TreeError) → flag false false true d e other ≡ true → 3 ≤ number other
least_third d e refusal.Name h = absurd (cc)
least_third d e refusal.Twice h = absurd (cc)
least_third d e _ h = omega arith

least_fourth : (e : Bool) (other : TreeError) → flag false false false true e other ≡ true → 5 ≤ number other
least_fourth e refusal.ParentUnknown h = omega arith
least_fourth e refusal.TooMany h = omega arith
least_fourth e _ h = absurd (cc)

least_fifth : (other : TreeError) → flag false false false false true other ≡ true → 6 ≤ number other
least_fifth refusal.TooMany h = omega arith
least_fifth _ h = absurd (cc)

decides : (a b c d e : Bool) (x : TreeError)
    → first_refusal ((a, refusal.Name) ∷ (b, refusal.Twice) ∷ (c, refusal.SecondRoot) ∷ (d, refusal.ParentUnknown) ∷ (e, refusal.TooMany) ∷ []) ≡ Some x
    → Decides a b c d e x
decides true b c d e x h =
    let same : refusal.Name ≡ x = cc in
    subst (Decides true b c d e) same (record { holds = refl; least = least_first b c d e })
decides false true c d e x h =
    let same : refusal.Twice ≡ x = cc in
    subst (Decides false true c d e) same (record { holds = refl; least = least_second c d e })
decides false false true d e x h =
    let same : refusal.SecondRoot ≡ x = cc in
    subst (Decides false false true d e) same (record { holds = refl; least = least_third d e })
decides false false false true e x h =
    let same : refusal.ParentUnknown ≡ x = cc in
    subst (Decides false false false true e) same (record { holds = refl; least = least_fourth e })
decides false false false false true x h =
    let same : refusal.TooMany ≡ x = cc in
    subst (Decides false false false false true) same (record { holds = refl; least = least_fifth })
decides false false false false false x h = absurd (cc)

module _ (format : Format) (before : List Node) (row : Data) where
  abbrev text : Option (List ℕ)
  text = text_at (codes "parent") row

  same_node : (node : Node) → IsAffinity format before row node → node_in before row ≡ node
  same_node node is =
      ap (λ name. node_of name (option_map (place_of (names before)) text)) is.name
      ∙ ap (node_of node.name) (sym (parent_same before text node.parent is.parent))

  -- the rows' check of names is the first, and comes to the builder's where a name is no hyphen
  abbrev other_checks : List (Bool × TreeError)
  other_checks =
      (is_some (number_of before (name_at row)), refusal.Twice)
      ∷ (is_none (node_in before row).parent && nat_le 1 (length before), refusal.SecondRoot)
      ∷ (is_unknown before (node_in before row).parent, refusal.ParentUnknown)
      ∷ (nat_le MAX_AFFINITIES (length before), refusal.TooMany)
      ∷ []

  row_checks : row_refusal format before row ≡ first_refusal ((not (is_affinity_name format (name_at row)), refusal.Name) ∷ other_checks)
  row_checks = by (is_affinity_name format (name_at row)) refl
    where
      by : (b : Bool) → is_affinity_name format (name_at row) ≡ b
          → (if b then refusal_of before (node_in before row) else Some refusal.Name) ≡ first_refusal ((not b, refusal.Name) ∷ other_checks)
      by true is =
          let named : not (is_name (name_at row)) ≡ false = ap not (is_name_of format (name_at row) is) in
          rw named refl
      by false is = refl

  accepted : (node : Node) → IsAffinity format before row node → row_refusal format before row ≡ None
  accepted node is =
      let known : is_affinity_name format (name_at row) ≡ true = ap (is_affinity_name format) is.name ∙ is.named in
      let same : node_in before row ≡ node = same_node node is in
      let named : not (is_name node.name) ≡ false = ap not (is_name_of format node.name is.named) in
      let new : is_some (number_of before node.name) ≡ false = ap (λ (o : Option ℕ). is_some o) is.new in
      let root : (is_none node.parent && nat_le 1 (length before)) ≡ false = rootless before node.parent is.root in
      let there : is_unknown before node.parent ≡ false = parent_inside before text node.parent is.parent in
      let below : length before < MAX_AFFINITIES = is.few in
      let few : nat_le MAX_AFFINITIES (length before) ≡ false = grind (arith, nat_tests, below) in
      let none : refusal_of before node ≡ None = rw (named, new, root, there, few) refl in
      rw known (subst (λ n. refusal_of before n ≡ None) (sym same) none)

  affinity : row_refusal format before row ≡ None → IsAffinity format before row (node_in before row)
  affinity none =
      let row_is = row_accepted format before row none in
      let checks = none_holds (node_checks before (node_in before row)) row_is.1 in
      let few : length before < MAX_AFFINITIES = leb-false MAX_AFFINITIES (length before) checks.1.1.1.1.0 in
      record {
        name = refl;
        named = row_is.0;
        new = none_of (number_of before (name_at row)) checks.1.0;
        parent = parent_found before text checks.1.1.1.0 (omega (arith, few));
        root = rooted before (node_in before row).parent checks.1.1.0;
        few = few;
      }

  abbrev flag_of : TreeError → Bool
  flag_of = flag (not (is_affinity_name format (name_at row))) (is_some (number_of before (name_at row))) (is_none (node_in before row).parent && nat_le 1 (length before))
      (is_unknown before (node_in before row).parent) (nat_le MAX_AFFINITIES (length before))

  flag_holds : (e : TreeError) → flag_of e ≡ true → HasTreeFault format before row e
  flag_holds refusal.Name h = not-true (is_affinity_name format (name_at row)) h
  flag_holds refusal.Twice h = h
  flag_holds refusal.SecondRoot h = second_root before text h
  flag_holds refusal.ParentUnknown h = parent_lost before text h
  flag_holds refusal.TooMany h = leb-true MAX_AFFINITIES (length before) h
  flag_holds _ h = absurd (cc)

  holds_flag : length before ≤ MAX_AFFINITIES → (e : TreeError) → HasTreeFault format before row e → flag_of e ≡ true
  holds_flag few refusal.Name h = ap not h
  holds_flag few refusal.Twice h = h
  holds_flag few refusal.SecondRoot (none, some) = root_second before text none some
  holds_flag few refusal.ParentUnknown (name, is, lost) = lost_parent before few text name is lost
  holds_flag few refusal.TooMany h = le-leb MAX_AFFINITIES (length before) h
  holds_flag few _ h = absurd h

  refused : length before ≤ MAX_AFFINITIES → (e : TreeError) → row_refusal format before row ≡ Some e
      → HasTreeFault format before row e × ((other : TreeError) → HasTreeFault format before row other → number e ≤ number other)
  refused few e some =
      let first = decides (not (is_affinity_name format (name_at row))) (is_some (number_of before (name_at row))) (is_none (node_in before row).parent && nat_le 1 (length before))
      (is_unknown before (node_in before row).parent) (nat_le MAX_AFFINITIES (length before)) e (sym row_checks ∙ some) in
      (flag_holds e first.holds, λ other h. first.least other (holds_flag few other h))

-- the affinities that rows add behind those before
record Adds (format : Format) (before : List Node) (rows : List Data) (made : List Node) : Type 0 where
  count : length made ≡ length rows
  each : (k : ℕ) (row : Data) (node : Node) → slice_get rows k ≡ Some row → slice_get made k ≡ Some node → IsAffinity format (before ++ take k made) row node

adds_none : (format : Format) (before : List Node) → Adds format before [] []
adds_none format before = record { count = refl; each = λ k row node there here. absurd (cc there) }

adds_one : (format : Format) (before : List Node) (row : Data) (node : Node) (more : List Data) (made : List Node) → IsAffinity format before row node → Adds format (before ++ node ∷ []) more made
    → Adds format before (row ∷ more) (node ∷ made)
adds_one format before row node more made is adds = record { count = ap suc adds.count; each = at }
  where
    at : (k : ℕ) (other : Data) (next : Node) → slice_get (row ∷ more) k ≡ Some other → slice_get (node ∷ made) k ≡ Some next
        → IsAffinity format (before ++ take k (node ∷ made)) other next
    at zero other next there here =
        let first : row ≡ other = cc in
        let one : node ≡ next = cc in
        subst (λ nodes. IsAffinity format nodes other next) (sym (append-nil before))
        (subst (λ n. IsAffinity format before other n) one (subst (λ r. IsAffinity format before r node) first is))
    at (suc k) other next there here =
        subst (λ nodes. IsAffinity format nodes other next) (append_assoc before (node ∷ []) (take k made)) (adds.each k other next there here)

adds_first : (format : Format) (before : List Node) (row : Data) (node : Node) (more : List Data) (made : List Node) → Adds format before (row ∷ more) (node ∷ made) → IsAffinity format before row node
adds_first format before row node more made adds = subst (λ nodes. IsAffinity format nodes row node) (append-nil before) (adds.each 0 row node refl refl)

adds_rest : (format : Format) (before : List Node) (row : Data) (node : Node) (more : List Data) (made : List Node) → Adds format before (row ∷ more) (node ∷ made)
    → Adds format (before ++ node ∷ []) more made
adds_rest format before row node more made adds = record {
  count = let same = adds.count in omega (arith, same);
  each = λ k other next there here.
      subst (λ nodes. IsAffinity format nodes other next) (sym (append_assoc before (node ∷ []) (take k made))) (adds.each (suc k) other next there here);
}

read_adds : (format : Format) (before : List Node) (rows : List Data) (tree : List Node) → tree_from format before rows ≡ Ok tree → (made : List Node) × (tree ≡ before ++ made) × Adds format before rows made
unfolding tree_from
read_adds format before [] tree done = let same : before ≡ tree = cc in ([], sym same ∙ sym (append-nil before), adds_none format before)
read_adds format before (row ∷ more) tree done =
    by (row_refusal format before row) refl done (read_adds format (before ++ node_in before row ∷ []) more tree)
  where
    by : (check : Option TreeError) → row_refusal format before row ≡ check
        → (passed check >>= (λ _. tree_from format (before ++ node_in before row ∷ []) more)) ≡ Ok tree
        → (tree_from format (before ++ node_in before row ∷ []) more ≡ Ok tree
        → (made : List Node) × (tree ≡ (before ++ node_in before row ∷ []) ++ made) × Adds format (before ++ node_in before row ∷ []) more made)
        → (made : List Node) × (tree ≡ before ++ made) × Adds format before (row ∷ more) made
    by None none read rest =
        let found = rest read in (
          node_in before row ∷ found.0,
          found.1 ∙ append_assoc before (node_in before row ∷ []) found.0,
          adds_one format before row (node_in before row) more found.0 (affinity format before row none) found.2,
        )
    by (Some e) some read rest = absurd (cc)

adds_read : (format : Format) (before : List Node) (rows : List Data) (made : List Node) → Adds format before rows made → tree_from format before rows ≡ Ok (before ++ made)
unfolding tree_from
adds_read format before [] [] adds = ap Ok (sym (append-nil before))
adds_read format before [] (node ∷ made) adds = absurd (let same = adds.count in omega (arith, same))
adds_read format before (row ∷ more) [] adds = absurd (let same = adds.count in omega (arith, same))
adds_read format before (row ∷ more) (node ∷ made) adds =
    let is = adds_first format before row node more made adds in
    let same : node_in before row ≡ node = same_node format before row node is in
    let none : row_refusal format before row ≡ None = accepted format before row node is in
    let rest = adds_read format (before ++ node ∷ []) more made (adds_rest format before row node more made adds) in
    rw (none, same) (rest ∙ ap Ok (append_assoc before (node ∷ []) made))

-- the first of the rows that is refused
record StopsAt (format : Format) (before : List Node) (rows : List Data) (made : List Node) (row : Data) (e : TreeError) : Type 0 where
  there : slice_get rows (length made) ≡ Some row
  adds : Adds format before (take (length made) rows) made
  holds : HasTreeFault format (before ++ made) row e
  least : (other : TreeError) → HasTreeFault format (before ++ made) row other → number e ≤ number other

read_stops : (format : Format) (before : List Node) (rows : List Data) (e : TreeError) → length before ≤ MAX_AFFINITIES → tree_from format before rows ≡ Err e
    → (made : List Node) × (row : Data) × StopsAt format before rows made row e
unfolding tree_from
read_stops format before [] e few stops = absurd (cc)
read_stops format before (row ∷ more) e few stops =
    by (row_refusal format before row) refl stops (read_stops format (before ++ node_in before row ∷ []) more e)
  where
    by : (check : Option TreeError) → row_refusal format before row ≡ check
        → (passed check >>= (λ _. tree_from format (before ++ node_in before row ∷ []) more)) ≡ Err e
        → (length (before ++ node_in before row ∷ []) ≤ MAX_AFFINITIES → tree_from format (before ++ node_in before row ∷ []) more ≡ Err e
        → (made : List Node) × (other : Data) × StopsAt format (before ++ node_in before row ∷ []) more made other e)
        → (made : List Node) × (other : Data) × StopsAt format before (row ∷ more) made other e
    by None none read rest =
        let is = affinity format before row none in
        let below : length before < MAX_AFFINITIES = is.few in
        let found = rest (omega (arith, below, length_push before (node_in before row))) read in
        let made = found.0 in
        let s = found.2 in
        let joined : (before ++ node_in before row ∷ []) ++ made ≡ before ++ (node_in before row ∷ made) = append_assoc before (node_in before row ∷ []) made in (
          node_in before row ∷ made,
          found.1,
          record {
            there = s.there;
            adds = adds_one format before row (node_in before row) (take (length made) more) made is s.adds;
            holds = subst (λ nodes. HasTreeFault format nodes found.1 e) joined s.holds;
            least = λ other h. s.least other (subst (λ nodes. HasTreeFault format nodes found.1 other) (sym joined) h);
          },
        )
    by (Some d) some read rest =
        let named : d ≡ e = cc in
        let why = refused format before row few e (some ∙ ap Some named) in
        let joined : before ++ [] ≡ before = append-nil before in (
          [],
          row,
          record {
            there = refl;
            adds = adds_none format before;
            holds = subst (λ nodes. HasTreeFault format nodes row e) (sym joined) why.0;
            least = λ other h. why.1 other (subst (λ nodes. HasTreeFault format nodes row other) joined h);
          },
        )

tree_is : (format : Format) (rows : List Data) (tree : List Node) → tree_of format rows ≡ Ok tree → (1 ≤ length rows) × AreAffinities format rows tree
tree_is format [] tree done = absurd (cc)
tree_is format (row ∷ more) tree done =
    let found = read_adds format [] (row ∷ more) tree done in
    let adds = found.2 in
    (omega arith, subst (AreAffinities format (row ∷ more)) (sym found.1) (record { count = adds.count; each = adds.each }))

is_tree : (format : Format) (rows : List Data) (tree : List Node) → 1 ≤ length rows → AreAffinities format rows tree → tree_of format rows ≡ Ok tree
is_tree format [] tree some are = absurd (omega arith)
is_tree format (row ∷ more) tree some are = adds_read format [] (row ∷ more) tree (record { count = are.count; each = are.each })

pub tree_is_exact : (format : Format) (rows : List Data) → TreeIsExact format rows
tree_is_exact format rows tree = (tree_is format rows tree, λ made. is_tree format rows tree made.0 made.1)

pub first_affinity_decides : (format : Format) (rows : List Data) → FirstAffinityDecides format rows
first_affinity_decides format [] e refused = inl (refl, cc)
first_affinity_decides format (row ∷ more) e refused =
    let found = read_stops format [] (row ∷ more) e (omega arith) refused in
    let s = found.2 in
    inr (
      found.0,
      found.1,
      record {
        there = s.there;
        before = let adds = s.adds in record { count = adds.count; each = adds.each };
        holds = s.holds;
        least = s.least;
      },
    )
