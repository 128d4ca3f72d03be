-- The names of spaces, and the space of a name.
use Rattle.std.proofs.Common.{◌≡◌, ◌≢◌, ℕ, ◌+◌, ◌<◌, List, [], ◌∷◌, ◌++◌, length, take, get_or, true, Some, None, position, refl, sym, ap, ◌∙◌, arith}
use Rattle.std.specs.Prelude.{AllPairs, unwrap_or}
use Rattle.std.specs.List.{position_or_len}
use Rattle.std.specs.Str.{bytes_eq}
use Rattle.std.proofs.lemmas.Bool.{false_from_ne_true}
use Rattle.std.proofs.lemmas.Bool.Decides.{nat_tests}
use Rattle.std.proofs.lemmas.List.{get_or-take, length-take, map_push, take_more}
use Rattle.std.proofs.lemmas.List.Elements.{All-get_or}
use Rattle.std.proofs.lemmas.List.Quantifiers.{position-Some}
use Rattle.std.proofs.lemmas.List.Sums.{position_or_len_is}
use Rattle.std.proofs.lemmas.Option.{slice_get-get_or}
use Rattle.std.proofs.lemmas.Slice.Eq.{bytes_eq-Decides}
use Rattle.waff_model.proofs.NodeEntries.{position-map}
use Rattle.waff_model.specs.Layout.{Hierarchy, IsLayout, IsSpace, Space, name_at, names_of, space_named}
use Rattle.waff_model.specs.Names.{is_name}
use Rattle.waff_model.specs.declared.locking.Locking.TheVariants.{Unlocked}
use Rattle.waff_read.proofs.SpellingLaws.{space_found}

-- the place of a name is the number of the space of this name
pub place_of_name : (spaces : List Space) (name : List ℕ) → position (bytes_eq name) (names_of spaces) ≡ space_named spaces name
place_of_name spaces name = position-map (bytes_eq name) (λ (space : Space). space.name) spaces

abbrev no_space : Space
no_space = record { name = []; size = 0; unit = 0; to = []; locks = Unlocked }

name_there : (spaces : List Space) (s : ℕ) (name : List ℕ) → s < length spaces → name_at spaces s ≡ Some name → (get_or spaces s no_space).name ≡ name
name_there spaces s name inside is =
    let here : Some (get_or spaces s no_space).name ≡ Some name = rw (slice_get-get_or spaces s no_space inside) at is in
    cc

-- no space before another has its name
pub no_earlier : (spaces : List Space) (s : ℕ) (name : List ℕ) → AllPairs (λ (a b : Space). a.name ≢ b.name) spaces → s < length spaces → name_at spaces s ≡ Some name
    → position (bytes_eq name) (names_of (take s spaces)) ≡ None
no_earlier spaces s name different inside is =
    let there = name_there spaces s name inside is in
    let before = take s spaces in
    let all : length before ≡ s = omega (arith, length-take s spaces) in
    let past : position_or_len (λ (space : Space). bytes_eq name space.name) before ≡ length before =
    position_or_len_is (λ (space : Space). bytes_eq name space.name) before (length before) no_space (omega arith)
    (λ k below. false_from_ne_true _ (λ same.
    let at_k : get_or before k no_space ≡ get_or spaces k no_space = get_or-take s spaces k no_space (omega arith) in
    different k s no_space (omega arith) inside
    (ap (λ (space : Space). space.name) (sym at_k) ∙ (sym ((bytes_eq-Decides name (get_or before k no_space).name).0 same) ∙ sym there))))
    (λ within. absurd (omega arith)) in
    place_of_name before name ∙ grind (arith, nat_tests, past)

-- one name more
pub names_more : (spaces : List Space) (s : ℕ) (name : List ℕ) → s < length spaces → name_at spaces s ≡ Some name
    → names_of (take s spaces) ++ name ∷ [] ≡ names_of (take (s + 1) spaces)
names_more spaces s name inside is =
    rw (take_more spaces s no_space inside, map_push (λ (space : Space). space.name) (take s spaces) (get_or spaces s no_space), name_there spaces s name inside is) refl

-- in a layout a space is found by its name
pub found_by_name : (layout : Hierarchy) → IsLayout layout → (name : List ℕ) (s : ℕ) → s < length layout.spaces → name_at layout.spaces s ≡ Some name
    → space_named layout.spaces name ≡ Some s
found_by_name layout is name s inside named =
    let same : unwrap_or (name_at layout.spaces s) [] ≡ name = rw named refl in
    rw same at (space_found layout is s inside)

-- and what a space is called is a name
pub called_is_name : (layout : Hierarchy) → IsLayout layout → (name : List ℕ) (s : ℕ) → space_named layout.spaces name ≡ Some s → is_name name ≡ true
called_is_name layout is name s found =
    let p = position-Some (λ (space : Space). bytes_eq name space.name) layout.spaces s no_space found in
    rw (← (bytes_eq-Decides name (get_or layout.spaces s no_space).name).0 p.1) at (All-get_or (IsSpace layout.format layout.tree) layout.spaces s no_space p.0 is.each).named
