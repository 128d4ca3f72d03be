-- Spaces compared one by one.
use Rattle.std.proofs.Common.{◌≡◌, suc, ◌==◌, ◌&&◌, Bool, true, List, [], ◌∷◌, length, map, arith, refl, ap, eq-eqb}
use Rattle.std.specs.List.{list_all, zip}
use Rattle.std.specs.Str.{bytes_eq}
use Rattle.std.proofs.lemmas.Bool.{and_parts}
use Rattle.std.proofs.lemmas.Bool.Decides.{nat_tests}
use Rattle.std.proofs.lemmas.Slice.Eq.{bytes_eq-Decides}
use Rattle.waff_model.specs.Layout.{Space, SameSpaces, names_of}

abbrev is_same : Space × Space → Bool
is_same pair = bytes_eq pair.0.name pair.1.name && pair.0.size == pair.1.size

-- spaces that pass one by one are the same
pub spaces_pass : (spaces others : List Space) → length spaces ≡ length others → list_all is_same (zip spaces others) ≡ true → SameSpaces spaces others
spaces_pass [] [] same pass = record { names = refl; sizes = refl }
spaces_pass [] (other ∷ others) same pass = absurd (omega arith)
spaces_pass (space ∷ spaces) [] same pass = absurd (omega arith)
spaces_pass (space ∷ spaces) (other ∷ others) same pass =
    let parts = and_parts (is_same (space, other)) (list_all is_same (zip spaces others)) pass in
    let both = and_parts (bytes_eq space.name other.name) (space.size == other.size) parts.0 in
    let name : space.name ≡ other.name = (bytes_eq-Decides space.name other.name).0 both.0 in
    let size : space.size ≡ other.size = grind (arith, nat_tests, both.1) in
    let more = spaces_pass spaces others (omega arith) parts.1 in
    let names : names_of spaces ≡ names_of others = more.names in
    let sizes : map (λ s. s.size) spaces ≡ map (λ s. s.size) others = more.sizes in
    record { names = cc; sizes = cc }

-- the same spaces are as many, and pass one by one
pub same_pass : (spaces others : List Space) → SameSpaces spaces others → (length spaces ≡ length others) × (list_all is_same (zip spaces others) ≡ true)
same_pass [] [] same = (refl, refl)
same_pass [] (other ∷ others) same =
    let counts : 0 ≡ suc (length (names_of others)) = ap length same.names in absurd (omega (arith, counts))
same_pass (space ∷ spaces) [] same =
    let counts : suc (length (names_of spaces)) ≡ 0 = ap length same.names in absurd (omega (arith, counts))
same_pass (space ∷ spaces) (other ∷ others) same =
    let all_names : space.name ∷ names_of spaces ≡ other.name ∷ names_of others = same.names in
    let all_sizes : space.size ∷ map (λ s. s.size) spaces ≡ other.size ∷ map (λ s. s.size) others = same.sizes in
    let name : space.name ≡ other.name = cc in
    let names : names_of spaces ≡ names_of others = cc in
    let size : space.size ≡ other.size = cc in
    let sizes : map (λ s. s.size) spaces ≡ map (λ s. s.size) others = cc in
    let more = same_pass spaces others (record { names = names; sizes = sizes }) in
    (ap suc more.0, rw ((bytes_eq-Decides space.name other.name).1 name, eq-eqb space.size other.size size) more.1)
