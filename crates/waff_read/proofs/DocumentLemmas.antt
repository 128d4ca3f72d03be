-- Values of a document and the data that they stand for.
use Rattle.std.proofs.Common.{◌≡◌, ℕ, ◌+◌, ◌<◌, Bool, ◌||◌, List, [], ◌∷◌, ◌++◌, length, take, get_or, map, refl, ap, sym, ◌∙◌}
use Rattle.std.specs.List.{list_any}
use Rattle.std.proofs.lemmas.List.{map_push, take_more}
use Rattle.toml.specs.declared.value.Value.{Value}
use Rattle.toml.specs.View.{view, items_view}
use Rattle.waff_read.specs.Documents.{list_of}

-- a test of the images of elements
pub list_any_map : {X Y : Type 0} (p : Y → Bool) (f : X → Y) (xs : List X) → list_any p (map f xs) ≡ list_any (λ x. p (f x)) xs
list_any_map p f [] = refl
list_any_map p f (x ∷ xs) = ap (λ b. p (f x) || b) (list_any_map p f xs)

-- a test of elements that stand for others
pub list_any-of : {X Y : Type 0} (p : Y → Bool) (f : X → Y) (xs : List X) (ys : List Y) → map f xs ≡ ys → list_any (λ x. p (f x)) xs ≡ list_any p ys
list_any-of p f xs ys same = sym (list_any_map p f xs) ∙ ap (list_any p) same

-- the items that values stand for, as a list
pub list_of-items_view : (values : List Value) → list_of (items_view values) ≡ map view values
list_of-items_view [] = refl
list_of-items_view (value ∷ values) = ap (λ more. view value ∷ more) (list_of-items_view values)

-- the images of images
pub map_map : {X Y Z : Type 0} (g : Y → Z) (f : X → Y) (xs : List X) → map g (map f xs) ≡ map (λ x. g (f x)) xs
map_map g f [] = refl
map_map g f (x ∷ xs) = ap (λ more. g (f x) ∷ more) (map_map g f xs)

-- the images of the first elements, and of the next one
pub map_more : {X Y : Type 0} (f : X → Y) (xs : List X) (i : ℕ) (x : X) → i < length xs → x ≡ get_or xs i x → map f (take i xs) ++ f x ∷ [] ≡ map f (take (i + 1) xs)
map_more f xs i x inside is =
    sym (ap (map f) (take_more xs i x inside ∙ ap (λ y. take i xs ++ y ∷ []) (sym is)) ∙ map_push f (take i xs) x)
