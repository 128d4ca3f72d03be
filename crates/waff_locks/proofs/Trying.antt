-- Figures that were made each in a place of its own.
use Rattle.std.proofs.Common.{◌≡◌, ℕ, suc, ◌<◌, All, List, [], ◌∷◌, length, map, get_or, Option, Some, None, IfSome, arith, refl, sym, ◌∙◌, ap, ap₂, subst}
use Rattle.std.proofs.lemmas.List.{get_or-map, length-map}
use Rattle.waff_locks.specs.declared.figures.SpaceFigures.{SpaceFigures}

abbrev pub places_of : List SpaceFigures → List (Option SpaceFigures)
places_of tried = map (λ one. Some one) tried

in_turn_of_each : (spaces : List ℕ) (tried : List SpaceFigures) → length tried ≡ length spaces
    → ((i : ℕ) → i < length tried → IfSome (get_or (places_of tried) i None) (λ one. one.space ≡ get_or spaces i 0))
    → map (λ (one : SpaceFigures). one.space) tried ≡ spaces
in_turn_of_each [] [] count each = refl
in_turn_of_each [] (one ∷ tried) count each = absurd (omega (arith, count))
in_turn_of_each (s ∷ spaces) [] count each = absurd (omega (arith, count))
in_turn_of_each (s ∷ spaces) (one ∷ tried) count each =
    ap₂ (λ x xs. x ∷ xs) (each 0 (omega arith)) (in_turn_of_each spaces tried (omega (arith, count)) (λ i inside. each (suc i) (omega (arith, inside))))

-- they are of the spaces in turn
pub made_in_turn : (spaces : List ℕ) (made : List (Option SpaceFigures)) (tried : List SpaceFigures) → places_of tried ≡ made → length made ≡ length spaces
    → ((i : ℕ) → i < length made → IfSome (get_or made i None) (λ one. one.space ≡ get_or spaces i 0))
    → map (λ (one : SpaceFigures). one.space) tried ≡ spaces
made_in_turn spaces made tried is count each =
    let long : length tried ≡ length made = sym (length-map tried (λ (one : SpaceFigures). Some one)) ∙ ap length is in
    in_turn_of_each spaces tried (long ∙ count)
    (λ i inside. subst (λ places. IfSome (get_or places i None) (λ (one : SpaceFigures). one.space ≡ get_or spaces i 0)) (sym is)
    (each i (omega (arith, long, inside))))

-- what is known of each place is known of them
pub made_of_each : (Holds : SpaceFigures → Type 0) (made : List (Option SpaceFigures)) (tried : List SpaceFigures) → places_of tried ≡ made
    → ((i : ℕ) → i < length made → IfSome (get_or made i None) Holds) → All Holds tried
made_of_each Holds made tried is each = λ i d inside.
    let long : length tried ≡ length made = sym (length-map tried (λ (one : SpaceFigures). Some one)) ∙ ap length is in
    subst (λ place. IfSome place Holds)
    (ap (λ places. get_or places i None) (sym is) ∙ get_or-map (λ (one : SpaceFigures). Some one) tried i d None inside)
    (each i (omega (arith, long, inside)))
