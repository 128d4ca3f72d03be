-- The parts of a list, and what one more part adds.
use Rattle.std.proofs.Common.{◌≡◌, ℕ, zero, suc, ◌+◌, ◌-◌, ◌<◌, ◌≤◌, List, [], ◌∷◌, ◌++◌, length, get_or, take, drop, sum_by, refl, ap, sym, ◌∙◌, arith, subst}
use Rattle.std.proofs.lemmas.List.{take-append-le, drop-append-le, drop_at, take_all, length-append, length-drop, length-take-le}
use Rattle.std.proofs.lemmas.List.Sums.{sum_by-cons}
use Rattle.std.specs.Prelude.{slice_range}
use Rattle.waff_order.specs.Cuts.{parts, AreCuts}

pub length-parts : {A : Type 0} (flat : List A) (from : ℕ) (ends : List ℕ) → length (parts flat from ends) ≡ length ends
length-parts flat from [] = refl
length-parts flat from (end ∷ ends) = ap suc (length-parts flat end ends)

-- the first part
pub first_part : {A : Type 0} (flat : List A) (from : ℕ) (ends : List ℕ) → 0 < length ends → AreCuts flat from ends
    → (from ≤ get_or ends 0 0) × (get_or ends 0 0 ≤ length flat) × (slice_range flat from (get_or ends 0 0) ≡ get_or (parts flat from ends) 0 [])
first_part flat from [] some cuts = absurd (omega arith)
first_part flat from (end ∷ ends) some cuts = (cuts.0, cuts.1, refl)

-- each later part
pub later_part : {A : Type 0} (flat : List A) (from : ℕ) (ends : List ℕ) (k : ℕ) → suc k < length ends → AreCuts flat from ends
    → (get_or ends k 0 ≤ get_or ends (suc k) 0) × (get_or ends (suc k) 0 ≤ length flat)
    × (slice_range flat (get_or ends k 0) (get_or ends (suc k) 0) ≡ get_or (parts flat from ends) (suc k) [])
later_part flat from [] k within cuts = absurd (omega arith)
later_part flat from (end ∷ ends) zero within cuts = first_part flat end ends (omega arith) cuts.2
later_part flat from (end ∷ ends) (suc k) within cuts = later_part flat end ends k (omega arith) cuts.2

-- each part but the first, at its place
pub part_at : {A : Type 0} (flat : List A) (from : ℕ) (ends : List ℕ) (i j : ℕ) → suc i ≡ j → j < length ends → AreCuts flat from ends
    → (get_or ends i 0 ≤ get_or ends j 0) × (get_or ends j 0 ≤ length flat)
    × (slice_range flat (get_or ends i 0) (get_or ends j 0) ≡ get_or (parts flat from ends) j [])
part_at flat from ends i j next within cuts =
    subst (λ j. (get_or ends i 0 ≤ get_or ends j 0) × (get_or ends j 0 ≤ length flat)
    × (slice_range flat (get_or ends i 0) (get_or ends j 0) ≡ get_or (parts flat from ends) j [])) next
    (later_part flat from ends i (omega arith) cuts)

-- what stands in a part stays there when the list grows
slice_range-append : {A : Type 0} (flat more : List A) (from end : ℕ) → from ≤ end → end ≤ length flat → slice_range (flat ++ more) from end ≡ slice_range flat from end
slice_range-append flat more from end forward within =
    let start : drop from (flat ++ more) ≡ drop from flat ++ more = drop-append-le from flat more (omega arith) in
    let left : length (drop from flat) ≡ length flat - from = length-drop from flat in
    ap (λ xs. take (end - from) xs) start ∙ take-append-le (end - from) (drop from flat) more (omega arith)

-- one part more, at the end
pub parts_push : {A : Type 0} (flat more : List A) (from : ℕ) (ends : List ℕ) → AreCuts flat from ends
    → parts (flat ++ more) from (ends ++ length (flat ++ more) ∷ []) ≡ parts flat from ends ++ more ∷ []
parts_push flat more from [] cuts =
    let start : drop from (flat ++ more) ≡ more = drop_at flat more from (sym cuts) in
    let long : length (flat ++ more) ≡ length flat + length more = length-append flat more in
    ap (λ xs. xs ∷ []) (ap (λ xs. take (length (flat ++ more) - from) xs) start ∙ take_all (length (flat ++ more) - from) more (omega (arith, cuts)))
parts_push flat more from (end ∷ ends) cuts =
    ap (λ xs. xs ∷ parts (flat ++ more) end (ends ++ length (flat ++ more) ∷ [])) (slice_range-append flat more from end cuts.0 cuts.1)
    ∙ ap (λ xs. slice_range flat from end ∷ xs) (parts_push flat more end ends cuts.2)

pub cuts_push : {A : Type 0} (flat more : List A) (from : ℕ) (ends : List ℕ) → AreCuts flat from ends
    → AreCuts (flat ++ more) from (ends ++ length (flat ++ more) ∷ [])
cuts_push flat more from [] cuts =
    let long : length (flat ++ more) ≡ length flat + length more = length-append flat more in
    (omega (arith, cuts), omega arith, refl)
cuts_push flat more from (end ∷ ends) cuts =
    let long : length (flat ++ more) ≡ length flat + length more = length-append flat more in
    (cuts.0, omega (arith, cuts.1), cuts_push flat more end ends cuts.2)

-- the parts have as many elements as the list
pub sum_by-parts : {A : Type 0} (flat : List A) (from : ℕ) (ends : List ℕ) → AreCuts flat from ends → from + sum_by length (parts flat from ends) ≡ length flat
sum_by-parts flat from [] cuts = omega (arith, cuts)
sum_by-parts {A = A} flat from (end ∷ ends) cuts =
    let rest = sum_by-parts flat end ends cuts.2 in
    let long : length (slice_range flat from end) ≡ end - from
    = length-take-le (end - from) (drop from flat) (omega (arith, cuts.1, length-drop from flat)) in
    let first = sum_by-cons (length {A = A}) (slice_range flat from end) (parts flat end ends) in
    omega (arith, rest, long, first, cuts.0)
