-- Rows sorted by their ticks, those of as many ticks left in their order.
use Rattle.std.proofs.Common.{◌≡◌, ℕ, ◌<◌, Bool, List, length, get_or, arith, sym, subst, ap}
use Rattle.std.specs.List.{AllPairs}
use Rattle.std.specs.List.Sorted.{IsPermutation, IsSortedBy, IsStableBy}
use Rattle.std.proofs.lemmas.List.{get_or-map, length-map}
use Rattle.waff_figures.specs.Groups.{firsts_by}
use Rattle.waff_figures.specs.Waits.{ComesFirst}
use Rattle.waff_figures.specs.WaitRows.{AreRows, StartsFirst, row_of, rows_by}
use Rattle.waff_figures.specs.declared.wait_rows.Row.{Row}
use Rattle.waff_figures.specs.declared.waits.Wait.{Wait}
use Rattle.waff_figures.proofs.Falling.{falls, is_above}
use Rattle.waff_figures.proofs.GroupLemmas.{firsts_in_order}

-- the rows stand in the order of their first waits
rows_in_order : (alike : Wait → Wait → Bool) (ws : List Wait) → AllPairs ComesFirst ws → AllPairs StartsFirst (rows_by alike ws)
rows_in_order alike ws order i j d less low =
    let firsts = firsts_by alike ws in
    let long = length-map firsts (row_of alike ws) in
    let at : (k : ℕ) → k < length firsts → (get_or (rows_by alike ws) k d).first ≡ get_or firsts k d.first
    = λ k inside. ap (λ (r : Row). r.first) (get_or-map (row_of alike ws) firsts k d.first d inside) in
    let here : j < length firsts = omega (arith, low, long) in
    subst (λ v. ComesFirst v (get_or (rows_by alike ws) j d).first) (sym (at i (omega (arith, less, here))))
    (subst (ComesFirst (get_or firsts i d.first)) (sym (at j here)) (firsts_in_order alike ComesFirst ws order i j d.first less here))

-- whether the one row has more ticks
abbrev has_more : Row → Row → Bool
has_more = is_above (λ (row : Row). row.ticks)

pub sorted_rows : (alike : Wait → Wait → Bool) (ws : List Wait) (xs ys : List Row) → xs ≡ rows_by alike ws → AllPairs ComesFirst ws
    → IsPermutation xs ys → IsSortedBy has_more ys → IsStableBy has_more xs ys → AreRows alike ws ys
sorted_rows alike ws xs ys are first moved sorted stable = record {
  are = subst (λ l. IsPermutation l ys) are moved;
  order = falls (λ (row : Row). row.ticks) StartsFirst xs ys (subst (AllPairs StartsFirst) (sym are) (rows_in_order alike ws first)) sorted stable;
}
