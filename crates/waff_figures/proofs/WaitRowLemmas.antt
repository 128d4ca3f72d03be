-- Waits told of in rows, with one wait more.
use Rattle.std.proofs.Common.{◌≡◌, ℕ, ◌+◌, max, List, [], ◌∷◌, ◌++◌, length, map, sum_by, refl, ◌∙◌, ap}
use Rattle.std.proofs.lemmas.List.{length_push, map_push}
use Rattle.std.proofs.lemmas.List.Recursion.{max_push}
use Rattle.std.proofs.lemmas.List.Sums.{sum_by_push}
use Rattle.waff_plan.specs.Work.{greatest}
use Rattle.waff_figures.specs.WaitRows.{row_over, row_with}
use Rattle.waff_figures.specs.declared.wait_rows.Row.{Row}
use Rattle.waff_figures.specs.declared.waits.Wait.{Wait}

-- rows with one wait more
abbrev row : Wait → ℕ → ℕ → ℕ → Row
row first messages ticks longest = record { first = first; messages = messages; ticks = ticks; longest = longest }

pub row_more : (ws : List Wait) (first w : Wait) → row_over (ws ++ w ∷ []) first ≡ row_with (row_over ws first) w
row_more ws first w =
    let ticks_of : Wait → ℕ = λ v. v.ticks in
    let most = greatest (map ticks_of (ws ++ w ∷ [])) in
    let longest : most ≡ max (greatest (map ticks_of ws)) w.ticks
    = ap greatest (map_push ticks_of ws w) ∙ max_push greatest (λ x. x) refl (λ _ _. refl) (map ticks_of ws) w.ticks in
    ap (λ n. row first n (sum_by ticks_of (ws ++ w ∷ [])) most) (length_push ws w)
    ∙ ap (λ n. row first (length ws + 1) n most) (sum_by_push ticks_of ws w)
    ∙ ap (λ n. row first (length ws + 1) (sum_by ticks_of ws + w.ticks) n) longest
