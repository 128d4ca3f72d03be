use Rattle.std.proofs.Common.{◌≡◌, ℕ, ◌<◌, [], ◌∷◌, ◌++◌, length, get_or, take, max, arith, refl, sym, ◌∙◌, ap}
use Rattle.std.proofs.lemmas.List.{take_more}
use Rattle.std.proofs.lemmas.List.Recursion.{max_push}
use Rattle.waff_plan.specs.Work.{greatest}
use Rattle.waff_figures.proofs.parts.greatest.Goals as goal

pub loop-n-preserved : goal.loop-n-preserved
loop-n-preserved c =
    let xs = c.args.numbers.now in
    let i = c.loop-n.n-index in
    let x : ℕ = get_or xs i 0 in
    let low : i < length xs = c.loop-n-test.true in
    let pushed : greatest (take i xs ++ x ∷ []) ≡ max (greatest (take i xs)) x = max_push greatest (λ x. x) refl (λ _ _. refl) (take i xs) x in
    let step : c.max-greatest.result ≡ greatest (take i xs ++ x ∷ []) = omega (arith, pushed, c.max-greatest.ensures, c.loop-n.invariant) in
    step ∙ ap greatest (sym (take_more xs i 0 low))
