use Rattle.std.proofs.Common.{◌≡◌, ℕ, ◌+◌, ◌<◌, ◌≤◌, List, [], arith, drop, fold, get_or, length, max, sym, ◌∙◌, ap}
use Rattle.std.proofs.lemmas.List.{at_drop_all, at_drop_more}
use Rattle.waff_draw.specs.Scene.{coloured_in}
use Rattle.waff_draw.proofs.frame.longest.Goals as goal

pub loop-place-preserved : goal.loop-place-preserved
loop-place-preserved c =
    let names = coloured_in c.args.chart.now in
    let place = c.loop-place.place in
    let longest = c.loop-place.longest in
    let longer : ℕ → List ℕ → ℕ = λ l name. max l (length name) in
    let low : place < length names = omega (arith, c.loop-place-test.true, c.colour_count-place-end.ensures.count) in
    let at : c.max-longest.result ≡ longer longest (get_or names place [])
    = c.max-longest.ensures ∙ ap (max longest) (ap length c.coloured_name.ensures) in
    ap (λ l. fold longer l (drop (place + 1) names)) at
    ∙ sym (at_drop_more (fold longer longest) names place [] low) ∙ c.loop-place.invariant

pub returns : goal.returns
returns c =
    let names = coloured_in c.args.chart.now in
    let longer : ℕ → List ℕ → ℕ = λ l name. max l (length name) in
    let all : length names ≤ c.loop-place.place = omega (arith, c.loop-place-test.false, c.colour_count-place-end.ensures.count) in
    sym (at_drop_all (fold longer c.loop-place.longest) names c.loop-place.place all) ∙ c.loop-place.invariant
