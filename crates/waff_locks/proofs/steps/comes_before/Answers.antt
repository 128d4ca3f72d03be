use Rattle.std.proofs.Common.{ℕ, ◌+◌, List, [], ◌∷◌, max}
use Rattle.waff_locks.proofs.Stepping.{level, none_left}
use Rattle.waff_locks.proofs.steps.comes_before.Goals as goal

pub returns : goal.returns
returns c =
    let one = c.args.one.now in
    let other = c.args.other.now in
    let f = one.figures in
    let g = other.figures in
    let space : List ℕ = one.space ∷ [] in
    let spaces : List ℕ = other.space ∷ [] in
    let uses : List ℕ = (f.alone + f.shared) ∷ space in
    let others : List ℕ = (g.alone + g.shared) ∷ spaces in
    let longest : List ℕ = max f.tree f.locks ∷ uses in
    let more : List ℕ = max g.tree g.locks ∷ others in
    let by_space = level one.space other.space [] [] _ _ (rw (c.from.ensures, c.from-2.ensures) at c.less_or-space.ensures) none_left in
    let by_uses = level (f.alone + f.shared) (g.alone + g.shared) space spaces _ _ (rw (c.uses.ensures, c.uses-2.ensures) at c.wide_less_or-uses.ensures) by_space in
    let by_longest = level (max f.tree f.locks) (max g.tree g.locks) uses others _ _ (rw (c.max.ensures, c.max-2.ensures) at c.less_or-longest.ensures) by_uses in
    let by_order = level f.order g.order longest more _ _ c.less_or-order.ensures by_longest in
    level _ _ (f.order ∷ longest) (g.order ∷ more) _ _ (rw (c.told_length.ensures, c.told_length-2.ensures) at c.less_or.ensures) by_order
