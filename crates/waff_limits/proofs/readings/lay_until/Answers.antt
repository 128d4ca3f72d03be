use Rattle.std.proofs.Common.{◌≡◌, ℕ, ◌+◌, ◌<◌, [], ◌∷◌, IfSome, IsPermutation, List, None, Option, Some, slice_get, length, arith, refl, sym, subst}
use Rattle.std.proofs.lemmas.List.Sorted.{length_permutation}
use Rattle.std.proofs.lemmas.Result.{on_ok_weaker}
use Rattle.waff_limits.specs.Edges.{edges_of}
use Rattle.waff_limits.proofs.Skyline.{AreLaying, first_dropped, first_laid, none_laid_yet, none_left, peaks_further, rest_laid}
use Rattle.waff_limits.proofs.readings.lay_until.Goals as goal

pub loop-cost-init : goal.loop-cost-init
loop-cost-init c = none_laid_yet (edges_of c.args.edges.now) c.args.going.now c.args.from c.args.end c.requires.order

-- the first has left the others
left : (going ended : List (ℕ × ℕ)) (r : ℕ × ℕ) → slice_get going 0 ≡ Some r → IfSome (slice_get going 0) (λ s. IsPermutation going (s ∷ ended))
    → IsPermutation going (r ∷ ended)
left going ended r is moved = subst (λ (o : Option (ℕ × ℕ)). IfSome o (λ s. IsPermutation going (s ∷ ended))) is moved

pub loop-cost-preserved : goal.loop-cost-preserved
loop-cost-preserved c =
    let going = c.loop-cost.going in
    let ended = c.end_first.new.self in
    let r : ℕ × ℕ = (c.in-Some.cost, c.in-Some.last) in
    let is : slice_get going 0 ≡ Some r = sym c.in-Some.ensures.first in
    first_dropped (edges_of c.args.edges.now) (edges_of c.loop-cost.edges) c.args.going.now going ended c.args.from c.loop-cost.at c.args.end r
    c.loop-cost.invariant is c.in-Some.ensures.most (omega (arith, c.if-at-from.false, c.from-in-Some.ensures)) (left going ended r is c.end_first.ensures)

pub loop-cost-preserved-then-at-from : goal.loop-cost-preserved-then-at-from
loop-cost-preserved-then-at-from c =
    let going = c.loop-cost.going in
    let ended = c.end_first.new.self in
    let r : ℕ × ℕ = (c.in-Some.cost, c.in-Some.last) in
    let is : slice_get going 0 ≡ Some r = sym c.in-Some.ensures.first in
    let next = edges_of c.add_places.new.self in
    subst (λ k. AreLaying (edges_of c.args.edges.now) next c.args.going.now ended c.args.from (k + 1) c.args.end) (sym c.from-at.ensures)
    (first_laid (edges_of c.args.edges.now) (edges_of c.loop-cost.edges) c.args.going.now going ended c.args.from c.loop-cost.at c.args.end r
    c.loop-cost.invariant is c.in-Some.ensures.most next (omega (arith, c.if-end-from.false, c.from.ensures)) (omega (arith, c.if-at-from.true, c.from-in-Some.ensures))
    (left going ended r is c.end_first.ensures) c.in_ok-add_places.ensures)

shorter : (going ended : List (ℕ × ℕ)) (r : ℕ × ℕ) → IsPermutation going (r ∷ ended) → length ended < length going
shorter going ended r moved = let same = length_permutation going (r ∷ ended) moved in omega (arith, same)

pub loop-cost-smaller : goal.loop-cost-smaller
loop-cost-smaller c =
    let r : ℕ × ℕ = (c.in-Some.cost, c.in-Some.last) in
    shorter c.loop-cost.going c.end_first.new.self r (left c.loop-cost.going c.end_first.new.self r (sym c.in-Some.ensures.first) c.end_first.ensures)

pub loop-cost-smaller-then-at-from : goal.loop-cost-smaller-then-at-from
loop-cost-smaller-then-at-from c =
    let r : ℕ × ℕ = (c.in-Some.cost, c.in-Some.last) in
    shorter c.loop-cost.going c.end_first.new.self r (left c.loop-cost.going c.end_first.new.self r (sym c.in-Some.ensures.first) c.end_first.ensures)

pub returns-then-end-from-clause-laid : goal.returns-then-end-from-clause-laid
returns-then-end-from-clause-laid c =
    let r : ℕ × ℕ = (c.in-Some.cost, c.in-Some.last) in
    on_ok_weaker c.lay_rest.result
    (λ adds.
    rest_laid (edges_of c.args.edges.now) (edges_of c.loop-cost.edges) c.args.going.now c.loop-cost.going [] c.args.from c.loop-cost.at c.args.end r
    c.loop-cost.invariant (sym c.in-Some.ensures.first) c.in-Some.ensures.most (omega (arith, c.if-end-from.true, c.from.ensures)) (edges_of c.lay_rest.new.edges) adds)
    c.lay_rest.ensures

pub returns-then-end-from-clause-go_on : goal.returns-then-end-from-clause-go_on
returns-then-end-from-clause-go_on c =
    on_ok_weaker c.lay_rest.result
    (λ adds. peaks_further (edges_of c.args.edges.now) (edges_of c.loop-cost.edges) c.args.going.now c.loop-cost.going c.args.from c.loop-cost.at c.args.end c.loop-cost.invariant)
    c.lay_rest.ensures

empty : (going : List (ℕ × ℕ)) → slice_get going 0 ≡ None → going ≡ []
empty [] none = refl
empty (r ∷ going) none = cc

pub returns-clause-laid : goal.returns-clause-laid
returns-clause-laid c =
    let none : c.loop-cost.going ≡ [] = empty c.loop-cost.going (sym c.in_default.ensures.first) in
    none_left (edges_of c.args.edges.now) (edges_of c.loop-cost.edges) c.args.going.now c.loop-cost.going c.args.from c.loop-cost.at c.args.end c.loop-cost.invariant none

pub returns-clause-go_on : goal.returns-clause-go_on
returns-clause-go_on c =
    peaks_further (edges_of c.args.edges.now) (edges_of c.loop-cost.edges) c.args.going.now c.loop-cost.going c.args.from c.loop-cost.at c.args.end c.loop-cost.invariant
