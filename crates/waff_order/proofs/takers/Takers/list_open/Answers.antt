use Rattle.std.proofs.Common.{◌≡◌, ◌-◌, ◌++◌, List, ℕ, arith, rules, sym, ◌∙◌, subst}
use Rattle.std.proofs.lemmas.List.{get_or_default}
use Rattle.waff_order.specs.Takers.{IsChain, opened_at, sharer_at, since}
use Rattle.waff_order.proofs.TakerLemmas.{walk_breaks, walk_down, walk_ends, walk_on, walk_within}
use Rattle.waff_order.proofs.takers.Takers.list_open.Goals as goal

pub index-sharer-requires : goal.index-sharer-requires
index-sharer-requires c =
    let there = c.loop-at.invariant c.requires.chain.0 c.requires.chain.1 in
    let within = walk_within c.args.self.now.chain.items c.loop-at.at there.0 c.loop-at-test.true there.1 in
    search (rules, within)

pub loop-at-smaller : goal.loop-at-smaller
loop-at-smaller c =
    let chain = c.args.self.now.chain.items in
    let at = c.loop-at.at in
    let there = c.loop-at.invariant c.requires.chain.0 c.requires.chain.1 in
    let within = walk_within chain at there.0 c.loop-at-test.true there.1 in
    let is : c.index-sharer.result.now ≡ sharer_at chain at = c.index-sharer.ensures ∙ get_or_default chain (at - 1) _ _ within in
    walk_down chain at there.0 c.index-sharer.result.now is c.loop-at-test.true there.1

pub loop-at-preserved : goal.loop-at-preserved
loop-at-preserved c = λ all h.
    let chain = c.args.self.now.chain.items in
    let at = c.loop-at.at in
    let goes = c.args.needs.now.items ++ opened_at c.args.root (record { alone = c.args.taken.alone; sharers = all }) in
    let there = c.loop-at.invariant all h in
    let within = walk_within chain at there.0 c.loop-at-test.true there.1 in
    let s = c.index-sharer.result.now in
    let is : s ≡ sharer_at chain at = c.index-sharer.ensures ∙ get_or_default chain (at - 1) _ _ within in
    subst (λ xs. (rest : List ℕ) × IsChain chain s.next rest × (xs ++ since c.args.root rest ≡ goes)) (sym c.in_ok-push-2.ensures.items)
    (walk_on chain c.args.root at c.loop-at.needs.items goes there.0 s is c.loop-at-test.true c.if-sharer-root.false there.1 there.2)

pub returns-after-loop-at : goal.returns-after-loop-at
returns-after-loop-at c = λ all h.
    let there = c.loop-at.invariant all h in
    walk_ends c.args.self.now.chain.items c.args.root c.loop-at.at c.loop-at.needs.items
    (c.args.needs.now.items ++ opened_at c.args.root (record { alone = c.args.taken.alone; sharers = all })) there.0
    (let test = c.loop-at-test.false in omega arith) there.1 there.2

pub returns-then-sharer-root : goal.returns-then-sharer-root
returns-then-sharer-root c = λ all h.
    let chain = c.args.self.now.chain.items in
    let at = c.loop-at.at in
    let there = c.loop-at.invariant all h in
    let within = walk_within chain at there.0 c.loop-at-test.true there.1 in
    let s = c.index-sharer.result.now in
    let is : s ≡ sharer_at chain at = c.index-sharer.ensures ∙ get_or_default chain (at - 1) _ _ within in
    walk_breaks chain c.args.root at c.loop-at.needs.items
    (c.args.needs.now.items ++ opened_at c.args.root (record { alone = c.args.taken.alone; sharers = all })) there.0 s is c.if-sharer-root.true
    there.1 there.2
