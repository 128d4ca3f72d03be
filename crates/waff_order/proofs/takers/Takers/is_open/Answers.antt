use Rattle.std.proofs.Common.{◌≡◌, ◌-◌, ◌≤◌, rules, ◌∙◌, subst}
use Rattle.std.proofs.lemmas.Bool.{leb-true}
use Rattle.std.proofs.lemmas.List.{get_or_default}
use Rattle.waff_order.specs.Takers.{sharer_at}
use Rattle.waff_order.specs.declared.takers.Sharer.{Sharer}
use Rattle.waff_order.proofs.TakerLemmas.{opened_alone, opened_first, walk_within}
use Rattle.waff_order.proofs.takers.Takers.is_open.Goals as goal

pub returns-then-taken-root : goal.returns-then-taken-root
returns-then-taken-root c = λ t sharers h.
    (c.args.taken.alone, opened_alone c.args.root c.args.taken.alone sharers c.if-taken-gt0.true c.if-taken-root.true)

pub index-requires : goal.index-requires
index-requires c =
    let within = walk_within c.args.self.now.chain.items c.args.taken.sharers c.requires.chain.0 c.if-taken-gt0-2.true c.requires.chain.1 in
    search (rules, within)

pub returns-then-taken-gt0-2 : goal.returns-then-taken-gt0-2
returns-then-taken-gt0-2 c = λ t sharers h.
    let chain = c.args.self.now.chain.items in
    let at = c.args.taken.sharers in
    let within = walk_within chain at sharers c.if-taken-gt0-2.true h in
    let is : c.index.result.now ≡ sharer_at chain at = c.index.ensures ∙ get_or_default chain (at - 1) _ _ within in
    opened_first chain c.args.root c.args.taken.alone at sharers h c.if-taken-gt0-2.true
    (subst (λ (s : Sharer). c.args.root ≤ s.message) is (leb-true c.args.root c.index.result.now.message t))
