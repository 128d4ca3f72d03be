use Rattle.std.proofs.Common.{◌≡◌, ◌+◌, ◌∷◌, [], length, rules, sym, ap, subst}
use Rattle.waff_order.specs.Takers.{IsChain}
use Rattle.waff_order.proofs.TakerLemmas.{chain_kept, chain_push}
use Rattle.waff_order.proofs.takers.Takers.link.Goals as goal

pub returns-clause-chain : goal.returns-clause-chain
returns-clause-chain c = λ sharers h.
    let pushed = c.in_ok-push.ensures.items in
    let at : c.len-2.result ≡ length c.args.self.now.chain.items + 1 = search (rules, ap length pushed) in
    subst (λ xs. IsChain xs c.len-2.result (c.args.m ∷ sharers)) (sym pushed)
    (chain_push c.args.self.now.chain.items c.args.m c.args.next c.len-2.result sharers at h)

pub returns-clause-others : goal.returns-clause-others
returns-clause-others c = λ at sharers h.
    subst (λ xs. IsChain xs at sharers) (sym c.in_ok-push.ensures.items)
    (chain_kept c.args.self.now.chain.items (record { message = c.args.m; next = c.args.next } ∷ []) at sharers h)
