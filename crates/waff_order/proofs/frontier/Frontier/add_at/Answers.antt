use Rattle.std.proofs.Common.{length, set, arith, ◌∙◌, ap}
use Rattle.waff_model.proofs.SpanLemmas.{length-map_in}
use Rattle.waff_order.proofs.frontier.Frontier.add_at.Goals as goal

pub put-requires : goal.put-requires
put-requires c =
    let long = ap length c.in_ok-take.ensures.closed ∙ length-map_in (λ n. 0) c.args.self.now.opened c.args.span.first c.args.span.end in
    omega (arith, long, c.requires.forward, c.requires.within)

pub returns-clause-opened : goal.returns-clause-opened
returns-clause-opened c = c.put.ensures ∙ ap (λ xs. set xs c.args.span.first c.args.m) c.in_ok-take.ensures.closed
