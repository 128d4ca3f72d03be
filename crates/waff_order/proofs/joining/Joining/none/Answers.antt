use Rattle.std.proofs.Common.{ap, ◌∙◌, replicate}
use Rattle.waff_order.proofs.OneMore.{joined_none}
use Rattle.waff_order.proofs.joining.Joining.none.Goals as goal

pub returns : goal.returns
returns c = record {
  joined = λ spans nested. joined_none c.args.tree.now spans _ c.in_ok-with_capacity.ensures
      (c.in_ok-none.ensures.opened ∙ ap (λ n. replicate n 0) c.len.ensures.count)
      (c.in_ok-none.ensures.latest ∙ ap (λ n. replicate n 0) c.len.ensures.count)
      c.none-2.ensures.locks c.len.ensures.tree nested;
}
