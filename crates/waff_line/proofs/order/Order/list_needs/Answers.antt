use Rattle.std.proofs.Common.{◌∷◌, ◌++◌, [], map, take, get_or, sym, ◌∙◌, ap, arith}
use Rattle.std.proofs.lemmas.List.{map_push, take_more}
use Rattle.waff_line.specs.Lined.{served_at}
use Rattle.waff_line.proofs.order.Order.list_needs.Goals as goal

pub loop-need-preserved : goal.loop-need-preserved
loop-need-preserved c =
    let names = served_at c.args.self.now.messages.items in
    let places = c.of-need-items.result.now in
    let at = c.loop-need.need-index in
    c.in_ok-push.ensures.items
    ∙ ap (λ xs. xs ++ c.message.result ∷ []) c.loop-need.invariant
    ∙ ap (λ x. map names (take at places) ++ x ∷ []) c.message.ensures
    ∙ sym (map_push names (take at places) (get_or places at 0))
    ∙ ap (map names) (sym (take_more places at 0 (omega (arith, c.loop-need-test.true, c.loop-need.auto.need-index-end))))
