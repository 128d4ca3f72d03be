use Rattle.std.proofs.Common.{◌≡◌, get_or, arith, sym, ◌∙◌, ap, subst}
use Rattle.std.proofs.lemmas.Bool.{false≢true, iff_false}
use Rattle.std.specs.List.{list_all}
use Rattle.std.proofs.lemmas.List.Sums.{AllPass-from_list_all, list_all-from_AllPass}
use Rattle.std.proofs.lemmas.Option.{slice_get-get_or}
use Rattle.waff_core.specs.Orders.{MayStand}
use Rattle.waff_core.proofs.Ordering.{order_more, order_next, order_all, order_marks, lists_are_earlier}
use Rattle.waff_core.proofs.order.is_order.Goals as goal

pub loop-place-preserved : goal.loop-place-preserved
loop-place-preserved c =
    let order = c.args.order.now in
    let needs = c.args.needs.now in
    let place = c.loop-place.place in
    let n = get_or order place 0 in
    let may : MayStand needs c.loop-place.marks.items n
    = subst (λ marks. MayStand needs marks n) c.deref.ensures.value (c.may_stand.ensures.0 c.if-not-may_stand.false) in
    order_more needs order c.loop-place.marks.items place n (lists_are_earlier needs c.len.ensures.lists) (slice_get-get_or order place 0 c.loop-place-test.true) may c.loop-place.invariant

pub returns-then-not-may_stand : goal.returns-then-not-may_stand
returns-then-not-may_stand c =
    let order = c.args.order.now in
    let needs = c.args.needs.now in
    let place = c.loop-place.place in
    let n = get_or order place 0 in (
      λ no'. absurd (false≢true no'),
      λ o.
          let may = order_next needs order c.loop-place.marks.items place n (lists_are_earlier needs c.len.ensures.lists) (slice_get-get_or order place 0 c.loop-place-test.true) c.loop-place.invariant o in
          absurd (iff_false c.may_stand.ensures c.if-not-may_stand.true (subst (λ marks. MayStand needs marks n) (sym c.deref.ensures.value) may)),
    )

pub returns : goal.returns
returns c =
    let order = c.args.order.now in
    let needs = c.args.needs.now in
    let place = c.loop-place.place in
    let marks = c.loop-place.marks.items in
    let pass : c.are_all.result ≡ list_all (λ mark. mark) marks = c.are_all.ensures ∙ ap (λ xs. list_all (λ mark. mark) xs) c.deref-2.ensures.value in (
      λ is. order_all needs order marks place (omega arith) c.loop-place.invariant (AllPass-from_list_all (λ mark. mark) marks (sym pass ∙ is)),
      λ o. pass ∙ list_all-from_AllPass (λ mark. mark) marks (order_marks needs order marks place (omega arith) c.loop-place.invariant o),
    )
