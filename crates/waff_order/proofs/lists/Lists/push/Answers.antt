-- The list stands behind all others, and ends where all of them do.
use Rattle.std.proofs.Common.{◌≡◌, ◌+◌, ◌<◌, ◌++◌, ◌∷◌, [], length, sum_by, arith, rules, ◌∙◌, ap}
use Rattle.std.proofs.lemmas.List.{length-append}
use Rattle.waff_order.proofs.Parts.{parts_push, cuts_push, sum_by-parts}
use Rattle.waff_order.proofs.lists.Lists.push.Goals as goal

pub overflow_cast-len : goal.overflow_cast-len
overflow_cast-len g c =
    let all = c.self.inside.all.items in
    let whole = sum_by-parts all 0 c.self.inside.ends.items c.self.invariant in
    let view = ap (sum_by length) c.self.view_is in
    let sum : length all ≡ sum_by length c.args.self.now = omega (arith, whole, view) in
    let items : c.extend_from_slice.new.self.items ≡ all ++ c.args.list.now = c.in_ok-extend_from_slice.ensures.items in
    let long : length c.extend_from_slice.new.self.items ≡ length all + length c.args.list.now = ap length items ∙ length-append all c.args.list.now in
    let short : length c.extend_from_slice.new.self.items < 4294967296 = omega (arith, sum, long, c.requires.short) in
    search rules

pub invariant_of-self-2 : goal.invariant_of-self-2
invariant_of-self-2 g c =
    let all = c.self.inside.all.items in
    let list = c.args.list.now in
    let ends = c.self.inside.ends.items in
    let items : c.extend_from_slice.new.self.items ≡ all ++ list = c.in_ok-extend_from_slice.ensures.items in
    let last : c.len.result ≡ length (all ++ list) = search (rules, ap length items) in
    let pushed : c.push_reserved.new.self.items ≡ ends ++ length (all ++ list) ∷ []
    = c.push_reserved.ensures.items ∙ ap (λ xs. xs ++ c.len.result ∷ []) c.in_ok-reserve.ensures.items ∙ ap (λ end. ends ++ end ∷ []) last in
    rw (items, pushed) (cuts_push all list 0 ends c.self.invariant)

pub returns-clause-pushed : goal.returns-clause-pushed
returns-clause-pushed g c =
    let all = c.self.inside.all.items in
    let list = c.args.list.now in
    let ends = c.self.inside.ends.items in
    let items : c.extend_from_slice.new.self.items ≡ all ++ list = c.in_ok-extend_from_slice.ensures.items in
    let last : c.len.result ≡ length (all ++ list) = search (rules, ap length items) in
    let pushed : c.push_reserved.new.self.items ≡ ends ++ length (all ++ list) ∷ []
    = c.push_reserved.ensures.items ∙ ap (λ xs. xs ++ c.len.result ∷ []) c.in_ok-reserve.ensures.items ∙ ap (λ end. ends ++ end ∷ []) last in
    rw (items, pushed) (parts_push all list 0 ends c.self.invariant ∙ ap (λ lists. lists ++ list ∷ []) c.self.view_is)
