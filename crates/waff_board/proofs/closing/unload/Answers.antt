use Rattle.std.proofs.Common.{◌≡◌, ⊎_elim, ◌<◌, false, [], ◌∷◌, ◌++◌, set, get_or, arith, sym, ap, ◌∙◌, get_or-set_other, get_or-set_same}
use Rattle.std.proofs.lemmas.Bool.{cases_eq}
use lib.ListN.{get_elem?}
use Rattle.std.specs.Slots.{slots_items, slots_filled, slots_len, slots_counts}
use Rattle.waff_board.proofs.Takings.{take_there}
use Rattle.waff_board.proofs.closing.unload.Goals as goal

pub loop-a-preserved : goal.loop-a-preserved
loop-a-preserved c =
    let before = c.loop-a.closed.slots in
    let a = c.loop-a.a in
    let inv = c.loop-a.invariant in
    let others = c.take.ensures.others in
    let count = (slots_counts before).1 in
    let within : a < slots_len before = omega (arith, c.loop-a-test.true, c.slot_count-a-end.ensures, inv.3) in (
      (λ k from to.
          ap (λ bs. get_or bs k false) others.1
          ∙ get_or-set_other (slots_filled before) a k false false (omega (arith, from))
          ∙ inv.0 k (omega (arith, from)) (omega (arith, to, others.2))),
      (λ k to. ⊎_elim {C = get_or (slots_filled c.take.new.self.slots) k false ≡ false}
          (λ (same : a ≡ k).
          ap (λ bs. get_or bs k false) others.1
          ∙ ap (λ i. get_or (set (slots_filled before) i false) k false) same
          ∙ get_or-set_same (slots_filled before) k false false (omega (arith, same, within, count)))
          (λ (other : a ≡ k → ⊥).
          ap (λ bs. get_or bs k false) others.1
          ∙ get_or-set_other (slots_filled before) a k false false (λ same. other (sym same))
          ∙ inv.1 k (omega (arith, to, other)))
          (cases_eq a k)),
      others.0 ∙ inv.2,
      others.2 ∙ inv.3,
      c.push_reserved.ensures.items
          ∙ ap (λ xs. xs ++ c.take.result ∷ []) inv.4
          ∙ take_there (slots_items c.args.closed.slots) a c.take.result (ap (λ xs. get_elem? xs a) (sym inv.2) ∙ c.take.ensures.value),
      c.push_reserved.ensures.capacity ∙ inv.5,
    )
