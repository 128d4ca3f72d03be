use Rattle.std.proofs.Common.{◌≡◌, ◌+◌, ◌<◌, Bool, List, length, arith, sym, ◌∙◌, ap, subst}
use Rattle.std.proofs.lemmas.List.{with_items_is}
use Rattle.waff_draw.specs.Lanes.{is_among}
use Rattle.waff_draw.proofs.LaneLemmas.{Tells}
use Rattle.waff_draw.proofs.WayLemmas.{tells_else, tells_then, ways_to}
use Rattle.waff_draw.proofs.lanes.used_below.Goals as goal
use Rattle.waff_draw.proofs.lanes.used_below.Goals.{then-used-affinity, else-used-affinity}

pub loop-affinity-preserved : goal.loop-affinity-preserved
loop-affinity-preserved c =
    let tree = c.args.tree.now in
    let k = c.loop-affinity.affinity in
    let low : k < length tree = omega (arith, c.loop-affinity-test.true, c.len-affinity-end.ensures.count) in
    elim c.if-used-affinity.branch [
      | then-used-affinity w ↦
          let old = w.deref_mut.result.now in
          let now = w.mark_way.new.marks in
          let long : length now ≡ length old
          = omega (arith, w.mark_way.ensures.count, ap length w.deref_mut.ensures.value, c.loop-affinity.invariant.count) in
          let is : c.if-used-affinity.marks.items ≡ now
          = ap (λ v. v.items) w.marks-is ∙ with_items_is c.loop-affinity.marks now (long ∙ w.deref_mut.ensures.len) in
          record {
            count = ap length is ∙ w.mark_way.ensures.count;
            tells = λ assigned each.
                subst (λ (ms : List Bool). Tells ms (ways_to tree assigned (k + 1))) (sym is)
                (tells_then tree assigned k old now (sym (each k low) ∙ w.if-used-affinity.true)
                long w.mark_way.ensures.each
                (subst (λ (ms : List Bool). Tells ms (ways_to tree assigned k)) (sym w.deref_mut.ensures.value) (c.loop-affinity.invariant.tells assigned each)));
          }
      | else-used-affinity w ↦
          let is : c.if-used-affinity.marks.items ≡ c.loop-affinity.marks.items = ap (λ v. v.items) w.marks-is in
          record {
            count = ap length is ∙ c.loop-affinity.invariant.count;
            tells = λ assigned each.
                subst (λ (ms : List Bool). Tells ms (ways_to tree assigned (k + 1))) (sym is)
                (tells_else tree assigned k c.loop-affinity.marks.items (sym (each k low) ∙ w.if-used-affinity.false) (c.loop-affinity.invariant.tells assigned each));
          }
    ]

pub returns-clause-each : goal.returns-clause-each
returns-clause-each c assigned each a low =
    let tree = c.args.tree.now in
    let end : c.loop-affinity.affinity ≡ length tree
    = omega (arith, c.loop-affinity-test.false, c.loop-affinity.auto.affinity-end, c.len-affinity-end.ensures.count) in
    c.loop-affinity.invariant.tells assigned each a (omega (arith, low, c.loop-affinity.invariant.count))
    ∙ ap (λ k. is_among (ways_to tree assigned k) a) end
