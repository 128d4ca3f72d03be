use Rattle.std.proofs.Common.{◌≡◌, ◌≤◌, ◌<◌, length, get_or, set, arith, rules, refl, sym, ap, ◌∙◌}
use Rattle.std.proofs.lemmas.List.{length-set}
use Rattle.waff_model.proofs.SpanLemmas.{map_in-none, map_in-more}
use Rattle.waff_model.proofs.spans.note_each.Goals as goal

pub loop-place-preserved : goal.loop-place-preserved
loop-place-preserved g c =
    let join = g.T.Later.join in
    let old = c.args.values.now in
    let values = c.loop-place.values in
    let p = c.loop-place.place in
    let x = c.args.value in
    let h = c.loop-place.invariant in
    let one = c.index-values-place.result in
    let within : p < length old = omega (arith, c.loop-place-test.true, c.requires.within) in
    let forward : c.args.from ≤ p = omega (arith, c.loop-place.auto.place) in
    let read : one ≡ get_or values p one = search rules in
    record {
      noted = ap (set values p) (c.later.ensures ∙ ap (λ v. join.later v x) read)
          ∙ ap (λ xs. set xs p (join.later (get_or xs p one) x)) h.noted ∙ map_in-more (λ v. join.later v x) old c.args.from p one forward within;
      count = length-set values p c.later.result ∙ h.count;
    }

pub loop-place-init : goal.loop-place-init
loop-place-init g c = record { noted = sym (map_in-none (λ v. g.T.Later.join.later v c.args.value) c.args.values.now c.args.from); count = refl }
