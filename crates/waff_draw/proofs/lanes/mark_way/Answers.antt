use Rattle.std.proofs.Common.{◌≡◌, ◌<◌, ◌||◌, ℕ, suc, Option, Some, None, true, false, get_or, length, set, arith, refl, sym, ◌∙◌, ap, length-set}
use Rattle.std.specs.Prelude.{option_map}
use Rattle.std.proofs.Math.Bool.{or-false}
use Rattle.waff_model.specs.Tree.{parent_of}
use Rattle.waff_draw.specs.Lanes.{is_among, way_to}
use Rattle.waff_draw.proofs.WayLemmas.{marked_step, steps_from, steps_less, way_from, way_step}
use Rattle.waff_draw.proofs.lanes.mark_way.Goals as goal

pub loop-next-init : goal.loop-next-init
loop-next-init c = record {
  count = c.requires.count;
  known = λ a is. let same : c.args.affinity.0 ≡ a = cc in omega (arith, same, c.requires.known);
  each = λ n. refl;
}

pub bounds-marks-above : goal.bounds-marks-above
bounds-marks-above c =
    let low = c.loop-next.invariant.known c.in-Some.above.0 (ap (option_map (λ a. a.0)) c.in-Some.is) in
    omega (arith, low, c.loop-next.invariant.count)

pub parent-next-requires : goal.parent-next-requires
parent-next-requires c = c.loop-next.invariant.known c.in-Some.above.0 (ap (option_map (λ a. a.0)) c.in-Some.is)

pub loop-next-smaller : goal.loop-next-smaller
loop-next-smaller c =
    let a = c.in-Some.above.0 in
    let from : steps_from (option_map (λ a. a.0) c.loop-next.next) ≡ suc a = ap (λ o. steps_from (option_map (λ a. a.0) o)) c.in-Some.is in
    let to : steps_from (option_map (λ a. a.0) c.parent-next.result) ≡ steps_from (parent_of c.args.tree.now a) = ap steps_from c.parent-next.ensures in
    let less : steps_from (option_map (λ a. a.0) c.parent-next.result) < steps_from (option_map (λ a. a.0) c.loop-next.next)
    = omega (arith, from, to, steps_less c.args.tree.now c.len-affinities.ensures.tree.rooted a) in
    less

pub loop-next-preserved : goal.loop-next-preserved
loop-next-preserved c =
    let tree = c.args.tree.now in
    let rooted = c.len-affinities.ensures.tree.rooted in
    let marks = c.loop-next.marks in
    let a = c.in-Some.above.0 in
    let is : option_map (λ a. a.0) c.loop-next.next ≡ Some a = ap (option_map (λ a. a.0)) c.in-Some.is in
    let low : a < length tree = c.loop-next.invariant.known a is in
    record {
      count = length-set marks a true ∙ c.loop-next.invariant.count;
      known = λ p above. omega (arith, rooted.earlier a p (sym c.parent-next.ensures ∙ above), low);
      each = λ n.
          ap (λ (o : Option ℕ). get_or (set marks a true) n false || is_among (way_from tree o) n) c.parent-next.ensures
          ∙ marked_step marks a (way_from tree (parent_of tree a)) (way_to tree a) (omega (arith, low, c.loop-next.invariant.count)) (way_step tree rooted a low) n
          ∙ sym (ap (λ (o : Option ℕ). get_or marks n false || is_among (way_from tree o) n) is)
          ∙ c.loop-next.invariant.each n;
    }

pub returns-clause-each : goal.returns-clause-each
returns-clause-each c n =
    let tree = c.args.tree.now in
    let marks = c.loop-next.marks in
    let none : option_map (λ a. a.0) c.loop-next.next ≡ None = ap (option_map (λ a. a.0)) c.in_default.is in
    sym (or-false (get_or marks n false))
    ∙ sym (ap (λ (o : Option ℕ). get_or marks n false || is_among (way_from tree o) n) none)
    ∙ c.loop-next.invariant.each n
