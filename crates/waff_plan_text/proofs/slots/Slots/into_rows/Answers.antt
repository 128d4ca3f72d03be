-- The rows so far are those of the places so far.
use Rattle.std.proofs.Common.{[], ◌∷◌, length, sym, ap, ◌∙◌, arith, length-append}
use Rattle.std.specs.Prelude.{IfSome}
use Rattle.std.specs.Vec.Iter.{into_iter_items}
use Rattle.std.proofs.lemmas.List.Elements.{All-push, All-nil}
use Rattle.waff_plan_text.specs.Rows.{IsWithinLimit}
use Rattle.waff_plan_text.proofs.SlotLaws.{All-first, All-others, rows-end, rows-missing, rows-start, rows-step}
use Rattle.waff_plan_text.proofs.slots.Slots.into_rows.Goals as goal

pub loop-place-init : goal.loop-place-init
loop-place-init c =
    let i = c.into_iter-place-iterator.ensures.into_iter_gives in
    let items = i.0 ∙ c.self.view_is in
    let none = c.in_ok-rows.ensures.items in
    record {
      left = i.1 ∙ c.self.inside.places.ok.0 ∙ sym (ap length i.0);
      turn = omega (arith, ap length items);
      count = ap length none;
      room = omega (arith, c.in_ok-rows.ensures.capacity, c.len.ensures, c.self.inside.places.ok.0, ap length c.self.view_is);
      within = rw none (All-nil IsWithinLimit);
      slots = rw i.0 c.self.invariant.1;
      rows = rows-start c.args.self _ _ none items;
    }

pub returns-in-None-place-clause-rows : goal.returns-in-None-place-clause-rows
returns-in-None-place-clause-rows c =
    let s = c.in-Some.ensures.steps in
    sym c.loop-place.invariant.rows ∙ rows-missing c.loop-place.rows.items c.loop-place.before _ _ _ s.0 c.in-None-place.is

pub push_reserved-requires : goal.push_reserved-requires
push_reserved-requires c =
    let i = c.loop-place.invariant in
    omega (arith, ap length c.in-Some.ensures.steps.0, i.turn, i.count, i.room)

pub loop-place-preserved : goal.loop-place-preserved
loop-place-preserved c =
    let s = c.in-Some.ensures.steps in
    let p = c.push_reserved.ensures in
    let i = c.loop-place.invariant in
    let len = ap length s.0 in
    let one : IfSome c.in-Some.place IsWithinLimit = All-first (λ slot. IfSome slot IsWithinLimit) _ _ _ s.0 i.slots in
    record {
      left = omega (arith, len, i.left, s.1);
      turn = omega (arith, len, i.turn);
      count = omega (arith, ap length p.items, length-append c.loop-place.rows.items (c.in-Some-place.row ∷ []), i.count);
      room = rw p.capacity i.room;
      within = rw p.items (All-push IsWithinLimit c.loop-place.rows.items c.in-Some-place.row i.within (rw c.in-Some-place.is at one));
      slots = All-others (λ slot. IfSome slot IsWithinLimit) _ _ _ s.0 i.slots;
      rows = rows-step c.loop-place.rows.items c.push_reserved.new.self.items c.loop-place.before _ _ _ c.in-Some-place.row s.0 c.in-Some-place.is p.items ∙ i.rows;
    }

pub returns-clause-rows : goal.returns-clause-rows
returns-clause-rows c =
    let s = c.in-None.ensures.steps in
    let i = c.loop-place.invariant in
    sym i.rows ∙ rows-end c.loop-place.rows.items c.loop-place.before (into_iter_items c.loop-place.place-iterator) (sym i.left ∙ s.0)
