use Rattle.std.proofs.Common.{◌≡◌, ◌+◌, ◌*◌, ◌^◌, ◌<◌, ◌≤◌, ◌∷◌, [], ◌++◌, List, All, Some, true, not, cond, slice_get, length, get_or, take, arith, refl, sym, ◌∙◌, ap, subst}
use Rattle.std.specs.List.{list_any}
use Rattle.std.proofs.lemmas.List.{take_all, take_more}
use Rattle.waff_model.specs.declared.cell.Cell.{Cell}
use Rattle.waff_limits.specs.WhyRows.{kind_in, rows_by, rows_with, same_group}
use Rattle.waff_limits.specs.declared.lifted.Lift.{Lift}
use Rattle.waff_limits.proofs.LiftRows.{AreSoFar, Kind, all_with, inside_if_old, kind_eq, one_more}
use Rattle.waff_limits.proofs.why_rows.gathered_by.Goals as goal

abbrev no_cell : Cell
no_cell = record { space = 0; index = 0 }

abbrev no_lift : Lift
no_lift = record { message = 0; cost = 0; cell = no_cell; other = no_cell }

pub loop-lift-init : goal.loop-lift-init
loop-lift-init c = record {
  told = record { rows_are = c.new-rows.ensures.items; kinds = c.requires.none };
  few = λ k d low. absurd (omega (arith, low, ap length c.new-rows.ensures.items));
  small = λ k d low. absurd (omega (arith, low, ap length c.new-rows.ensures.items));
}

pub loop-lift-preserved : goal.loop-lift-preserved
loop-lift-preserved c =
    let groups = c.args.groups.now in
    let spaces = c.args.layout.now.spaces in
    let lifts = c.args.lifts.now in
    let i = c.loop-lift.lift-index in
    let low : i < length lifts = c.loop-lift-test.true in
    let l : Lift = get_or lifts i no_lift in
    let before : List Lift = take i lifts in
    let rows = c.loop-lift.rows.items in
    let keys = c.loop-lift.kinds.keys in
    let new_keys = c.insert_full.new.self.keys in
    let place = c.in_ok-place.place in
    let is_new = c.in_ok-place.is_new in
    let are = c.loop-lift.invariant.told in
    let kind = c.kind.ensures in
    let placed = subst (λ k. (key : Kind) × (slice_get new_keys place ≡ Some key) × (kind_eq k key ≡ true)) kind c.in_ok-place.ensures.stored in
    let among = list_any (kind_eq (kind_in groups spaces l)) keys in
    let added : is_new ≡ not among = subst (λ k. is_new ≡ not (list_any (kind_eq k) keys)) kind c.in_ok-place.ensures.added in
    let keys_are : new_keys ≡ cond among keys (keys ++ kind_in groups spaces l ∷ [])
    = subst (λ k. new_keys ≡ cond (list_any (kind_eq k) keys) keys (keys ++ k ∷ [])) kind c.in_ok-place.ensures.keys in
    let inside = inside_if_old groups spaces before l rows keys new_keys place are is_new among added keys_are placed in
    let rows_are : c.tell.new.rows.items ≡ rows_with rows place is_new l = c.in_ok-tell.ensures.told in
    let small : l.cost < 2 ^ 32 = c.in_ok-tell.ensures.small in
    let more = one_more groups spaces before l rows keys new_keys place are is_new among refl added keys_are placed in
    record {
      told = subst (λ rs. AreSoFar groups spaces (take (i + 1) lifts) rs new_keys) (sym rows_are)
          (subst (λ ls. AreSoFar groups spaces ls (rows_with rows place is_new l) new_keys) (sym (take_more lifts i no_lift low)) more);
      few = subst (All (λ r. r.messages ≤ i + 1)) (sym rows_are)
          (all_with (λ r. r.messages ≤ i) (λ r. r.messages ≤ i + 1) rows place is_new l c.loop-lift.invariant.few
          (λ r h. omega (arith, h)) (omega arith) inside (λ r h. omega (arith, h)));
      small = subst (All (λ r. r.cost ≤ 2 ^ 32 * (i + 1))) (sym rows_are)
          (all_with (λ r. r.cost ≤ 2 ^ 32 * i) (λ r. r.cost ≤ 2 ^ 32 * (i + 1)) rows place is_new l c.loop-lift.invariant.small
          (λ r h. omega (arith, h)) (omega (arith, small)) inside (λ r h. omega (arith, h, small)));
    }

pub returns : goal.returns
returns c =
    c.loop-lift.invariant.told.rows_are
    ∙ ap (rows_by (same_group c.args.groups.now c.args.layout.now.spaces)) (take_all c.loop-lift.lift-index c.args.lifts.now c.loop-lift-test.false)
