use Rattle.std.proofs.Common.{◌≡◌, ◌+◌, ◌*◌, ◌^◌, ◌<◌, ◌≤◌, ◌∷◌, [], ◌++◌, List, All, None, Some, true, not, cond, slice_get, length, get_or, take, arith, refl, sym, ◌∙◌, ap, subst}
use Rattle.std.specs.List.{list_any}
use Rattle.std.proofs.lemmas.List.{take_all, take_more}
use Rattle.waff_figures.specs.WaitRows.{kind_in, rows_by, rows_with, same_in}
use Rattle.waff_figures.specs.declared.waits.Wait.{Wait}
use Rattle.waff_figures.proofs.WaitKinds.{AreSoFar, Kind, all_with, inside_if_old, kind_eq, one_more}
use Rattle.waff_figures.proofs.wait_rows.gathered_by.Goals as goal

abbrev no_wait : Wait
no_wait = record { message = 0; on = None; by = None; ticks = 0 }

pub loop-wait-init : goal.loop-wait-init
loop-wait-init c = record {
  told = record { rows_are = c.new-rows.ensures.items; kinds = c.requires.none };
  few = λ k d low. absurd (omega (arith, low, ap length c.new-rows.ensures.items));
  short = λ k d low. absurd (omega (arith, low, ap length c.new-rows.ensures.items));
}

pub loop-wait-preserved : goal.loop-wait-preserved
loop-wait-preserved c =
    let groups = c.args.groups.now in
    let cells = c.args.cells.now in
    let waits = c.args.waits.now in
    let i = c.loop-wait.wait-index in
    let low : i < length waits = c.loop-wait-test.true in
    let w : Wait = get_or waits i no_wait in
    let before : List Wait = take i waits in
    let rows = c.loop-wait.rows.items in
    let keys = c.loop-wait.kinds.keys in
    let new_keys = c.insert_full.new.self.keys in
    let place = c.in_ok-place.place in
    let is_new = c.in_ok-place.is_new in
    let are = c.loop-wait.invariant.told in
    let kind = c.kind.ensures in
    let placed = subst (λ k. (key : Kind) × (slice_get new_keys place ≡ Some key) × (kind_eq k key ≡ true)) kind c.in_ok-place.ensures.stored in
    let among = list_any (kind_eq (kind_in groups cells w)) keys in
    let added : is_new ≡ not among = subst (λ k. is_new ≡ not (list_any (kind_eq k) keys)) kind c.in_ok-place.ensures.added in
    let keys_are : new_keys ≡ cond among keys (keys ++ kind_in groups cells w ∷ [])
    = subst (λ k. new_keys ≡ cond (list_any (kind_eq k) keys) keys (keys ++ k ∷ [])) kind c.in_ok-place.ensures.keys in
    let inside = inside_if_old groups cells before w rows keys new_keys place are is_new among added keys_are placed in
    let rows_are : c.tell.new.rows.items ≡ rows_with rows place is_new w = c.in_ok-tell.ensures.told in
    let small : w.ticks < 2 ^ 64 = c.in_ok-tell.ensures.small in
    let more = one_more groups cells before w rows keys new_keys place are is_new among refl added keys_are placed in
    record {
      told = subst (λ rs. AreSoFar groups cells (take (i + 1) waits) rs new_keys) (sym rows_are)
          (subst (λ ws. AreSoFar groups cells ws (rows_with rows place is_new w) new_keys) (sym (take_more waits i no_wait low)) more);
      few = subst (All (λ r. r.messages ≤ i + 1)) (sym rows_are)
          (all_with (λ r. r.messages ≤ i) (λ r. r.messages ≤ i + 1) rows place is_new w c.loop-wait.invariant.few
          (λ r h. omega (arith, h)) (omega arith) inside (λ r h. omega (arith, h)));
      short = subst (All (λ r. r.ticks ≤ 2 ^ 64 * (i + 1))) (sym rows_are)
          (all_with (λ r. r.ticks ≤ 2 ^ 64 * i) (λ r. r.ticks ≤ 2 ^ 64 * (i + 1)) rows place is_new w c.loop-wait.invariant.short
          (λ r h. omega (arith, h)) (omega (arith, small)) inside (λ r h. omega (arith, h, small)));
    }

pub returns : goal.returns
returns c =
    c.loop-wait.invariant.told.rows_are
    ∙ ap (rows_by (same_in c.args.groups.now c.args.cells.now)) (take_all c.loop-wait.wait-index c.args.waits.now c.loop-wait-test.false)
