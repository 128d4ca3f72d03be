use Rattle.std.proofs.Common.{◌≡◌, ℕ, ◌+◌, ◌-◌, ◌*◌, ◌/◌, ◌<◌, ◌≤◌, ◌++◌, true, false, inl, inr, length, get_or, set, nat_lt, min, max, arith, refl, sym, ap, ◌∙◌, subst}
use Rattle.std.proofs.lemmas.Bool.{cases_lt}
use Rattle.std.proofs.lemmas.Bool.Decides.{nat_tests}
use Rattle.std.proofs.lemmas.List.{append-nil, append_assoc, get_or_read, with_items_is}
use Rattle.waff_model.specs.Blocks.{AreFilled, AreBelow}
use Rattle.waff_model.specs.Spans.{map_in, messages_in}
use Rattle.waff_model.proofs.SpanLemmas.{length-map_in, map_in-none, map_in-join, messages_in-here, messages_in-join, map_in-empty, messages_in-empty}
use Rattle.waff_model.proofs.TakeLemmas.{filled_taken, below_left, below_from, taken_rest}
use Rattle.waff_model.proofs.spans.Opened.take.Goals as goal

-- a run that is not less than a block is one
whole_block : (at end to : ℕ) → end ≡ min to ((at / 64 + 1) * 64) → at < to → nat_lt (end - at) 64 ≡ false
    → (at ≡ 64 * (at / 64)) × (end ≡ 64 * (at / 64) + 64)
whole_block at end to is more long =
    let all : 64 ≤ end - at = grind (arith, nat_tests) in
    (omega arith, omega arith)

pub loop-at-preserved-then-index : goal.loop-at-preserved-then-index
loop-at-preserved-then-index c =
    let from = c.args.from in
    let old = c.self.inside.places.items in
    let mid = c.loop-at.self-inside.places in
    let new = c.take_each.new.places in
    let filled = c.loop-at.self-inside.blocks.items in
    let before = c.reserve.new.self.items in
    let at = c.loop-at.at in
    let end = c.min-end.result in
    let h = c.loop-at.invariant in
    let until = c.min-until.result in
    let is : end ≡ min until ((at / 64 + 1) * 64) = c.min-end.ensures in
    let more : at < until = c.loop-at-test.true in
    let same = ap length c.self.view_is in
    let count = c.take_each.ensures.count ∙ ap length c.deref_mut.ensures.value in
    let long = ap length h.closed ∙ length-map_in (λ m. 0) old from at in
    let kept = with_items_is mid new (count ∙ sym mid.ok.0) ∙ c.take_each.ensures.closed ∙ ap (λ xs. map_in (λ m. 0) xs at end) c.deref_mut.ensures.value in
    let flag = nat_lt (end - at) 64 in
    record {
      forward = omega (arith, h.forward);
      within = omega arith;
      end = h.end;
      filled = subst (λ xs. AreFilled xs (set filled (at / 64) flag)) (sym kept)
          (filled_taken mid.items at end filled (at / 64) flag refl (omega arith) (omega (arith, h.filled.room, long, more, same, c.requires.within))
          (λ long. whole_block at end until is more long) h.filled);
      taken = c.take_each.ensures.taken ∙ ap (λ xs. c.loop-at.list.items ++ messages_in xs at end) (c.deref_mut.ensures.value ∙ h.closed)
          ∙ ap (λ xs. xs ++ messages_in (map_in (λ m. 0) old from at) at end) h.taken
          ∙ append_assoc before (messages_in old from at) (messages_in (map_in (λ m. 0) old from at) at end)
          ∙ ap (λ ys. before ++ ys) (sym (messages_in-join old from at end h.forward (omega arith)));
      closed = kept ∙ ap (λ xs. map_in (λ m. 0) xs at end) h.closed ∙ map_in-join (λ m. 0) old from at end h.forward (omega arith);
      room = omega (arith, h.room, c.take_each.ensures.few, c.take_each.ensures.room);
    }

pub loop-at-preserved : goal.loop-at-preserved
loop-at-preserved c =
    let from = c.args.from in
    let old = c.self.inside.places.items in
    let mid = c.loop-at.self-inside.places.items in
    let filled = c.loop-at.self-inside.blocks.items in
    let at = c.loop-at.at in
    let end = c.min-end.result in
    let h = c.loop-at.invariant in
    let until = c.min-until.result in
    let is : end ≡ min until ((at / 64 + 1) * 64) = c.min-end.ensures in
    let more : at < until = c.loop-at-test.true in
    let same = ap length c.self.view_is in
    let long = ap length h.closed ∙ length-map_in (λ m. 0) old from at in
    let block : at / 64 < length filled = omega (arith, h.filled.room, long, more, same, c.requires.within) in
    let read : c.index.result.now ≡ get_or filled (at / 64) true = get_or_read filled (at / 64) c.index.result.now block c.index.ensures true in
    let none : (q : ℕ) → at ≤ q → q < end → get_or mid q 0 ≡ 0
    = λ q late early.
    let same : at / 64 ≡ q / 64 = omega arith in
    h.filled.none q (subst (λ b. get_or filled b true ≡ false) same (sym read ∙ c.if-index.false)) in
    record {
      forward = omega (arith, h.forward);
      within = omega arith;
      end = h.end;
      filled = h.filled;
      taken = h.taken ∙ ap (λ ys. c.reserve.new.self.items ++ ys) (messages_in-empty old mid from at h.forward h.closed end (omega arith) none);
      closed = map_in-empty old mid from at h.forward h.closed end (omega arith) none;
      room = omega (arith, h.room);
    }

pub invariant_of-self : goal.invariant_of-self
invariant_of-self c =
    let from = c.args.from in
    let old = c.self.inside.places.items in
    let at = c.loop-at.at in
    let end = c.self.inside.end in
    let h = c.loop-at.invariant in
    let is : c.min-until.result ≡ min c.args.to c.max.result = c.min-until.ensures in
    let most : c.max.result ≡ max end from = c.max.ensures in
    let least : c.min-self-inside.result ≡ min c.loop-at.self-inside.end from = c.min-self-inside.ensures in
    let below : AreBelow c.min-self-inside.result (map_in (λ m. 0) old from at)
    = λ p far. elim (cases_lt from end) [
      | inl more ↦ below_from old from at end c.self.invariant.1 (omega (arith, is, most, h.end, c.loop-at-test.false, c.if-self-to.true)) p (omega (arith, least, h.end))
      | inr less ↦ below_left old from at end c.self.invariant.1 p (omega (arith, least, h.end))
    ] in
    (h.filled, subst (AreBelow c.min-self-inside.result) (sym h.closed) below)

pub returns-then-self-to-clause-taken : goal.returns-then-self-to-clause-taken
returns-then-self-to-clause-taken c =
    let from = c.args.from in
    let to = c.args.to in
    let old = c.self.inside.places.items in
    let at = c.loop-at.at in
    let h = c.loop-at.invariant in
    let is : c.min-until.result ≡ min to c.max.result = c.min-until.ensures in
    let most : c.max.result ≡ max c.self.inside.end from = c.max.ensures in
    h.taken ∙ ap (λ xs. xs ++ messages_in old from at) c.in_ok-reserve.ensures.items
    ∙ ap (λ ys. c.args.list.now.items ++ ys)
    (taken_rest old c.loop-at.self-inside.places.items from at to c.self.inside.end h.forward (omega (arith, is, h.within))
    (λ more. omega (arith, is, most, more, c.loop-at-test.false, h.within)) c.self.invariant.1 h.closed).0
    ∙ ap (λ xs. c.args.list.now.items ++ messages_in xs from to) c.self.view_is

pub returns-then-self-to-clause-closed : goal.returns-then-self-to-clause-closed
returns-then-self-to-clause-closed c =
    let h = c.loop-at.invariant in
    let is : c.min-until.result ≡ min c.args.to c.max.result = c.min-until.ensures in
    let most : c.max.result ≡ max c.self.inside.end c.args.from = c.max.ensures in
    (taken_rest c.self.inside.places.items c.loop-at.self-inside.places.items c.args.from c.loop-at.at c.args.to c.self.inside.end h.forward
    (omega (arith, is, h.within)) (λ more. omega (arith, is, most, more, c.loop-at-test.false, h.within)) c.self.invariant.1 h.closed).1
    ∙ ap (λ xs. map_in (λ m. 0) xs c.args.from c.args.to) c.self.view_is

pub loop-at-init : goal.loop-at-init
loop-at-init c =
    let from = c.args.from in
    let old = c.self.inside.places.items in
    let before = c.reserve.new.self.items in
    record {
      forward = omega arith;
      within = omega arith;
      end = refl;
      filled = c.self.invariant.0;
      taken = sym (ap (λ ys. before ++ ys) (messages_in-here old from) ∙ append-nil before);
      closed = sym (map_in-none (λ m. 0) old from);
      room = omega (arith, c.in_ok-reserve.ensures.ok, c.reserve.new.self.ok);
    }

pub index-requires : goal.index-requires
index-requires c =
    let h = c.loop-at.invariant in
    let long = ap length h.closed ∙ length-map_in (λ m. 0) c.self.inside.places.items c.args.from c.loop-at.at in
    omega (arith, h.filled.room, long, ap length c.self.view_is, c.requires.within)

pub index_mut-requires : goal.index_mut-requires
index_mut-requires c =
    let h = c.loop-at.invariant in
    let long = ap length h.closed ∙ length-map_in (λ m. 0) c.self.inside.places.items c.args.from c.loop-at.at in
    omega (arith, h.filled.room, long, ap length c.self.view_is, c.requires.within)

pub take_each-requires-clause-within : goal.take_each-requires-clause-within
take_each-requires-clause-within c =
    let long = ap length c.loop-at.invariant.closed ∙ length-map_in (λ m. 0) c.self.inside.places.items c.args.from c.loop-at.at in
    omega (arith, c.min-end.ensures, ap length c.deref_mut.ensures.value, long, ap length c.self.view_is, c.requires.within)

pub invariant_of-self-else-self-to : goal.invariant_of-self-else-self-to
invariant_of-self-else-self-to c =
    let h = c.loop-at.invariant in (
      h.filled,
      λ p far.
          subst (λ xs. get_or xs p 0 ≡ 0) (sym h.closed)
          (below_left c.self.inside.places.items c.args.from c.loop-at.at c.self.inside.end c.self.invariant.1 p (omega (arith, far, h.end))),
    )
