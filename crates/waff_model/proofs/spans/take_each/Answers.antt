use Rattle.std.proofs.Common.{◌≡◌, ℕ, ◌+◌, ◌<◌, ◌≤◌, ◌∷◌, ◌++◌, [], length, get_or, set, arith, refl, sym, ap, ◌∙◌, subst}
use Rattle.std.proofs.lemmas.List.{append-nil, append_assoc, length-set, length_push}
use Rattle.waff_model.specs.Spans.{messages_in}
use Rattle.waff_model.proofs.SpanLemmas.{map_in-none, map_in-more, messages_in-here, messages_in-more, map_in-empty, messages_in-empty}
use Rattle.waff_model.proofs.spans.take_each.Goals as goal
use Rattle.waff_model.proofs.spans.take_each.Goals.{then-m-gt0, else-m-gt0}

pub loop-place-preserved : goal.loop-place-preserved
loop-place-preserved c =
    let old = c.args.places.now in
    let left = c.loop-place.places in
    let list = c.loop-place.list.items in
    let before = c.args.list.now.items in
    let from = c.args.from in
    let p = c.loop-place.place in
    let h = c.loop-place.invariant in
    let m = get_or left p 0 in
    let forward : from ≤ p = omega (arith, c.loop-place.auto.place) in
    let within : p < length old = omega (arith, c.loop-place-test.true, c.requires.within) in
    elim c.if-m-gt0.branch [
      | then-m-gt0 w ↦
          rw (w.places-is, w.list-is, w.push_reserved.ensures.items) (record {
            taken = ap (λ xs. xs ++ m ∷ []) h.taken ∙ append_assoc before (messages_in old from p) (m ∷ [])
                ∙ ap (λ ys. before ++ ys) (messages_in-more old left from p forward h.closed (omega (arith, w.if-m-gt0.true)));
            closed = ap (λ xs. set xs p 0) h.closed ∙ map_in-more (λ m. 0) old from p 0 forward within;
            count = length-set left p 0 ∙ h.count;
            few = omega (arith, length_push list m, h.few, forward);
            room = w.push_reserved.ensures.capacity ∙ h.room;
          })
      | else-m-gt0 w ↦
          let none : (q : ℕ) → p ≤ q → q < p + 1 → get_or left q 0 ≡ 0
          = λ q late early.
          let same : p ≡ q = omega arith in
          subst (λ x. get_or left x 0 ≡ 0) same (omega (arith, w.if-m-gt0.false)) in
          rw (w.places-is, w.list-is) (record {
            taken = h.taken ∙ ap (λ ys. before ++ ys) (messages_in-empty old left from p forward h.closed (p + 1) (omega arith) none);
            closed = map_in-empty old left from p forward h.closed (p + 1) (omega arith) none;
            count = h.count;
            few = omega (arith, h.few, forward);
            room = h.room;
          })
    ]

pub bounds-places-place : goal.bounds-places-place
bounds-places-place c = omega (arith, c.loop-place-test.true, c.loop-place.auto.places, c.requires.within)

pub push_reserved-requires : goal.push_reserved-requires
push_reserved-requires c =
    let h = c.loop-place.invariant in
    omega (arith, c.loop-place.list.ok, h.few, h.room, c.requires.room, c.loop-place-test.true, c.loop-place.auto.place)

pub loop-place-init : goal.loop-place-init
loop-place-init c =
    let before = c.args.list.now.items in
    record {
      taken = sym (ap (λ ys. before ++ ys) (messages_in-here c.args.places.now c.args.from) ∙ append-nil before);
      closed = sym (map_in-none (λ m. 0) c.args.places.now c.args.from);
      count = refl;
      few = omega arith;
      room = refl;
    }
