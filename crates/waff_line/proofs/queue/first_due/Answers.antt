use Rattle.std.proofs.Common.{◌≡◌, ℕ, ◌+◌, ◌-◌, ◌*◌, [], ◌∷◌, ◌++◌, ◌≤◌, List, length, map, ap, arith, sym, ◌∙◌, subst}
use Rattle.std.specs.List.Sorted.{IsPermutation}
use Rattle.std.specs.declared.cmp.Reverse.{Reverse}
use Rattle.std.proofs.lemmas.Bool.{false≢true}
use Rattle.std.proofs.lemmas.List.{length-append, map-append}
use Rattle.std.proofs.lemmas.List.Sorted.{IsPermutation-sym, IsPermutation-to_front}
use Rattle.waff_plan.specs.Timing.{awaits_by, work_of}
use Rattle.waff_plan.specs.declared.timing.Awaited.TheVariants.{Every}
use Rattle.waff_plan.specs.declared.timing.Timing.{Timing}
use Rattle.waff_plan.proofs.AwaitLemmas.{some_awaited}
use Rattle.waff_plan.proofs.FollowLemmas.{timing_read}
use Rattle.waff_line.specs.Lined.{AreFirstDue}
use Rattle.waff_line.specs.Scaled.{awaits_scaled, scaled}
use Rattle.waff_line.proofs.FirstDue.{due_moved, due_none, due_put, due_same}
use Rattle.waff_line.proofs.Scaling.{awaited_scaled}
use Rattle.waff_line.proofs.queue.first_due.Goals as goal
use Rattle.waff_line.proofs.queue.first_due.Goals.{then-is_alone, else-is_alone}

length_pushed : {X : Type 0} {n : ℕ} (xs : List X) (x : X) → length xs + 1 ≤ n → length (xs ++ x ∷ []) ≤ n
length_pushed xs x few = omega (arith, length-append xs (x ∷ []), few)

pub loop-m-init : goal.loop-m-init
loop-m-init c =
    let items = c.in_ok-issues.ensures.items in
    rw items (record {
      few = omega arith;
      room = omega (arith, c.in_ok-issues.ensures.capacity);
      first = due_none (scaled c.args.tick (work_of c.args.timings.now));
    })

pub push_reserved-requires : goal.push_reserved-requires
push_reserved-requires c = omega (arith, c.loop-m.issues.ok.0, c.loop-m.invariant.few, c.loop-m.invariant.room, c.loop-m-test.true, c.loop-m.auto.m)

pub loop-m-preserved : goal.loop-m-preserved
loop-m-preserved c =
    let work = scaled c.args.tick (work_of c.args.timings.now) in
    let m = c.loop-m.m in
    let awaits = (work_of c.args.timings.now).awaits m in
    let read = timing_read c.args.timings.now m c.index-timings-m.result (record { from = c.loop-m.auto.m; to = omega (arith, c.loop-m-test.true) }) c.index-timings-m.is in
    let same : awaits_by Every c.index-timings-m.result ≡ awaits = ap (awaits_by Every) read in
    let pair = λ (r : Reverse (ℕ × ℕ)). r.0 in
    let old = c.loop-m.issues.items in
    let back : m + 1 - 1 ≡ m = omega arith in
    let h = c.loop-m.invariant in
    rw back (elim c.if-is_alone.branch [
      | then-is_alone w ↦
          let one : Reverse (ℕ × ℕ) = record { 0 = (w.nanos.result, m) } in
          rw (w.issues-is, w.push_reserved.ensures.items) (record {
            few = length_pushed old _ (omega (arith, h.few, c.loop-m.auto.m));
            room = omega (arith, h.room, w.push_reserved.ensures.capacity);
            first = due_put work m c.loop-m.auto.m (map pair old) h.first (map pair (old ++ one ∷ [])) w.nanos.result (w.nanos.ensures ∙ ap (λ (t : Timing). t.floor * c.args.tick) read)
                (ap (awaits_scaled c.args.tick) (sym same ∙ c.is_alone.ensures.0 w.if-is_alone.true))
                (subst (λ (xs : List (ℕ × ℕ)). IsPermutation ((w.nanos.result, m) ∷ map pair old) xs) (sym (map-append pair old (one ∷ [])))
                (IsPermutation-sym (map pair old ++ (w.nanos.result, m) ∷ []) ((w.nanos.result, m) ∷ map pair old) (IsPermutation-to_front (map pair old) (w.nanos.result, m))));
          })
      | else-is_alone w ↦
          rw w.issues-is (record {
            few = omega (arith, h.few);
            room = h.room;
            first =
                let some = some_awaited awaits (λ none. false≢true (sym w.if-is_alone.false ∙ c.is_alone.ensures.1 (same ∙ none))) in
                due_same work m c.loop-m.auto.m (map pair old) h.first some.0 (awaited_scaled c.args.tick some.0 awaits some.1);
          })
    ])

pub returns : goal.returns
returns c =
    let work = scaled c.args.tick (work_of c.args.timings.now) in
    let pair = λ (r : Reverse (ℕ × ℕ)). r.0 in
    let n = c.loop-m.m - 1 in
    let all : n ≡ length c.args.timings.now = omega (arith, c.loop-m-test.false, c.loop-m.auto.m-end) in
    subst (λ (k : ℕ). AreFirstDue work k c.of.result) all
    (due_moved work n (map pair c.loop-m.issues.items) c.of.result c.of.ensures c.loop-m.invariant.first)
