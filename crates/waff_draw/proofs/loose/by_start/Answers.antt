use Rattle.std.proofs.Common.{◌≡◌, ◌+◌, ◌-◌, ◌*◌, All, cond, length, arith, sym, ◌∙◌, ap, subst}
use Rattle.std.specs.BTreeMap.{insert_entry}
use Rattle.std.specs.Option.{is_none}
use Rattle.std.specs.Ordering.{nat_cmp}
use Rattle.std.proofs.lemmas.List.Elements.{All-map}
use Rattle.waff_assign.specs.Order.{affinity_of}
use Rattle.waff_plan.specs.Timing.{start_of}
use Rattle.waff_plan.specs.Work.{IsAmongFirst}
use Rattle.waff_draw.specs.Loose.{loose_entries, start_key}
use Rattle.waff_draw.proofs.LooseLemmas.{entries_more, insert_known, none_mapped, none_tested}
use Rattle.waff_draw.proofs.loose.by_start.Goals as goal
use Rattle.waff_draw.proofs.loose.by_start.Goals.{then-is_none+in_ok-insert, else-is_none}

pub loop-n-preserved : goal.loop-n-preserved
loop-n-preserved c =
    let assigned = c.args.case.now.assigned.now in
    let start = start_of c.args.plan.now.starts in
    let count = length c.args.plan.now.timings in
    let n = c.loop-n.n in
    let old = c.loop-n.found.entries in
    let before = loose_entries assigned start (n - 1) in
    let none : is_none (affinity_of assigned n) ≡ c.is_none.result
    = sym (ap is_none c.affinity.ensures) ∙ none_mapped (λ a. a.0) c.affinity.result
    ∙ none_tested c.affinity.result c.is_none.result (sym c.is_none.ensures) in
    let step : loose_entries assigned start (n + 1 - 1) ≡ cond c.is_none.result (insert_entry nat_cmp old (start_key start n) n) old
    = entries_more assigned start n c.loop-n.auto.n
    ∙ ap (λ b. cond b (insert_entry nat_cmp before (start_key start n) n) before) none
    ∙ ap (λ es. cond c.is_none.result (insert_entry nat_cmp es (start_key start n) n) es) (sym c.loop-n.invariant.entries) in
    let within : IsAmongFirst count n
    = record { from = c.loop-n.auto.n; to = omega (arith, c.loop-n-test.true, c.len-n-end.ensures.count) } in
    elim c.if-is_none.branch [
      | then-is_none+in_ok-insert w ↦
          let key = w.from.result * 4294967296 + w.from-then-is_none.result in
          let key_is : key ≡ start_key start n
          = omega (arith, w.from.ensures, w.from-then-is_none.ensures, w.start.ensures.start) in
          let now : c.if-is_none.found.entries ≡ insert_entry nat_cmp old key n
          = ap (λ m. m.entries) w.found-is ∙ w.in_ok-insert.ensures.entries in
          record {
            entries = now ∙ ap (λ k. insert_entry nat_cmp old k n) key_is
                ∙ sym (step ∙ ap (λ b. cond b (insert_entry nat_cmp old (start_key start n) n) old) w.if-is_none.true);
            known = subst (All (λ e. IsAmongFirst count e.1)) (sym now)
                (insert_known (IsAmongFirst count) old key n c.loop-n.invariant.known within);
          }
      | else-is_none w ↦
          let now : c.if-is_none.found.entries ≡ old = ap (λ m. m.entries) w.found-is in
          record {
            entries = now ∙ sym (step ∙ ap (λ b. cond b (insert_entry nat_cmp old (start_key start n) n) old) w.if-is_none.false);
            known = subst (All (λ e. IsAmongFirst count e.1)) (sym now) c.loop-n.invariant.known;
          }
    ]

pub returns-clause-known : goal.returns-clause-known
returns-clause-known c =
    All-map (IsAmongFirst (length c.args.plan.now.timings)) (λ e. e.1) c.loop-n.found.entries c.loop-n.invariant.known
