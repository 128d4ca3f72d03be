use Rattle.std.proofs.Common.{length, option_map, arith, sym, refl, ◌∙◌, ap, subst}
use Rattle.waff_model.specs.declared.tree.AffinityId.{AffinityId}
use Rattle.waff_plan.specs.Table.{IsTable, LatestTable}
use Rattle.waff_plan.proofs.PlaceTables.{places_passed}
use Rattle.waff_plan.proofs.Tables.{numbers_more}
use Rattle.waff_plan.proofs.table.Table.note.Goals as goal

pub note-requires-clause-few : goal.note-requires-clause-few
note-requires-clause-few c = omega (arith, ap (λ (t : LatestTable). length t.assigned) c.self.view_is, c.requires.number.to, c.self.invariant.few)

pub note-requires-in-Some-clause-few : goal.note-requires-in-Some-clause-few
note-requires-in-Some-clause-few c = omega (arith, ap (λ (t : LatestTable). length t.assigned) c.self.view_is, c.requires.number.to, c.self.invariant.few)

pub returns-in-Some-clause-table : goal.returns-in-Some-clause-table
returns-in-Some-clause-table c = λ finish noted table is.
    let t = c.self.inside in
    let m = c.args.message.number in
    let h = subst (IsTable finish noted) (sym c.self.view_is) table in
    let affinity = sym c.affinity-affinity.ensures ∙ ap (option_map (λ (a : AffinityId). a.0)) c.in-Some.is in
    record {
      numbers = numbers_more (length t.assigned.now) noted m (rw (ap (λ (t : LatestTable). length t.assigned) c.self.view_is) c.requires.number) h.numbers;
      places = c.note-in-Some.ensures.table t.spans.now t.assigned.now finish noted h.places (c.in-Some.affinity.0, affinity, refl) is;
      locks = c.note.ensures.table t.assigned.now finish noted h.locks (sym c.uses-uses.ensures) is;
    }

pub returns-in_default-clause-table : goal.returns-in_default-clause-table
returns-in_default-clause-table c = λ finish noted table is.
    let t = c.self.inside in
    let m = c.args.message.number in
    let h = subst (IsTable finish noted) (sym c.self.view_is) table in
    let affinity = sym c.affinity-affinity.ensures ∙ ap (option_map (λ (a : AffinityId). a.0)) c.in_default.is in
    record {
      numbers = numbers_more (length t.assigned.now) noted m (rw (ap (λ (t : LatestTable). length t.assigned) c.self.view_is) c.requires.number) h.numbers;
      places = places_passed t.spans.now t.assigned.now finish noted t.places m affinity h.places;
      locks = c.note.ensures.table t.assigned.now finish noted h.locks (sym c.uses-uses.ensures) is;
    }
