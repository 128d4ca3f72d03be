use Rattle.std.proofs.Common.{◌<◌, List, false, get_or, length, take, arith, refl, sym, ◌∙◌, ap, subst}
use Rattle.std.proofs.lemmas.List.{length-set, take_all, take_more}
use Rattle.waff_assign.specs.declared.held.LockUse.{LockUse}
use Rattle.waff_plan.proofs.LockTables.{AreUsesNoted, all_uses_noted, no_use_noted, one_use_noted}
use Rattle.waff_plan.proofs.lock_table.LockTable.note.Goals as goal

pub loop-used-init : goal.loop-used-init
loop-used-init c = record { count = refl; noted = λ assigned finish noted table is. no_use_noted assigned finish noted c.args.message.number c.args.self.now table }

pub loop-used-preserved : goal.loop-used-preserved
loop-used-preserved c =
    let uses = c.args.uses.now in
    let k = c.loop-used.used-index in
    let none : LockUse = record { lock = 0; alone = false } in
    let u : LockUse = get_or uses k none in
    let h = c.loop-used.invariant in
    let within : u.lock < length c.loop-used.self.locks.items = omega (arith, c.requires.within k none c.loop-used-test.true, h.count) in
    record {
      count = ap length c.note_use.ensures.locks ∙ length-set c.loop-used.self.locks.items u.lock _ ∙ h.count;
      noted = λ assigned finish noted table is.
          subst (λ (us : List LockUse). AreUsesNoted assigned finish noted c.args.message.number us c.note_use.new.self) (sym (take_more uses k none c.loop-used-test.true))
          (one_use_noted assigned finish noted c.args.message is (take k uses) u c.loop-used.self c.note_use.new.self within c.note_use.ensures.locks c.note_use.ensures.some
          (h.noted assigned finish noted table is));
    }

pub returns-clause-table : goal.returns-clause-table
returns-clause-table c = λ assigned finish noted table are is.
    let uses = c.args.uses.now in
    all_uses_noted assigned finish noted c.args.message.number uses c.loop-used.self are
    (subst (λ (us : List LockUse). AreUsesNoted assigned finish noted c.args.message.number us c.loop-used.self) (take_all c.loop-used.used-index uses c.loop-used-test.false)
    (c.loop-used.invariant.noted assigned finish noted table is))
