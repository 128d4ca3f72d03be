use Rattle.std.proofs.Common.{◌≡◌, [], ◌∷◌, ◌++◌, List, false, cond, get_or, take, sym, ◌∙◌, ap, subst}
use Rattle.std.proofs.lemmas.List.{get_or_read, take_all, take_more}
use Rattle.waff_assign.specs.Held.{using}
use Rattle.waff_assign.specs.declared.held.LockUse.{LockUse}
use Rattle.waff_plan.specs.Latest.{later_of}
use Rattle.waff_plan.specs.Table.{IsLatestByLocks, lock_at}
use Rattle.waff_plan.specs.declared.lock_table.LockLatest.{LockLatest}
use Rattle.waff_plan.proofs.LockTables.{by_one_more, no_latest}
use Rattle.waff_plan.proofs.lock_table.LockTable.latest.Goals as goal

pub loop-used-preserved : goal.loop-used-preserved
loop-used-preserved c = λ assigned finish noted table.
    let uses = c.args.uses.now in
    let k = c.loop-used.used-index in
    let none : LockUse = record { lock = 0; alone = false } in
    let u : LockUse = get_or uses k none in
    let locks = c.args.self.now.locks.items in
    let found = c.loop-used.found in
    let read : c.index.result.now ≡ lock_at locks u.lock = get_or_read locks u.lock c.index.result.now (c.requires.within k none c.loop-used-test.true) c.index.ensures no_latest in
    let is : c.later-found.result ≡ later_of found (cond u.alone (lock_at locks u.lock).users (lock_at locks u.lock).alone)
    = c.later-found.ensures ∙ ap (later_of found) (c.excluding.ensures ∙ ap (λ (x : LockLatest). cond u.alone x.users x.alone) read) in
    subst (λ (us : List LockUse). IsLatestByLocks assigned finish noted (using us) c.later-found.result) (sym (take_more uses k none c.loop-used-test.true))
    (subst (IsLatestByLocks assigned finish noted (using (take k uses ++ u ∷ []))) (sym is)
    (by_one_more assigned finish noted c.args.self.now (take k uses) u found table (c.loop-used.invariant assigned finish noted table)))

pub returns : goal.returns
returns c = λ assigned finish noted table.
    let uses = c.args.uses.now in
    subst (λ (us : List LockUse). IsLatestByLocks assigned finish noted (using us) c.loop-used.found) (take_all c.loop-used.used-index uses c.loop-used-test.false)
    (c.loop-used.invariant assigned finish noted table)
