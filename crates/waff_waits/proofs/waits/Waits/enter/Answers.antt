use Rattle.std.proofs.Common.{get_or, arith, sym, ◌∙◌, subst}
use Rattle.std.proofs.lemmas.Bool.{false≢true}
use Rattle.std.proofs.lemmas.List.{take_all}
use Rattle.waff_model.specs.Numbers.{IsAmongFirst}
use Rattle.waff_waits.specs.Waits.{Enters}
use Rattle.waff_waits.proofs.Waiting.{enters_none, enters_over, enters_wait}
use Rattle.waff_waits.proofs.waits.Waits.enter.Goals as goal
use Rattle.waff_waits.proofs.waits.Waits.enter.Goals.{then-not-has_finished+in_ok-wait, else-not-has_finished}

pub has_finished-requires : goal.has_finished-requires
has_finished-requires c = record {
  number = subst (λ n. IsAmongFirst n (get_or c.args.needs.now c.loop-at.at 0)) (sym c.loop-at.invariant.enters.count) (c.requires.needs c.loop-at.at 0 c.loop-at-test.true);
}

pub loop-at-init : goal.loop-at-init
loop-at-init c = record { enters = enters_none c.args.self.now c.args.m }

pub loop-at-preserved : goal.loop-at-preserved
loop-at-preserved c =
    let needs = c.args.needs.now in
    let at = c.loop-at.at in
    let h = c.loop-at.invariant.enters in
    let number = subst (λ n. IsAmongFirst n (get_or needs at 0)) (sym h.count) (c.requires.needs at 0 c.loop-at-test.true) in
    elim c.if-not-has_finished.branch [
      | then-not-has_finished+in_ok-wait w ↦ rw (w.self-is, w.in_ok-wait.ensures)
          (record {
            enters = enters_wait c.args.self.now c.loop-at.self c.args.m needs at h c.loop-at-test.true number
                (λ done. false≢true (sym w.if-not-has_finished.true ∙ c.has_finished.ensures ∙ done));
          })
      | else-not-has_finished w ↦ rw w.self-is
          (record { enters = enters_over c.args.self.now c.loop-at.self c.args.m needs at h c.loop-at-test.true (sym c.has_finished.ensures ∙ w.if-not-has_finished.false) })
    ]

pub returns-clause-enters : goal.returns-clause-enters
returns-clause-enters c =
    let all = take_all c.loop-at.at c.args.needs.now (omega arith) in
    subst (λ xs. Enters c.args.self.now c.args.m xs c.loop-at.self) all c.loop-at.invariant.enters
