use Rattle.std.proofs.Common.{◌+◌, sym, subst}
use Rattle.waff_limits.proofs.LiftedLists.{AreBefore, lift_more, no_lift_more}
use Rattle.waff_limits.proofs.lifted.lifts_by.Goals as goal
use Rattle.waff_limits.proofs.lifted.lifts_by.Goals.{in-Some+in_ok-push-in-Some, in-None}

pub loop-n-preserved : goal.loop-n-preserved
loop-n-preserved c =
    let laid = c.args.laid.now in
    let layout = laid.layout.now in
    let messages = laid.case.trace.now.messages in
    let assigned = laid.case.assigned.now in
    let n = c.loop-n.n in
    let lifts = c.loop-n.lifts.items in
    let are = c.loop-n.invariant in
    elim c.match-lift_of.branch [
      | in-Some+in_ok-push-in-Some w ↦
          let told = w.in-Some.ensures in
          rw w.lifts-is
          (subst (AreBefore layout messages assigned (n + 1)) (sym w.in_ok-push-in-Some.ensures.items)
          (lift_more layout messages assigned n c.loop-n.auto.n lifts are w.in-Some.lift told.0 told.1 told.2))
      | in-None w ↦ rw w.lifts-is (no_lift_more layout messages assigned n c.loop-n.auto.n lifts are w.in-None.ensures)
    ]
