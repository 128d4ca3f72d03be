use Rattle.std.proofs.Common.{◌+◌, ◌∷◌, ◌≤◌, arith}
use Rattle.waff_model.specs.Numbers.{IsAmongFirst}
use Rattle.waff_waits.proofs.Each.{none_there, each_more, each_moved}
use Rattle.waff_list.proofs.idle.Idle.all.Goals as goal

pub loop-worker-init : goal.loop-worker-init
loop-worker-init c = rw c.new-idle.ensures (record {
  only = λ x there. absurd (none_there x there);
  each = λ x within. let from : 1 ≤ x = within.from in let to : x ≤ 0 = within.to in absurd (omega arith);
})

pub loop-worker-preserved : goal.loop-worker-preserved
loop-worker-preserved c =
    let n = c.loop-worker.worker in
    let old = c.loop-worker.idle in
    let h = c.loop-worker.invariant in
    each_moved (IsAmongFirst (n + 1)) ((n + 1) ∷ old)
    (each_more (IsAmongFirst n) old h (IsAmongFirst (n + 1)) (n + 1)
    (λ there. let known = h.only (n + 1) there in let to : n + 1 ≤ n = known.to in omega arith)
    (record { from = omega arith; to = omega arith })
    (λ x known. let to : x ≤ n = known.to in record { from = known.from; to = omega arith })
    (λ x known other. let to : x ≤ n + 1 = known.to in record { from = known.from; to = omega arith }))
    c.push.new.self c.in_ok-push.ensures
