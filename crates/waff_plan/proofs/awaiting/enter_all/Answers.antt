-- One message more is waited for.
use Rattle.std.proofs.Common.{◌≡◌, ◌+◌, [], ◌∷◌, ◌++◌, length, get_or, map, take, arith, sym, ◌∙◌, ap, subst}
use Rattle.std.proofs.lemmas.List.{map-append, take_all, take_more}
use Rattle.std.proofs.lemmas.List.Elements.{All-cons, All-nil}
use Rattle.waff_plan.specs.Work.{Await, IsAmongFirst}
use Rattle.waff_waits.specs.Waits.{Enters}
use Rattle.waff_waits.proofs.Waiting.{enters_none}
use Rattle.waff_plan.proofs.AwaitLemmas.{awaited_at}
use Rattle.waff_plan.proofs.AwaitingLemmas.{enters_on}
use Rattle.waff_plan.proofs.awaiting.enter_all.Goals as goal

abbrev nobody : Await
nobody = record { message = 0; gap = 0 }

pub loop-k-init : goal.loop-k-init
loop-k-init c = record { entered = enters_none c.args.waits.now c.args.m }

pub enter-requires-clause-needs : goal.enter-requires-clause-needs
enter-requires-clause-needs c =
    let after = c.args.after.now in
    let i = (get_or after c.loop-k.k nobody).message in
    let number = c.requires.awaited i (awaited_at after c.loop-k.k nobody c.loop-k-test.true) in
    let many = length c.loop-k.waits.awaited in
    let known : IsAmongFirst many i = record { from = number.from; to = omega (arith, number.to, c.loop-k.invariant.entered.count) } in
    All-cons (IsAmongFirst many) i [] known (All-nil (IsAmongFirst many))

pub loop-k-preserved : goal.loop-k-preserved
loop-k-preserved c =
    let after = c.args.after.now in
    let k = c.loop-k.k in
    let message = λ (a : Await). a.message in
    let more : map message (take (k + 1) after) ≡ map message (take k after) ++ (get_or after k nobody).message ∷ []
    = ap (map message) (take_more after k nobody c.loop-k-test.true) ∙ map-append message (take k after) (get_or after k nobody ∷ []) in
    record {
      entered = subst (λ xs. Enters c.args.waits.now c.args.m xs c.enter.new.self) (sym more)
          (enters_on c.args.waits.now c.loop-k.waits c.enter.new.self c.args.m (map message (take k after)) ((get_or after k nobody).message ∷ [])
          c.loop-k.invariant.entered c.in_ok-enter.ensures.enters);
    }

pub returns : goal.returns
returns c =
    let all = take_all c.loop-k.k c.args.after.now (omega (arith, c.loop-k-test.false)) in
    subst (λ xs. Enters c.args.waits.now c.args.m (map (λ (a : Await). a.message) xs) c.loop-k.waits) all c.loop-k.invariant.entered
