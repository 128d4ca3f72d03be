-- A message enters with the one that it follows, and then with those of its list.
use Rattle.std.proofs.Common.{ℕ, [], length, map, arith, sym, subst}
use Rattle.std.proofs.lemmas.List.{map-append}
use Rattle.std.proofs.lemmas.List.Elements.{All-cons, All-nil}
use Rattle.waff_plan.specs.Timing.{await_of}
use Rattle.waff_plan.specs.Work.{Await, IsAmongFirst, IsAwaited}
use Rattle.waff_waits.specs.Waits.{Enters}
use Rattle.waff_waits.proofs.Waiting.{enters_none}
use Rattle.waff_plan.proofs.AwaitLemmas.{awaited_left, awaited_right}
use Rattle.waff_plan.proofs.AwaitingLemmas.{enters_on}
use Rattle.waff_plan.proofs.FollowLemmas.{awaits_it, awaits_none, awaits_one}
use Rattle.waff_plan.proofs.awaiting.enter.Goals as goal
use Rattle.waff_plan.proofs.awaiting.enter.Goals.{After-as_slice, then-timing-ne0+in_ok-enter, else-timing-ne0}

pub enter-requires-clause-needs : goal.enter-requires-clause-needs
enter-requires-clause-needs c =
    let timing = c.args.timing.now in
    let many = length c.args.waits.now.awaited in
    let number = c.requires.awaited timing.follows
    (awaited_left (await_of timing.follows timing.think) timing.after timing.follows (awaits_it timing.follows timing.think c.if-timing-ne0.true)) in
    All-cons (IsAmongFirst many) timing.follows [] number (All-nil (IsAmongFirst many))

abbrev message : Await → ℕ
message a = a.message

-- it waits for the one that it follows
followed : (c : goal.After-as_slice) → Enters c.args.waits.now c.args.m (map message (await_of c.args.timing.now.follows c.args.timing.now.think)) c.if-timing-ne0.waits
followed c =
    let timing = c.args.timing.now in
    elim c.if-timing-ne0.branch [
      | then-timing-ne0+in_ok-enter w ↦
          rw w.waits-is (subst (λ xs. Enters c.args.waits.now c.args.m (map message xs) w.enter.new.self) (sym (awaits_one timing.follows timing.think w.if-timing-ne0.true)) w.in_ok-enter.ensures.enters)
      | else-timing-ne0 w ↦
          rw w.waits-is (subst (λ xs. Enters c.args.waits.now c.args.m (map message xs) c.args.waits.now) (sym (awaits_none timing.follows timing.think (omega (arith, w.if-timing-ne0.false))))
          (enters_none c.args.waits.now c.args.m))
    ]

pub enter_all-requires : goal.enter_all-requires
enter_all-requires c =
    let timing = c.args.timing.now in
    let count = (followed c).count in
    record {
      number = record { from = c.requires.number.from; to = omega (arith, c.requires.number.to, count) };
      awaited = λ i listed.
          let number = c.requires.awaited i
          (awaited_right (await_of timing.follows timing.think) timing.after i (subst (λ xs. IsAwaited xs i) c.as_slice.ensures listed)) in
          record { from = number.from; to = omega (arith, number.to, count) };
    }

pub returns : goal.returns
returns c =
    let timing = c.args.timing.now in
    let own = await_of timing.follows timing.think in
    subst (λ xs. Enters c.args.waits.now c.args.m xs c.enter_all.new.waits) (sym (map-append message own timing.after))
    (enters_on c.args.waits.now c.if-timing-ne0.waits c.enter_all.new.waits c.args.m (map message own) (map message timing.after) (followed (goal.at.returns c).After-as_slice)
    (subst (λ xs. Enters c.if-timing-ne0.waits c.args.m (map message xs) c.enter_all.new.waits) c.as_slice.ensures c.in_ok-enter_all.ensures))
