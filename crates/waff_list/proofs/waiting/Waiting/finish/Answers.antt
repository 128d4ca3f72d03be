use Rattle.std.proofs.Common.{◌-◌, [], ◌∷◌, ◌++◌, Contains, refl, sym, ◌∙◌, ap, arith, length, subst}
use Rattle.std.specs.List.Sorted.{IsPermutation}
use Rattle.std.proofs.lemmas.Bool.{false≢true}
use Rattle.std.proofs.lemmas.List.{set-get_or}
use Rattle.std.proofs.lemmas.List.Elements.{All-contains}
use Rattle.waff_model.specs.Numbers.{IsAmongFirst}
use Rattle.waff_plan.specs.Timing.{HasIssue, start_of, work_of}
use Rattle.waff_waits.specs.Ready.{ranked_in}
use Rattle.waff_waits.specs.Times.{AreEach}
use Rattle.waff_waits.specs.Waits.{IsFree, WhoWaits, waiting_for}
use Rattle.waff_list.specs.Telling.{key_in, priority_in}
use Rattle.waff_list.specs.declared.service.Service.{Service}
use Rattle.waff_waits.proofs.LettingGo.{going_bound, going_next, it_waited}
use Rattle.waff_list.proofs.LettingGo.{going_ranked, ranked_more}
use Rattle.waff_list.proofs.waiting.Waiting.finish.Goals as goal
use Rattle.waff_list.proofs.waiting.Waiting.finish.Goals.{In-Some}

pub loop-waiter-init : goal.loop-waiter-init
loop-waiter-init c =
    let w = c.args.self.now.waits in
    record {
      service = refl;
      going = (
        waiting_for w c.args.m,
        ap (λ xs. let v : WhoWaits = record { awaited = xs; finished = w.finished } in v) (sym (set-get_or w.awaited (c.args.m - 1) [])),
        λ d there. there,
      );
      ready = λ issued order among each. each;
      ranked = λ are. are;
    }

number : (c : In-Some) → IsAmongFirst (length c.args.self.now.waits.awaited) c.args.m
number c =
    let is = c.requires.number in
    record { from = is.from; to = omega (arith, is.to, c.requires.many) }

waited : (c : In-Some) → Contains (waiting_for c.args.self.now.waits c.args.m) c.in-Some.waiter
waited c =
    let going = c.loop-waiter.invariant.going in
    it_waited c.args.self.now.waits c.loop-waiter.self.waits c.let_go.new.self c.args.m c.in-Some.waiter going.0 (number c) (going.1, going.2) c.in-Some.ensures.goes

pub push-requires : goal.push-requires
push-requires c = record {
  issued = All-contains (HasIssue c.args.task.now.timings.items c.args.starts.now) (waiting_for c.args.self.now.waits c.args.m) c.in-Some.waiter c.requires.issued (waited (goal.at.push-requires c).In-Some);
}

pub loop-waiter-preserved-in-Continue-1 : goal.loop-waiter-preserved-in-Continue-1
loop-waiter-preserved-in-Continue-1 c =
    let f = (goal.at.loop-waiter-preserved-in-Continue-1 c).In-Some in
    let h = c.loop-waiter.invariant in
    let w = c.args.self.now.waits in
    let lw = c.loop-waiter.self.waits in
    let new = c.let_go.new.self in
    let m = c.args.m in
    let d = c.in-Some.waiter in
    let goes = c.in-Some.ensures.goes in
    let pushed = c.in_ok-push.ensures in
    let priority = priority_in c.args.task.now in
    let key = λ (s : Service). key_in s (work_of c.args.task.now.timings.items) (start_of c.args.starts.now) in
    let next = going_next w lw new m d h.going.0 (number f) (h.going.1, h.going.2) goes in
    record {
      service = pushed.service ∙ h.service;
      going = (goes.rest, pushed.waits ∙ next.0, next.1);
      ready = λ issued order among each.
          subst (λ (u : WhoWaits). AreEach (IsFree issued u) (order ++ ranked_in c.push.new.self.ready)) (sym pushed.waits)
          (going_ranked w lw new m d h.going.0 (number f) (h.going.1, h.going.2) goes issued order c.loop-waiter.self.ready (among d (waited f)) (h.ready issued order among each)
          c.push.new.self.ready (priority d, (key c.loop-waiter.self.service d, d)) refl pushed.ready (c.in-Some.ensures.none.0 c.if-is_free.true));
      ranked = λ are. ranked_more priority (key c.args.self.now.service) d c.loop-waiter.self.ready c.push.new.self.ready
          (subst (λ (s : Service). IsPermutation ((priority d, (key s d, d)) ∷ c.loop-waiter.self.ready) c.push.new.self.ready) h.service pushed.ready) (h.ranked are);
    }

pub loop-waiter-preserved : goal.loop-waiter-preserved
loop-waiter-preserved c =
    let f = (goal.at.loop-waiter-preserved c).In-Some in
    let h = c.loop-waiter.invariant in
    let w = c.args.self.now.waits in
    let lw = c.loop-waiter.self.waits in
    let new = c.let_go.new.self in
    let m = c.args.m in
    let d = c.in-Some.waiter in
    let goes = c.in-Some.ensures.goes in
    let next = going_next w lw new m d h.going.0 (number f) (h.going.1, h.going.2) goes in
    record {
      service = h.service;
      going = (goes.rest, next.0, next.1);
      ready = λ issued order among each.
          going_bound w lw new m d h.going.0 (number f) (h.going.1, h.going.2) goes issued order (ranked_in c.loop-waiter.self.ready) (among d (waited f)) (h.ready issued order among each)
          (λ none. false≢true (sym c.if-is_free.false ∙ c.in-Some.ensures.none.1 none));
      ranked = h.ranked;
    }

pub returns-clause-ready : goal.returns-clause-ready
returns-clause-ready c = λ issued order among each.
    let none = c.in_default.ensures.goes in
    let before : AreEach (IsFree issued c.loop-waiter.self.waits) (order ++ ranked_in c.loop-waiter.self.ready) = c.loop-waiter.invariant.ready issued order among each in
    subst (λ (u : WhoWaits). AreEach (IsFree issued u) (order ++ ranked_in c.loop-waiter.self.ready)) (sym c.finish.ensures)
    (subst (λ (u : WhoWaits). AreEach (IsFree issued u) (order ++ ranked_in c.loop-waiter.self.ready)) (sym none.1) before)
