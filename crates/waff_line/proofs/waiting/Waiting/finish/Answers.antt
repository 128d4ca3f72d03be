-- Those that wait for a message that has finished are let go, one after another.
use Rattle.std.proofs.Common.{◌++◌, ◌∷◌, Contains, sym, ◌∙◌, subst}
use Rattle.std.specs.List.Sorted.{IsPermutation}
use Rattle.std.proofs.lemmas.Bool.{false≢true}
use Rattle.waff_waits.specs.Times.{AreEach}
use Rattle.waff_waits.specs.Waits.{IsFree, WhoWaits, waiting_for}
use Rattle.waff_waits.proofs.LettingGo.{going_bound, going_free, going_next, it_waited}
use Rattle.waff_line.specs.Entered.{ready_in}
use Rattle.waff_line.proofs.Opening.{going_first}
use Rattle.waff_line.proofs.waiting.Waiting.finish.Goals as goal
use Rattle.waff_line.proofs.waiting.Waiting.finish.Goals.{In-Some}

pub loop-waiter-init : goal.loop-waiter-init
loop-waiter-init c = record {
  rest = waiting_for c.args.self.now.waits c.args.m;
  going = going_first c.args.self.now.waits c.args.m;
  ready = λ entered begun among each. each;
}

waited : (c : In-Some) → Contains (waiting_for c.args.self.now.waits c.args.m) c.in-Some.waiter
waited c =
    let h = c.loop-waiter.invariant in
    it_waited c.args.self.now.waits c.loop-waiter.self.waits c.let_go.new.self c.args.m c.in-Some.waiter h.rest c.requires.number h.going c.in-Some.ensures.goes

pub loop-waiter-preserved-in-Continue-1 : goal.loop-waiter-preserved-in-Continue-1
loop-waiter-preserved-in-Continue-1 c =
    let there = waited (goal.at.loop-waiter-preserved-in-Continue-1 c).In-Some in
    let h = c.loop-waiter.invariant in
    let w = c.args.self.now.waits in
    let d = c.in-Some.waiter in
    let goes = c.in-Some.ensures.goes in
    let next = going_next w c.loop-waiter.self.waits c.let_go.new.self c.args.m d h.rest c.requires.number h.going goes in
    let same = c.in_ok-push.ensures.waits ∙ c.tell.ensures.waits in
    record {
      rest = goes.rest;
      going = (same ∙ next.0, next.1);
      ready = λ entered begun among each.
          subst (λ (u : WhoWaits). AreEach (IsFree entered u) (begun ++ ready_in c.push.new.self)) (sym same)
          (going_free w c.loop-waiter.self.waits c.let_go.new.self c.args.m d h.rest c.requires.number h.going goes entered begun (ready_in c.loop-waiter.self)
          (among d there) (h.ready entered begun among each) (ready_in c.push.new.self)
          (subst (λ rs. IsPermutation (d ∷ rs) (ready_in c.push.new.self)) c.tell.ensures.ready c.in_ok-push.ensures.ready)
          (c.in-Some.ensures.none.0 c.if-is_free.true));
    }

pub loop-waiter-preserved : goal.loop-waiter-preserved
loop-waiter-preserved c =
    let there = waited (goal.at.loop-waiter-preserved c).In-Some in
    let h = c.loop-waiter.invariant in
    let w = c.args.self.now.waits in
    let d = c.in-Some.waiter in
    let goes = c.in-Some.ensures.goes in
    let next = going_next w c.loop-waiter.self.waits c.let_go.new.self c.args.m d h.rest c.requires.number h.going goes in
    let same = c.tell.ensures.waits in
    record {
      rest = goes.rest;
      going = (same ∙ next.0, next.1);
      ready = λ entered begun among each.
          subst (λ (u : WhoWaits). AreEach (IsFree entered u) (begun ++ ready_in c.tell.new.self)) (sym same)
          (subst (λ rs. AreEach (IsFree entered c.let_go.new.self) (begun ++ rs)) (sym c.tell.ensures.ready)
          (going_bound w c.loop-waiter.self.waits c.let_go.new.self c.args.m d h.rest c.requires.number h.going goes entered begun (ready_in c.loop-waiter.self)
          (among d there) (h.ready entered begun among each) (λ none. false≢true (sym c.if-is_free.false ∙ c.in-Some.ensures.none.1 none))));
    }

pub returns-clause-ready : goal.returns-clause-ready
returns-clause-ready c = λ entered begun among each.
    let none = c.in_default.ensures.goes in
    let Each = λ (u : WhoWaits). AreEach (IsFree entered u) (begun ++ ready_in c.loop-waiter.self) in
    let last = subst Each (sym c.finish.ensures) (subst Each (sym none.1) (c.loop-waiter.invariant.ready entered begun among each)) in
    subst (λ (u : WhoWaits). AreEach (IsFree entered u) (begun ++ ready_in c.free.new.self)) (sym c.free.ensures.waits)
    (subst (λ rs. AreEach (IsFree entered c.finish.new.self) (begun ++ rs)) (sym c.free.ensures.ready) last)
