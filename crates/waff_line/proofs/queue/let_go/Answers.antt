-- Those that wait for a message that has ended are let go, one after another.
use Rattle.std.proofs.Common.{sym, ◌∙◌, subst}
use Rattle.std.proofs.lemmas.Bool.{false≢true}
use Rattle.waff_plan.specs.Timing.{work_of}
use Rattle.waff_waits.specs.Waits.{IsFree, WhoWaits, waiting_for}
use Rattle.waff_waits.proofs.LettingGo.{going_next, it_waited}
use Rattle.waff_line.specs.Lined.{AreOpened, issue_noted}
use Rattle.waff_line.specs.Scaled.{scaled}
use Rattle.waff_line.proofs.Opening.{going_first, opened_bound, opened_none, opened_one}
use Rattle.waff_line.proofs.queue.let_go.Goals as goal

pub loop-next-init : goal.loop-next-init
loop-next-init c =
    let w = c.args.awaits.now in
    record {
      rest = waiting_for w c.args.m;
      going = going_first w c.args.m;
      opened = opened_none (issue_noted (scaled c.args.tick (work_of c.args.timings.now)) c.args.notes.now.0) w c.args.m c.args.due.now;
    }

pub issue-requires-clause-number : goal.issue-requires-clause-number
issue-requires-clause-number c =
    let h = c.loop-next.invariant in
    c.requires.numbers c.in-Some.next
    (it_waited c.args.awaits.now c.loop-next.awaits c.let_go.new.self c.args.m c.in-Some.next h.rest c.requires.number h.going c.in-Some.ensures.goes)

pub loop-next-preserved-in-Continue-1 : goal.loop-next-preserved-in-Continue-1
loop-next-preserved-in-Continue-1 c =
    let h = c.loop-next.invariant in
    let w = c.args.awaits.now in
    let issue = issue_noted (scaled c.args.tick (work_of c.args.timings.now)) c.args.notes.now.0 in
    let goes = c.in-Some.ensures.goes in
    record {
      rest = goes.rest;
      going = going_next w c.loop-next.awaits c.let_go.new.self c.args.m c.in-Some.next h.rest c.requires.number h.going goes;
      opened = opened_one issue w c.loop-next.awaits c.let_go.new.self c.args.m c.in-Some.next h.rest c.requires.number h.going goes
          c.args.due.now c.loop-next.due h.opened (c.in-Some.ensures.none.0 c.if-is_open.true) c.push.new.self
          (rw (sym c.issue.ensures) c.in_ok-push.ensures);
    }

pub loop-next-preserved : goal.loop-next-preserved
loop-next-preserved c =
    let h = c.loop-next.invariant in
    let w = c.args.awaits.now in
    let issue = issue_noted (scaled c.args.tick (work_of c.args.timings.now)) c.args.notes.now.0 in
    let goes = c.in-Some.ensures.goes in
    record {
      rest = goes.rest;
      going = going_next w c.loop-next.awaits c.let_go.new.self c.args.m c.in-Some.next h.rest c.requires.number h.going goes;
      opened = opened_bound issue w c.loop-next.awaits c.let_go.new.self c.args.m c.in-Some.next h.rest c.requires.number h.going goes
          c.args.due.now c.loop-next.due h.opened (λ none. false≢true (sym c.if-is_open.false ∙ c.in-Some.ensures.none.1 none));
    }

pub returns-clause-opened : goal.returns-clause-opened
returns-clause-opened c =
    let issue = issue_noted (scaled c.args.tick (work_of c.args.timings.now)) c.args.notes.now.0 in
    let waited = waiting_for c.args.awaits.now c.args.m in
    let Opened = λ (u : WhoWaits). AreOpened issue (IsFree waited u) c.args.due.now c.loop-next.due in
    subst Opened (sym c.finish.ensures) (subst Opened (sym c.in_default.ensures.goes.1) c.loop-next.invariant.opened)
