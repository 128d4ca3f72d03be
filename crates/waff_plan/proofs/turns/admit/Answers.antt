-- Those that wait for a message that has had its turn are let go, one after another.
use Rattle.std.proofs.Common.{◌≡◌, ◌-◌, inl, inr, [], ◌∷◌, ◌++◌, Contains, length, sym, ◌∙◌, ap, arith, subst}
use Rattle.std.proofs.lemmas.Bool.{false≢true}
use Rattle.std.proofs.lemmas.List.{set-get_or}
use Rattle.std.proofs.lemmas.List.Sorted.{IsPermutation-map}
use Rattle.waff_model.specs.Numbers.{IsAmongFirst}
use Rattle.waff_plan.specs.Pending.{Issue}
use Rattle.waff_plan.specs.Timetable.{starts_in, work_in}
use Rattle.waff_plan.specs.Work.{issue_of}
use Rattle.waff_waits.specs.Times.{AreEach}
use Rattle.waff_waits.specs.Waits.{IsFree, WhoWaits, waiting_for}
use Rattle.waff_waits.proofs.LettingGo.{going_bound, going_free, going_next, it_waited}
use Rattle.waff_plan.proofs.IssueFirst.{put_cases}
use Rattle.waff_plan.proofs.IssueSteps.{those}
use Rattle.waff_plan.proofs.turns.admit.Goals as goal
use Rattle.waff_plan.proofs.turns.admit.Goals.{In-Some}

pub loop-next-init : goal.loop-next-init
loop-next-init c =
    let w = c.args.waits.now in
    record {
      rest = waiting_for w c.args.m;
      going = (
        ap (λ xs. let v : WhoWaits = record { awaited = xs; finished = w.finished } in v) (sym (set-get_or w.awaited (c.args.m - 1) [])),
        λ d there. there,
      );
      free = λ entered taken among each. each;
      issued = λ x there. inl there;
    }

number : (c : In-Some) → IsAmongFirst (length c.args.waits.now.awaited) c.args.m
number c =
    let is = c.requires.number in
    record { from = is.from; to = omega (arith, is.to, c.requires.many) }

waited : (c : In-Some) → Contains (waiting_for c.args.waits.now c.args.m) c.in-Some.next
waited c =
    it_waited c.args.waits.now c.loop-next.waits c.let_go.new.self c.args.m c.in-Some.next c.loop-next.invariant.rest (number c) c.loop-next.invariant.going c.in-Some.ensures.goes

pub issue-requires : goal.issue-requires
issue-requires c =
    let f = (goal.at.issue-requires c).In-Some in
    record { number = c.requires.numbers f.in-Some.next (waited f) }

pub loop-next-preserved-in-Continue-1 : goal.loop-next-preserved-in-Continue-1
loop-next-preserved-in-Continue-1 c =
    let f = (goal.at.loop-next-preserved-in-Continue-1 c).In-Some in
    let h = c.loop-next.invariant in
    let w = c.args.waits.now in
    let now = c.loop-next.waits in
    let new = c.let_go.new.self in
    let m = c.args.m in
    let d = c.in-Some.next in
    let goes = c.in-Some.ensures.goes in
    let one : Issue = (c.issue.result, d) in
    let before = c.loop-next.due in
    let after = c.push.new.self in
    let moved = IsPermutation-map (λ (x : Issue). x.1) (one ∷ before) after c.in_ok-push.ensures in
    record {
      rest = goes.rest;
      going = going_next w now new m d h.rest (number f) h.going goes;
      free = λ entered taken among each.
          going_free w now new m d h.rest (number f) h.going goes entered taken (those before) (among d (waited f)) (h.free entered taken among each)
          (those after) moved (c.in-Some.ensures.none.0 c.if-is_open.true);
      issued = λ x there. elim (put_cases one before after c.in_ok-push.ensures x there) [
        | inl here ↦ inr (
          subst (λ (y : Issue). Contains (waiting_for w m) y.1) here (waited f),
          subst (λ (y : Issue). y.0 ≡ issue_of (work_in c.args.plan.now) (starts_in c.args.plan.now) y.1) here c.issue.ensures.issue,
        )
        | inr old ↦ h.issued x old
      ];
    }

pub loop-next-preserved : goal.loop-next-preserved
loop-next-preserved c =
    let f = (goal.at.loop-next-preserved c).In-Some in
    let h = c.loop-next.invariant in
    let w = c.args.waits.now in
    let now = c.loop-next.waits in
    let new = c.let_go.new.self in
    let m = c.args.m in
    let d = c.in-Some.next in
    let goes = c.in-Some.ensures.goes in
    record {
      rest = goes.rest;
      going = going_next w now new m d h.rest (number f) h.going goes;
      free = λ entered taken among each.
          going_bound w now new m d h.rest (number f) h.going goes entered taken (those c.loop-next.due) (among d (waited f)) (h.free entered taken among each)
          (λ none. false≢true (sym c.if-is_open.false ∙ c.in-Some.ensures.none.1 none));
      issued = h.issued;
    }

pub returns-clause-free : goal.returns-clause-free
returns-clause-free c = λ entered taken among each.
    let none = c.in_default.ensures.goes in
    let before : AreEach (IsFree entered c.loop-next.waits) (taken ++ those (c.loop-next.due)) = c.loop-next.invariant.free entered taken among each in
    subst (λ (u : WhoWaits). AreEach (IsFree entered u) (taken ++ those (c.loop-next.due))) (sym c.finish.ensures)
    (subst (λ (u : WhoWaits). AreEach (IsFree entered u) (taken ++ those (c.loop-next.due))) (sym none.1) before)

pub returns-clause-issued : goal.returns-clause-issued
returns-clause-issued c = c.loop-next.invariant.issued
