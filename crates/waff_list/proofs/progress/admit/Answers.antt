-- Those that wait for a message that has its start are let go, one after another.
use Rattle.std.proofs.Common.{◌≡◌, ℕ, ◌-◌, [], ◌∷◌, ◌++◌, List, Contains, length, map, set, true, sym, ◌∙◌, ap, arith, subst, get_or-set_same}
use Rattle.std.proofs.lemmas.Bool.{false≢true}
use Rattle.std.proofs.lemmas.List.{set-get_or}
use Rattle.std.proofs.lemmas.List.Elements.{All-cons, All-nil}
use Rattle.std.proofs.lemmas.List.Sorted.{IsPermutation-cons, IsPermutation-refl, IsPermutation-trans}
use Rattle.waff_model.specs.Numbers.{IsAmongFirst}
use Rattle.waff_plan.specs.Timing.{HasIssue, start_of, work_of}
use Rattle.waff_plan.specs.Work.{issue_of}
use Rattle.waff_plan.specs.declared.timing.Timing.{Timing}
use Rattle.waff_waits.specs.Times.{AreEach}
use Rattle.waff_waits.specs.Waits.{IsFree, WhoWaits, waiting_for}
use Rattle.waff_waits.proofs.Each.{none_there}
use Rattle.waff_waits.proofs.LettingGo.{going_bound, going_free, going_next, it_waited}
use Rattle.waff_list.proofs.LettingGo.{going_none}
use Rattle.waff_list.proofs.progress.admit.Goals as goal
use Rattle.waff_list.proofs.progress.admit.Goals.{In-Some}

pub loop-next-init : goal.loop-next-init
loop-next-init c =
    let w = c.args.awaits.now in
    record {
      rest = waiting_for w c.args.m;
      going = (
        ap (λ xs. let v : WhoWaits = record { awaited = xs; finished = w.finished } in v) (sym (set-get_or w.awaited (c.args.m - 1) [])),
        λ d there. there,
      );
      opened = [];
      each = record {
        only = λ d there. absurd (none_there d there);
        each = λ d free. absurd (free.1 c.args.m free.0);
      };
      ticks = All-nil _;
      issues = IsPermutation-refl c.args.issues.now;
    }

number : (c : In-Some) → IsAmongFirst (length c.args.awaits.now.awaited) c.args.m
number c =
    let is = c.requires.number in
    record { from = is.from; to = omega (arith, is.to, c.requires.many) }

waited : (c : In-Some) → Contains (waiting_for c.args.awaits.now c.args.m) c.in-Some.next
waited c =
    it_waited c.args.awaits.now c.loop-next.awaits c.let_go.new.self c.args.m c.in-Some.next c.loop-next.invariant.rest (number c) c.loop-next.invariant.going c.in-Some.ensures.goes

pub issue-requires : goal.issue-requires
issue-requires c =
    let f = (goal.at.issue-requires c).In-Some in
    let w = c.args.awaits.now in
    let h = c.loop-next.invariant in
    let m = c.args.m in
    let d = c.in-Some.next in
    let goes = c.in-Some.ensures.goes in
    let going = going_next w c.loop-next.awaits c.let_go.new.self m d h.rest (number f) h.going goes in
    subst (λ (ts : List Timing). HasIssue ts c.args.starts.now d) (sym c.as_slice.ensures.value)
    (c.requires.issued d (waited f, going_none w c.let_go.new.self m d goes.rest (number f) going (c.in-Some.ensures.none.0 c.if-is_open.true)))

pub loop-next-preserved-in-Continue-1 : goal.loop-next-preserved-in-Continue-1
loop-next-preserved-in-Continue-1 c =
    let f = (goal.at.loop-next-preserved-in-Continue-1 c).In-Some in
    let h = c.loop-next.invariant in
    let w = c.args.awaits.now in
    let now = c.loop-next.awaits in
    let new = c.let_go.new.self in
    let m = c.args.m in
    let d = c.in-Some.next in
    let goes = c.in-Some.ensures.goes in
    let names : List ℕ = map (λ (r : ℕ × ℕ). r.1) h.opened in
    let one : ℕ × ℕ = (c.issue.result, d) in
    let issue : issue_of (work_of c.args.task.now.timings.items) (start_of c.args.starts.now) d ≡ c.issue.result
    = sym (c.issue.ensures ∙ ap (λ (ts : List Timing). issue_of (work_of ts) (start_of c.args.starts.now) d) c.as_slice.ensures.value) in
    record {
      rest = goes.rest;
      going = going_next w now new m d h.rest (number f) h.going goes;
      opened = one ∷ h.opened;
      each = going_free w now new m d h.rest (number f) h.going goes (waiting_for w m) [] names (waited f) h.each (d ∷ names) (IsPermutation-refl (d ∷ names))
          (c.in-Some.ensures.none.0 c.if-is_open.true);
      ticks = All-cons (λ (r : ℕ × ℕ). issue_of (work_of c.args.task.now.timings.items) (start_of c.args.starts.now) r.1 ≡ r.0) one h.opened issue h.ticks;
      issues = IsPermutation-trans (one ∷ (h.opened ++ c.args.issues.now)) (one ∷ c.loop-next.issues) c.push.new.self
          (IsPermutation-cons one (h.opened ++ c.args.issues.now) c.loop-next.issues h.issues) c.in_ok-push.ensures;
    }

pub loop-next-preserved : goal.loop-next-preserved
loop-next-preserved c =
    let f = (goal.at.loop-next-preserved c).In-Some in
    let h = c.loop-next.invariant in
    let w = c.args.awaits.now in
    let now = c.loop-next.awaits in
    let new = c.let_go.new.self in
    let m = c.args.m in
    let d = c.in-Some.next in
    let goes = c.in-Some.ensures.goes in
    record {
      rest = goes.rest;
      going = going_next w now new m d h.rest (number f) h.going goes;
      opened = h.opened;
      each = going_bound w now new m d h.rest (number f) h.going goes (waiting_for w m) [] (map (λ (r : ℕ × ℕ). r.1) h.opened) (waited f) h.each
          (λ none. false≢true (sym c.if-is_open.false ∙ c.in-Some.ensures.none.1 none));
      ticks = h.ticks;
      issues = h.issues;
    }

pub returns-clause-issues : goal.returns-clause-issues
returns-clause-issues c =
    let h = c.loop-next.invariant in
    let w = c.args.awaits.now in
    let m = c.args.m in
    let names : List ℕ = map (λ (r : ℕ × ℕ). r.1) h.opened in
    let none = c.in_default.ensures.goes in
    let here : waiting_for c.loop-next.awaits m ≡ h.rest
    = ap (λ (u : WhoWaits). waiting_for u m) h.going.0 ∙ get_or-set_same w.awaited (m - 1) h.rest [] (omega (arith, c.requires.number.from, c.requires.number.to, c.requires.many)) in
    let over : h.rest ≡ [] = sym here ∙ none.0 in
    let are : c.loop-next.awaits.awaited ≡ set w.awaited (m - 1) []
    = ap (λ (u : WhoWaits). u.awaited) h.going.0 ∙ ap (λ xs. set w.awaited (m - 1) xs) over in (
      h.opened,
      record {
        each = subst (λ (xs : List (List ℕ)). AreEach (IsFree (waiting_for w m) (record { awaited = xs; finished = set w.finished (m - 1) true })) names) are h.each;
        ticks = h.ticks;
      },
      h.issues,
    )
