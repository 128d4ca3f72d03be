-- Messages are taken in the order in which they are served.
use Rattle.std.proofs.Common.{◌≡◌, ℕ, ◌≤◌, max, true, List, [], ◌∷◌, ◌++◌, length, Contains, Option, MatchOption, arith, sym, ◌∙◌, ap, subst}
use Rattle.waff_model.specs.Numbers.{IsAmongFirst}
use Rattle.waff_plan.specs.Table.{IsLatestExcluding, IsTable}
use Rattle.waff_plan.specs.Timetable.{starts_in, with_start, work_in}
use Rattle.waff_plan.specs.Turns.{HoldsWaits, is_by_issue, turns_in}
use Rattle.waff_plan.specs.Work.{IsNumber, finish_of, issue_of}
use Rattle.waff_waits.specs.Waits.{WhoWaits, waiting_for}
use Rattle.waff_plan.specs.declared.latest.Latest.{Latest}
use Rattle.waff_plan.proofs.IssueLoop.{going_first, going_on, least_at_end, links_at_end, m_number, many_wait, number_waits, some_left, start_printable, started_at_end, waits_more}
use Rattle.waff_plan.proofs.Tables.{excluding_under}
use Rattle.waff_plan.proofs.TimingLemmas.{length-timings_of}
use Rattle.waff_plan.proofs.TurnLemmas.{held_is}
use Rattle.waff_plan.proofs.unlimited.linked_plan.Goals as goal
use Rattle.waff_plan.proofs.unlimited.linked_plan.Goals.{In-Some}

number : (c : In-Some) → IsNumber (work_in c.loop-m.plan) c.in-Some.m
number c = m_number c.loop-m.invariant.going c.in-Some.ensures.taken

left : (c : In-Some) → 1 ≤ c.loop-m.left
left c = some_left c.loop-m.invariant.going c.in-Some.ensures.taken

-- what it holds is known
known_message : (c : In-Some) → IsAmongFirst (length c.loop-m.table.assigned) c.in-Some.m
known_message c =
    let known = number c in
    record { from = known.from; to = omega (arith, known.to, c.loop-m.invariant.going.same, ap length c.loop-m.invariant.assigned) }

-- the latest that was taken before it and excludes it
waited_for : (c : In-Some) (latest : Option Latest)
    → ((finish : ℕ → ℕ) (noted : List ℕ) → IsTable finish noted c.loop-m.table
    → IsLatestExcluding c.loop-m.table.tree c.loop-m.table.assigned finish noted c.in-Some.m latest)
    → IsLatestExcluding c.args.case.now.tree.now c.args.case.now.assigned.now (finish_of (work_in c.loop-m.plan) (starts_in c.loop-m.plan)) c.loop-m.invariant.order c.in-Some.m latest
waited_for c latest answer =
    let h = c.loop-m.invariant in
    let finish = finish_of (work_in c.loop-m.plan) (starts_in c.loop-m.plan) in
    excluding_under c.args.case.now.tree.now c.args.case.now.assigned.now c.loop-m.table finish h.order c.in-Some.m latest h.tree h.assigned (answer finish h.order h.going.table)

-- it starts as soon as it may
starts_at : (c : In-Some) (s issue : ℕ) (latest : Option Latest) → issue ≡ issue_of (work_in c.loop-m.plan) (starts_in c.loop-m.plan) c.in-Some.m
    → MatchOption latest (s ≡ issue) (λ l. s ≡ max issue l.finish)
    → MatchOption latest (s ≡ issue_of (work_in c.loop-m.plan) (starts_in c.loop-m.plan) c.in-Some.m)
    (λ l. s ≡ max (issue_of (work_in c.loop-m.plan) (starts_in c.loop-m.plan) c.in-Some.m) l.finish)
starts_at c s issue latest is at = subst (λ (i : ℕ). MatchOption latest (s ≡ i) (λ l. s ≡ max i l.finish)) is at

pub loop-m-init : goal.loop-m-init
loop-m-init c = record {
  order = [];
  waits = c.in_ok-turns.ensures.waits.0;
  going = going_first c.len-left.ensures.table (ap length c.in_ok-plan.ensures.timings ∙ length-timings_of c.args.case.now.trace.now.messages ∙ sym c.args.case.now.lengths)
      (omega (arith, c.in_ok-links.ensures.len, c.in_ok-links.links.ok.0, c.len.ensures.count)) c.len-left.ensures.count
      c.in_ok-turns.ensures.first c.in_ok-turns.ensures.waits.1 (c.in_ok-table.ensures.table _);
  holds = c.in_ok-turns.ensures.waits.2;
  version = c.in_ok-plan.ensures.version;
  timings = c.in_ok-plan.ensures.timings;
  tree = c.in_ok-table.ensures.tree;
  assigned = c.in_ok-table.ensures.assigned;
  by = c.in_ok-turns.ensures.by;
}

pub overflow_sub-left : goal.overflow_sub-left
overflow_sub-left c = left (goal.at.overflow_sub-left c).In-Some

pub issue-requires : goal.issue-requires
issue-requires c = record { number = number (goal.at.issue-requires c).In-Some }

pub latest-latest-requires : goal.latest-latest-requires
latest-latest-requires c = record { number = known_message (goal.at.latest-latest-requires c).In-Some }

pub wait-requires : goal.wait-requires
wait-requires c = record { number = number (goal.at.wait-requires c).In-Some }

pub index_mut-requires : goal.index_mut-requires
index_mut-requires c =
    let known = number (goal.at.index_mut-requires c).In-Some in
    omega (arith, known.from, known.to, c.loop-m.invariant.going.linked)

pub set_start-requires : goal.set_start-requires
set_start-requires c =
    let f = (goal.at.set_start-requires c).In-Some in
    record {
      number = number f;
      printable = start_printable c.loop-m.invariant.going c.in-Some.ensures.taken c.start_at-start.result c.latest-latest.result
          (waited_for f c.latest-latest.result c.latest-latest.ensures)
          (starts_at f c.start_at-start.result c.issue.result c.latest-latest.result c.issue.ensures.issue c.start_at-start.ensures);
    }

pub finish-finish-requires : goal.finish-finish-requires
finish-finish-requires c = rw c.set_start.ensures (record { number = number (goal.at.finish-finish-requires c).In-Some })

pub note-requires : goal.note-requires
note-requires c = record { number = known_message (goal.at.note-requires c).In-Some }

pub overflow_sub-m : goal.overflow_sub-m
overflow_sub-m c = (number (goal.at.overflow_sub-m c).In-Some).from

-- who waits for whom, when a message is taken
holds_then : (c : In-Some) → HoldsWaits c.take.new.self c.loop-m.invariant.waits
holds_then c = c.take.ensures.waits c.loop-m.invariant.waits c.loop-m.invariant.holds

pub admit-requires : goal.admit-requires
admit-requires c =
    let f = (goal.at.admit-requires c).In-Some in
    let held : is_by_issue c.take.new.self ≡ true → (w : WhoWaits) → HoldsWaits c.take.new.self w → c.loop-m.invariant.waits ≡ w
    = λ by w holds. held_is c.take.new.self c.loop-m.invariant.waits w by (holds_then f) holds in
    rw c.set_start.ensures (record {
      number = number f;
      many = λ by w holds. subst (λ (u : WhoWaits). length u.awaited ≡ length c.loop-m.plan.timings) (held by w holds)
          (many_wait c.loop-m.invariant.going c.in-Some.ensures.taken);
      numbers = λ by w holds. subst (λ (u : WhoWaits). (d : ℕ) → Contains (waiting_for u c.in-Some.m) d → IsNumber (work_in c.loop-m.plan) d) (held by w holds)
          (number_waits c.loop-m.invariant.going c.in-Some.ensures.taken);
    })

pub loop-m-smaller : goal.loop-m-smaller
loop-m-smaller c = omega (arith, left (goal.at.loop-m-smaller c).In-Some)

pub loop-m-preserved : goal.loop-m-preserved
loop-m-preserved c =
    let f = (goal.at.loop-m-preserved c).In-Some in
    let h = c.loop-m.invariant in
    let s = c.start_at-start.result in
    let placed = with_start c.loop-m.plan c.in-Some.m s in
    let after = waits_more h.going c.in-Some.ensures.taken in
    let holds_after : HoldsWaits c.admit.new.self after = c.in_ok-admit.ensures.waits h.waits (holds_then f) in
    rw (c.set_start.ensures, c.wait.ensures) (record {
      order = h.order ++ c.in-Some.m ∷ [];
      waits = after;
      going = going_on h.going c.in-Some.ensures.taken s c.latest-latest.result
          (waited_for f c.latest-latest.result c.latest-latest.ensures)
          (starts_at f s c.issue.result c.latest-latest.result c.issue.ensures.issue c.start_at-start.ensures)
          c.finish-finish.result (rw c.set_start.ensures at c.finish-finish.ensures.finish) c.note.new.self
          (λ finish noted at. c.note.ensures.table finish h.order noted at)
          (turns_in c.admit.new.self) (c.in_ok-admit.ensures.free h.waits after (holds_then f) holds_after)
          (rw c.set_start.ensures at (c.in_ok-admit.ensures.issued h.waits (holds_then f)));
      holds = holds_after;
      version = h.version;
      timings = h.timings;
      tree = c.note.ensures.tree ∙ h.tree;
      assigned = c.note.ensures.assigned ∙ h.assigned;
      by = c.in_ok-admit.ensures.kept ∙ c.in-Some.ensures.kept ∙ h.by;
    })

pub returns-clause-version : goal.returns-clause-version
returns-clause-version c = c.loop-m.invariant.version

pub returns-clause-timings : goal.returns-clause-timings
returns-clause-timings c = c.loop-m.invariant.timings

pub returns-clause-lengths : goal.returns-clause-lengths
returns-clause-lengths c = c.loop-m.invariant.going.same

pub returns-clause-least : goal.returns-clause-least
returns-clause-least c = least_at_end (rw c.in_default.ensures.taken at c.loop-m.invariant.going)

pub returns-clause-started : goal.returns-clause-started
returns-clause-started c = started_at_end (rw c.in_default.ensures.taken at c.loop-m.invariant.going)

pub returns-clause-count : goal.returns-clause-count
returns-clause-count c = c.loop-m.invariant.going.linked

pub returns-clause-links : goal.returns-clause-links
returns-clause-links c = links_at_end (rw c.in_default.ensures.taken at c.loop-m.invariant.going)
