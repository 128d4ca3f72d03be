use Rattle.std.proofs.Common.{◌≡◌, ℕ, suc, ◌+◌, ◌-◌, ◌<◌, ◌≤◌, ◌⊎◌, inl, inr, List, [], ◌∷◌, ◌++◌, length, get_or, set, arith, length-set, refl, sym, ◌∙◌, ap, subst}
use Rattle.std.proofs.lemmas.List.{get_or_read, nil_from_length}
use Rattle.std.proofs.lemmas.List.Sorted.{IsNonDecreasingBy-from_sort, length_permutation}
use Rattle.waff_plan.specs.Timing.{HasIssue, start_of, work_of}
use Rattle.waff_plan.specs.Work.{IsNumber}
use Rattle.waff_plan.proofs.AwaitingLemmas.{waits_count}
use Rattle.waff_list.specs.Issuing.{AreOpened, IsOpened}
use Rattle.waff_list.specs.Orders.{IsServiceOrder}
use Rattle.waff_list.specs.Placed.{Placed}
use Rattle.waff_list.specs.Plannable.{Plannable}
use Rattle.waff_list.specs.Planning.{IsStarted, placed_in, plannable_of}
use Rattle.waff_waits.specs.Ready.{ranked_in}
use Rattle.waff_waits.specs.Waits.{WhoWaits}
use Rattle.waff_list.specs.Telling.{basis_of, key_in, priority_in}
use Rattle.waff_list.proofs.ClientTasks.{has_issue, small_of}
use Rattle.waff_list.proofs.Filling.{IsStartedTo, started_all, started_filled, started_more, started_none, started_number, started_opens, started_placed}
use Rattle.waff_list.proofs.IssuePlans.{awaits_messages}
use Rattle.waff_list.proofs.Orders.{service_order}
use Rattle.waff_list.proofs.Steps.{order_of_waiting}
use Rattle.waff_list.proofs.planner.start_all.Goals as goal
use Rattle.waff_list.proofs.planner.start_all.Goals.{After-index}

pub loop-at-init : goal.loop-at-init
loop-at-init c =
    let task = c.args.task.now in
    let p = c.args.progress.now in
    let w = c.args.waiting.now in
    let k = c.requires.kept in
    let work = work_of task.timings.items in
    record {
      on = record {
        issued = k.issued;
        needs = k.waiting.needs;
        on = started_none (plannable_of task (basis_of w.service)) (order_of_waiting task p w [] k.issued c.args.now k.waiting) (awaits_messages work task.earlier)
            (placed_in p) p.finishes p.idle w.waits p.issues p.awaits w.ready c.gather.new.ready k.issued k.waiting.needs c.args.now _ _ c.sort_unstable.new.self.items
            (omega (arith, c.requires.tick)) c.requires.begun k.served k.issues k.waiting.awaiting k.waiting.kept k.waiting.ranked c.in_ok-gather.ensures.gathered c.sort_unstable.ensures.permutation;
        known = k.waiting.known;
        fits = k.waiting.fits;
      };
      idle = omega arith;
    }

-- the message that is read is one of those that were taken out
inside : (c : After-index) → c.loop-at.at < length c.sort_unstable.new.self.items
inside c = omega (arith, c.len-at-end.ensures, c.loop-at-test.true)

is : (c : After-index) → c.index.result.now ≡ get_or c.sort_unstable.new.self.items c.loop-at.at 0
is c = get_or_read c.sort_unstable.new.self.items c.loop-at.at c.index.result.now (inside c) c.index.ensures 0

order : (c : After-index) → IsServiceOrder (work_of c.args.task.now.timings.items) (plannable_of c.args.task.now (basis_of c.args.waiting.now.service)).order
order c =
    let task = c.args.task.now in
    let w = c.args.waiting.now in
    let h = c.loop-at.invariant.on in
    service_order w.service (work_of task.timings.items) h.issued h.needs h.fits h.known (small_of task)

known : (c : After-index) → IsNumber (work_of c.args.task.now.timings.items) c.index.result.now
known c =
    let task = c.args.task.now in
    let p = c.loop-at.progress in
    let w = c.args.waiting.now in
    let h = c.loop-at.invariant.on in
    subst (λ m. IsNumber (work_of task.timings.items) m) (sym (is c))
    (started_number (plannable_of task (basis_of w.service)) (order c) task.earlier (small_of task) c.args.progress.now.starts.items (placed_in p) p.finishes p.idle w.waits p.issues p.awaits w.ready c.gather.new.ready h.issued h.needs c.args.now c.sort_unstable.new.self.items c.loop-at.at h.on (inside c))

pub start-requires-clause-number : goal.start-requires-clause-number
start-requires-clause-number c = known (goal.at.start-requires-clause-number c).After-index

pub start-requires-clause-many : goal.start-requires-clause-many
start-requires-clause-many c =
    let task = c.args.task.now in
    let p = c.loop-at.progress in
    waits_count (work_of task.timings.items) task.earlier p.order.items p.awaits c.loop-at.invariant.on.on.on.awaiting

-- those that await nothing more have their issues
opens : (c : After-index) → (d : ℕ) → IsOpened c.loop-at.progress.awaits (get_or c.sort_unstable.new.self.items c.loop-at.at 0) d
    → HasIssue c.args.task.now.timings.items (set c.loop-at.progress.starts.items (get_or c.sort_unstable.new.self.items c.loop-at.at 0 - 1) c.args.now) d
opens c d is_open =
    let task = c.args.task.now in
    let p = c.loop-at.progress in
    let w = c.args.waiting.now in
    let h = c.loop-at.invariant.on in
    let now = c.args.now in
    let at = c.loop-at.at in
    let messages = c.sort_unstable.new.self.items in
    let m = get_or messages at 0 in
    let plan : Plannable = plannable_of task (basis_of w.service) in
    let known = started_opens plan (order c) task.earlier (small_of task) c.args.progress.now.starts.items (placed_in p) p.finishes p.idle w.waits p.issues p.awaits w.ready c.gather.new.ready h.issued h.needs now messages at h.on (inside c)
    c.requires.tick d is_open in
    has_issue task (set p.starts.items (m - 1) now) now d (length-set p.starts.items (m - 1) now ∙ h.on.on.planned.starts_count) c.requires.tick
    (started_placed plan (order c) task.earlier (small_of task) c.args.progress.now.starts.items (placed_in p) p.finishes p.idle w.waits p.issues p.awaits w.ready c.gather.new.ready h.issued h.needs now messages at h.on (inside c)
    c.requires.tick) known.0 known.1

pub start-requires-clause-issued : goal.start-requires-clause-issued
start-requires-clause-issued c =
    let i = (goal.at.start-requires-clause-issued c).After-index in
    subst (λ m. (d : ℕ) → IsOpened c.loop-at.progress.awaits m d → HasIssue c.args.task.now.timings.items (set c.loop-at.progress.starts.items (m - 1) c.args.now) d) (sym (is i)) (opens i)

pub loop-at-preserved : goal.loop-at-preserved
loop-at-preserved c =
    let i = (goal.at.loop-at-preserved c).After-index in
    let task = c.args.task.now in
    let work = work_of task.timings.items in
    let old = c.args.progress.now.starts.items in
    let p = c.loop-at.progress in
    let w = c.args.waiting.now in
    let now = c.args.now in
    let messages = c.sort_unstable.new.self.items in
    let at = c.loop-at.at in
    let h = c.loop-at.invariant.on in
    let m = get_or messages at 0 in
    let after = c.start.new.self in
    let told : IsStarted work m now p after = subst (λ x. IsStarted work x now p after) (is i) c.in_ok-start.ensures in
    let next : suc at ≡ at + 1 = omega arith in
    let plan : Plannable = plannable_of task (basis_of w.service) in
    let are : AreOpened work (start_of (set p.starts.items (m - 1) now)) p.awaits m told.opened
    = subst (λ (xs : List ℕ). AreOpened work (start_of xs) p.awaits m told.opened) told.starts told.are in
    let placed : Placed = record { starts = set p.starts.items (m - 1) now; seats = set p.seats.items (m - 1) told.worker; order = p.order.items ++ m ∷ [] } in
    let placed_is : placed_in after ≡ placed = rw (told.starts, told.seats, told.order) refl in
    let more = started_more plan (order i) task.earlier (small_of task) old (placed_in p) p.finishes p.idle w.waits p.issues p.awaits w.ready c.gather.new.ready h.issued h.needs now messages at h.on (inside i) c.requires.tick (IsNonDecreasingBy-from_sort (λ (x : ℕ). x) _ c.sort_unstable.ensures.sorted)
    told.worker after.idle told.idle.rest told.idle.least after.finishes told.finishes told.opened after.issues are told.issues in
    record {
      on = record {
        issued = h.issued;
        needs = h.needs;
        on = subst (λ n. IsStartedTo plan old (placed_in after) after.finishes after.idle w.waits after.issues after.awaits w.ready c.gather.new.ready h.issued h.needs now messages n) next
            (subst (λ (x : Placed). IsStartedTo plan old x after.finishes after.idle w.waits after.issues after.awaits w.ready c.gather.new.ready h.issued h.needs now messages (suc at)) (sym placed_is)
            (subst (λ (u : WhoWaits). IsStartedTo plan old placed after.finishes after.idle w.waits after.issues u w.ready c.gather.new.ready h.issued h.needs now messages (suc at)) (sym told.awaits) more));
        known = h.known;
        fits = h.fits;
      };
      idle = omega (arith, length_permutation _ _ told.idle.rest, c.loop-at.invariant.idle);
    }

pub returns-clause-filled : goal.returns-clause-filled
returns-clause-filled c =
    let task = c.args.task.now in
    let p = c.loop-at.progress in
    let w = c.args.waiting.now in
    let h = c.loop-at.invariant.on in
    let messages = c.sort_unstable.new.self.items in
    let taken = c.gather.new.started.items in
    let sorted = c.sort_unstable.ensures.permutation in
    let end : length messages ≤ c.loop-at.at = omega (arith, c.len-at-end.ensures, c.loop-at-test.false) in
    let over : (p.idle ≡ []) ⊎ (ranked_in c.gather.new.ready ≡ []) = elim c.in_ok-gather.ensures.over [
      | inl full ↦ inl (nil_from_length p.idle (omega (arith, full, length_permutation taken messages sorted, end, c.loop-at.invariant.idle, c.len.ensures)))
      | inr none ↦ inr (ap ranked_in none)
    ] in
    started_filled (plannable_of task (basis_of w.service)) (service_order w.service (work_of task.timings.items) h.issued h.needs h.fits h.known (small_of task))
    task.earlier (small_of task) c.args.progress.now.starts.items (placed_in p) p.finishes p.idle w.waits p.issues p.awaits w.ready c.gather.new.ready h.issued h.needs c.args.now messages c.loop-at.at h.on end (omega (arith, c.requires.tick)) c.len.result taken c.in_ok-gather.ensures.gathered sorted over

pub returns-clause-kept : goal.returns-clause-kept
returns-clause-kept c =
    let task = c.args.task.now in
    let p = c.loop-at.progress in
    let w = c.args.waiting.now in
    let h = c.loop-at.invariant.on in
    let messages = c.sort_unstable.new.self.items in
    let end : length messages ≤ c.loop-at.at = omega (arith, c.len-at-end.ensures, c.loop-at-test.false) in
    let all = started_all (plannable_of task (basis_of w.service)) (service_order w.service (work_of task.timings.items) h.issued h.needs h.fits h.known (small_of task))
    task.earlier (small_of task) c.args.progress.now.starts.items (placed_in p) p.finishes p.idle w.waits p.issues p.awaits w.ready c.gather.new.ready h.issued h.needs c.args.now messages c.loop-at.at h.on end in
    record {
      issued = h.issued;
      served = all.served;
      issues = all.known;
      waiting = record {
        needs = h.needs;
        kept = all.kept;
        known = h.known;
        fits = h.fits;
        awaiting = all.awaiting;
        ranked = c.in_ok-gather.ensures.gathered.ranked (priority_in task) (key_in w.service (work_of task.timings.items) (start_of p.starts.items)) all.ranked;
      };
    }
