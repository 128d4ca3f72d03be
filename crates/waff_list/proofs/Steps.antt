-- The steps of the planner, in its own values: messages are issued, messages start, and messages finish by the next tick.
use Rattle.std.proofs.Common.{◌≡◌, ℕ, ◌+◌, ◌^◌, ◌<◌, ◌≤◌, ◌⊎◌, inl, inr, List, [], ◌∷◌, ◌++◌, length, map, All, Contains, arith, sym, ◌∙◌, subst}
use Rattle.std.specs.List.Sorted.{IsPermutation}
use Rattle.std.proofs.lemmas.Bool.{cases_lt}
use Rattle.std.proofs.lemmas.List.Elements.{All-contains, All-contains_itself, All-head, All-weaker}
use Rattle.std.proofs.lemmas.List.Sorted.{All-permutation, Contains-permutation, IsPermutation-append_right, IsPermutation-map, IsPermutation-sym}
use Rattle.waff_plan.specs.Due.{IsDueFirst, LeavesDue}
use Rattle.waff_plan.specs.Timing.{HasIssue, start_of}
use Rattle.waff_plan.specs.Work.{Work, IsNumber, finish_of, issue_of}
use Rattle.waff_plan.specs.declared.due.TheConstants.{NEVER}
use Rattle.waff_waits.specs.Ready.{AreRanked, ranked_in}
use Rattle.waff_waits.specs.Times.{AreEach}
use Rattle.waff_waits.specs.Waits.{AreWaits, HasFinished, IsFree, waiting_for}
use Rattle.waff_waits.proofs.Each.{each_moved}
use Rattle.waff_list.specs.Issuing.{AreJoining}
use Rattle.waff_list.specs.Orders.{IsServiceOrder}
use Rattle.waff_list.specs.Plannable.{HaveFinishedBy}
use Rattle.waff_list.specs.Planning.{AreIssuing, AreKnown, AreStarting, Fits, IsPlanned, IsWaiting, placed_in, plannable_of}
use Rattle.waff_list.specs.Telling.{basis_of, key_in, order_by, priority_in}
use Rattle.waff_list.specs.Waiting.{AreFinishes, AreManned, HaveFinished, Runs}
use Rattle.waff_list.specs.declared.progress.Progress.{Progress}
use Rattle.waff_list.specs.declared.service.Service.{Service}
use Rattle.waff_list.specs.declared.task.Task.{Task}
use Rattle.waff_list.specs.declared.waiting.Waiting.{Waiting}
use Rattle.waff_list.proofs.ClientTasks.{has_issue, small_of, work}
use Rattle.waff_list.proofs.Filling.{IsStartedTo}
use Rattle.waff_list.proofs.FinishLemmas.{finishes_advance}
use Rattle.waff_list.proofs.IssueJoining.{issues_of_joining, joining_of_served, served_of_joining}
use Rattle.waff_list.proofs.Orders.{service_order}

-- a plan with other messages that are to be issued
abbrev pub with_issues : Progress → List (ℕ × ℕ) → Progress
with_issues p issues = record { starts = p.starts; seats = p.seats; order = p.order; idle = p.idle; finishes = p.finishes; issues = issues; awaits = p.awaits }

waiting_as : (task : Task) (p : Progress) (w : Waiting) (rest issued : List ℕ) (now : ℕ) (issues : List (ℕ × ℕ)) → IsWaiting task p w rest issued now → IsWaiting task (with_issues p issues) w rest issued now
waiting_as task p w rest issued now issues h = record { needs = h.needs; kept = h.kept; known = h.known; fits = h.fits; ranked = h.ranked; awaiting = h.awaiting }

-- the issues of those that are still to be issued, in another order
joining_moved : (work : Work) (start : ℕ → ℕ) (now : ℕ) (issued : List ℕ) (issues others : List (ℕ × ℕ)) → IsPermutation issues others → AreJoining work start now issued issues
    → AreJoining work start now issued others
joining_moved work start now issued issues others moved h =
    let Message = λ (r : ℕ × ℕ). r.1 in
    let names = IsPermutation-map Message issues others moved in
    record {
      each = each_moved (λ m. IsNumber work m × (issue_of work start m < NEVER)) (issued ++ map Message issues) h.each (issued ++ map Message others)
          (IsPermutation-append_right issued (map Message issues) (map Message others) names);
      ticks = All-permutation (λ (r : ℕ × ℕ). issue_of work start r.1 ≡ r.0) issues others moved h.ticks;
      by_now = h.by_now;
      sorted = h.sorted;
      first = λ i m there waits. h.first i m there (Contains-permutation (map Message others) (map Message issues) m (IsPermutation-sym (map Message issues) (map Message others) names) waits);
    }

-- the one that is due first is taken out
module _ (task : Task) (p : Progress) (w : Waiting) (now : ℕ) (k : AreIssuing task p w p.issues now) (tick m : ℕ) (rest : List (ℕ × ℕ)) (leaves : LeavesDue p.issues (tick, m) rest) where
  abbrev its_issue : ℕ
  its_issue = issue_of (work task) (start_of p.starts.items) m

  moved : AreJoining (work task) (start_of p.starts.items) now k.issued ((tick, m) ∷ rest)
  moved = joining_moved (work task) (start_of p.starts.items) now k.issued p.issues ((tick, m) ∷ rest) leaves.rest k.joining

  pub at_tick : its_issue ≡ tick
  at_tick = All-head (λ (r : ℕ × ℕ). issue_of (work task) (start_of p.starts.items) r.1 ≡ r.0) (tick, m) rest moved.ticks

  pub issuing_next : AreIssuing task (with_issues p rest) w ((its_issue, m) ∷ rest) now
  issuing_next = record {
    issued = k.issued;
    joining = subst (λ t. AreJoining (work task) (start_of p.starts.items) now k.issued ((t, m) ∷ rest)) (sym at_tick) moved;
    waiting = waiting_as task p w [] k.issued now rest k.waiting;
  }

  pub first_next : All (λ s. IsDueFirst (its_issue, m) s) rest
  first_next = subst (λ t. All (λ (s : ℕ × ℕ). IsDueFirst (t, m) s) rest) (sym at_tick)
      (All-weaker (Contains rest) (λ (s : ℕ × ℕ). IsDueFirst (tick, m) s) (λ (s : ℕ × ℕ) there. leaves.least s there) rest (All-contains_itself rest))

-- none is due by now any more
pub starting_of_issuing : (task : Task) (p : Progress) (w : Waiting) (now : ℕ) (issues : List (ℕ × ℕ)) → now < NEVER → AreIssuing task p w issues now → All (λ r. now < r.0) issues
    → AreStarting task (with_issues p issues) w [] now
starting_of_issuing task p w now issues short k later = record {
  issued = k.issued;
  served = served_of_joining (work task) (start_of p.starts.items) k.issued issues now short k.joining later;
  issues = issues_of_joining (work task) (start_of p.starts.items) k.issued issues now short k.joining later;
  waiting = waiting_as task p w [] k.issued now issues k.waiting;
}

-- of what is kept follows that the order of service is one that a planner can follow
pub order_of_waiting : (task : Task) (p : Progress) (w : Waiting) (rest issued : List ℕ) (now : ℕ) → IsWaiting task p w rest issued now → IsServiceOrder (work task) (order_by (basis_of w.service) (work task))
order_of_waiting task p w rest issued now h = service_order w.service (work task) issued h.needs h.fits h.known (small_of task)

-- while messages start: the first so many of these have been started
pub record AreStartingTo (task : Task) (old : List ℕ) (p : Progress) (w : Waiting) (was : List (ℕ × (ℕ × ℕ))) (now : ℕ) (messages : List ℕ) (at : ℕ) : Type 0 where
  pub issued : List ℕ
  pub needs : List (List ℕ)
  pub on : IsStartedTo (plannable_of task (basis_of w.service)) old (placed_in p) p.finishes p.idle w.waits p.issues p.awaits was w.ready issued needs now messages at
  pub known : AreKnown w.service (length task.timings.items) issued needs
  pub fits : Fits w.service (work task)

-- what stays of the plan while messages finish
abbrev pub ran_as : Progress → Progress → Progress
ran_as old new = record { starts = old.starts; seats = old.seats; order = old.order; idle = new.idle; finishes = new.finishes; issues = old.issues; awaits = old.awaits }

-- while messages finish by next: those that waited for one that has finished have been let go
pub record AreWoken (task : Task) (next : ℕ) (p : Progress) (w : Waiting) (q : Progress) (v : Waiting) : Type 0 where
  pub count : length v.waits.awaited ≡ length w.waits.awaited
  pub waits : (issued : List ℕ) (needs : List (List ℕ)) → AreWaits issued needs w.waits → AreWaits issued needs v.waits
  pub less : (i d : ℕ) → Contains (waiting_for v.waits i) d → Contains (waiting_for w.waits i) d
  pub stays : (i : ℕ) → 1 ≤ i → i ≤ length w.waits.awaited → HasFinished w.waits i → HasFinished v.waits i
  pub only : (i : ℕ) → 1 ≤ i → i ≤ length w.waits.awaited → HasFinished v.waits i → HasFinished w.waits i ⊎ ((tick : ℕ) × Contains p.finishes (tick, i) × (tick ≤ next))
  pub ready : (issued order : List ℕ) → ((i d : ℕ) → Contains (waiting_for w.waits i) d → Contains issued d)
      → AreEach (IsFree issued w.waits) (order ++ ranked_in w.ready) → AreEach (IsFree issued v.waits) (order ++ ranked_in v.ready)
  pub ranked : AreRanked (priority_in task) (key_in w.service (work task) (start_of p.starts.items)) w.ready
      → AreRanked (priority_in task) (key_in w.service (work task) (start_of p.starts.items)) v.ready
  pub kept : (r : ℕ × ℕ) → Contains p.finishes r → ((r.0 ≤ next) × HasFinished v.waits r.1) ⊎ Contains q.finishes r
  pub among : (r : ℕ × ℕ) → Contains q.finishes r → Contains p.finishes r
  pub manned : AreManned task.workers p.seats.items p.finishes p.idle → AreManned task.workers p.seats.items q.finishes q.idle
  pub service : v.service ≡ w.service
  pub progress : q ≡ ran_as p q

module _ (task : Task) (p : Progress) (w : Waiting) (now : ℕ) (short : now + 2 ^ 33 < NEVER) (turn end : ℕ) (planned : IsPlanned task (basis_of w.service) p now turn end) (k : AreStarting task p w [] now) where
  abbrev start : ℕ → ℕ
  start = start_of p.starts.items

  abbrev h : IsWaiting task p w [] k.issued now
  h = k.waiting

  order : IsServiceOrder (work task) (order_by (basis_of w.service) (work task))
  order = order_of_waiting task p w [] k.issued now h

  runs : (r : ℕ × ℕ) → Contains p.finishes r → Runs (work task) start now r
  runs r there = All-contains (Runs (work task) start now) p.finishes r h.kept.finishes.only there

  -- there is a list for each message
  pub awaited_count : length w.waits.awaited ≡ length task.timings.items
  awaited_count = h.kept.waits.count ∙ h.kept.count

  -- who waits has its issue
  pub waits_issued : (i : ℕ) → All (HasIssue task.timings.items p.starts.items) (waiting_for w.waits i)
  waits_issued i =
      let names = waiting_for w.waits i in
      All-weaker (Contains names) (HasIssue task.timings.items p.starts.items)
      (λ d there.
      let is = k.served.each.only d (h.kept.waits.only i d there) in
      has_issue task p.starts.items now d planned.starts_count short planned.settled.placed is.0 (omega (arith, is.1, short))) names (All-contains_itself names)

  module _ (next : ℕ) (later : now < next) (soon : next < NEVER) (q : Progress) (v : Waiting) (woken : AreWoken task next p w q v) (over : All (λ r. next < r.0) q.finishes) where
    finished : HaveFinished next p.finishes q.finishes
    finished = record {
      kept = λ (r : ℕ × ℕ) there. elim (woken.kept r there) [ inl is ↦ inl is.0 | inr runs ↦ inr runs ];
      only = λ (r : ℕ × ℕ) there. (woken.among r there, All-contains (λ (x : ℕ × ℕ). next < x.0) q.finishes r over there);
    }

    run_after : AreFinishes (work task) start next q.finishes
    run_after = finishes_advance (work task) start now next p.finishes q.finishes later soon planned.settled.placed finished h.kept.finishes

    over_after : HaveFinishedBy (work task) start next v.waits
    over_after = record {
      only = λ i number done. elim (woken.only i number.from (omega (arith, number.to, awaited_count)) done) [
        | inl before ↦ omega (arith, h.kept.over.only i number before, later)
        | inr (tick, there, by) ↦ let is = runs (tick, i) there in omega (arith, is.3, by)
      ];
      each = λ i number early. elim (cases_lt now (finish_of (work task) start i)) [
        | inl late ↦
            let begun : start i ≤ now = elim (planned.settled.placed i number) [ inl is ↦ is | inr never ↦ absurd (omega (arith, never, early, soon)) ] in
            let ran : ℕ × ℕ = (finish_of (work task) start i, i) in
            elim (woken.kept ran (h.kept.finishes.each i number begun late)) [
              | inl is ↦ is.1
              | inr still ↦ absurd (omega (arith, early, All-contains (λ (x : ℕ × ℕ). next < x.0) q.finishes ran over still))
            ]
        | inr done ↦ woken.stays i number.from (omega (arith, number.to, awaited_count)) (h.kept.over.each i number done)
      ];
    }

    -- the next tick begins
    pub issuing_after : AreIssuing task q v q.issues next
    issuing_after =
        let joining = joining_of_served (work task) start k.issued p.issues now next (omega (arith, later)) (omega (arith, short)) k.served k.issues in
        let is : AreIssuing task (ran_as p q) (record { service = w.service; waits = v.waits; ready = v.ready }) p.issues next = record {
          issued = k.issued;
          joining = joining;
          waiting = record {
            needs = h.needs;
            kept = record {
              count = h.kept.count;
              knows = h.kept.knows;
              waits = woken.waits k.issued h.needs h.kept.waits;
              over = over_after;
              finishes = run_after;
              manned = woken.manned h.kept.manned;
              ready = woken.ready k.issued p.order.items h.kept.waits.only h.kept.ready;
            };
            known = h.known;
            fits = h.fits;
            ranked = woken.ranked h.ranked;
            awaiting = h.awaiting;
          };
        } in
        subst (λ (x : Progress). AreIssuing task x v x.issues next) (sym woken.progress)
        (subst (λ (s : Service). AreIssuing task (ran_as p q) (record { service = s; waits = v.waits; ready = v.ready }) p.issues next) (sym woken.service) is)
