-- A message is issued: its needs are known from now on, and it waits for those that have not finished.
use Rattle.std.proofs.Common.{◌≡◌, ◌≢◌, ℕ, Bool, true, false, eqb, ◌+◌, ◌-◌, ◌^◌, ◌<◌, ◌≤◌, inl, inr, List, [], ◌∷◌, ◌++◌, length, map, get_or, All, AllPairs, Contains, arith, refl, sym, ◌∙◌, subst}
use Rattle.std.specs.List.Sorted.{IsPermutation}
use Rattle.std.proofs.lemmas.Bool.{true≢false}
use Rattle.std.proofs.lemmas.Bool.Decides.{Decides-eqb, eqb_tells}
use Rattle.std.proofs.lemmas.List.{length_push}
use Rattle.std.proofs.lemmas.List.Elements.{All-cons, All-contains, All-contains_itself, All-weaker, Contains-append_left}
use Rattle.std.proofs.lemmas.List.Kept.{AllPairs-cons}
use Rattle.std.proofs.lemmas.List.Sorted.{All-permutation, IsPermutation-map}
use Rattle.std.proofs.lemmas.Map.Made.{IsDistinct-from_AllPairs}
use Rattle.std.proofs.lemmas.Map.Steps.{length-le_from_distinct_below}
use Rattle.std.proofs.lemmas.Map.Views.{Contains-from_any}
use Rattle.waff_plan.specs.Due.{IsDueFirst}
use Rattle.waff_plan.specs.Issues.{IsIssuedBefore}
use Rattle.waff_plan.specs.Timing.{HasIssue, start_of, work_of}
use Rattle.waff_plan.specs.Work.{Work, IsNumber, issue_of}
use Rattle.waff_plan.specs.declared.due.TheConstants.{NEVER}
use Rattle.waff_plan.proofs.IssueOrder.{issued_not_itself}
use Rattle.waff_waits.specs.Ready.{AreRanked, ranked_in}
use Rattle.waff_waits.specs.Times.{AreEach}
use Rattle.waff_waits.specs.Waits.{AreWaits, IsFree, WaitsForNone, WhoWaits}
use Rattle.waff_waits.proofs.Each.{contains_rest_of, one_of}
use Rattle.waff_waits.proofs.Waiting.{bound_entered, free_entered, waits_entered}
use Rattle.waff_list.specs.Issuing.{AreJoining}
use Rattle.waff_list.specs.Plannable.{HaveFinishedBy}
use Rattle.waff_list.specs.Planning.{AreIssuing, Fits, IsLearnt, IsNew, IsPlanned, IsWaiting}
use Rattle.waff_list.specs.Telling.{basis_of, key_in, order_by, priority_in}
use Rattle.waff_list.specs.declared.progress.Progress.{Progress}
use Rattle.waff_list.specs.declared.service.Service.{Service}
use Rattle.waff_list.specs.declared.task.Task.{Task}
use Rattle.waff_list.specs.declared.waiting.Waiting.{Waiting}
use Rattle.waff_list.proofs.ClientTasks.{has_issue}
use Rattle.waff_list.proofs.IssueJoining.{joining_more, joins_new, joins_number}
use Rattle.waff_list.proofs.Orders.{known_count, knows_of}

same_of : (x y : ℕ) → eqb x y ≡ true → x ≡ y
same_of x y is = elim (eqb_tells x y) [ inl both ↦ both.1 | inr other ↦ absurd (true≢false (sym is ∙ other.0)) ]

-- messages in the order of issue, each a number up to n, are at most n
pub issued_few : (work : Work) (start : ℕ → ℕ) (issued : List ℕ) → ((m : ℕ) → Contains issued m → IsNumber work m) → AllPairs (IsIssuedBefore work start) issued
    → length issued ≤ work.count
issued_few work start issued numbers sorted = omega (arith, few)
  where
    apart : AllPairs (λ x y. x ≢ y) issued
    apart i j d less inside same =
        issued_not_itself work start (get_or issued j d) (subst (λ x. IsIssuedBefore work start x (get_or issued j d)) same (sorted i j d less inside))

    above : All (λ y. 0 ≢ y) issued
    above = All-weaker (Contains issued) (λ y. 0 ≢ y) (λ y there is. let number = numbers y there in omega (arith, number.from, is)) issued (All-contains_itself issued)

    below : (q : ℕ) → Contains (0 ∷ issued) q → q < work.count + 1
    below q there = elim (contains_rest_of 0 q issued there) [
      | inl later ↦ let number = numbers q later in omega (arith, number.to)
      | inr is ↦ omega (arith, is)
    ]

    few : length (0 ∷ issued) ≤ work.count + 1
    few = length-le_from_distinct_below (0 ∷ issued) (work.count + 1)
        (IsDistinct-from_AllPairs Decides-eqb (0 ∷ issued) (AllPairs-cons (λ x y. x ≢ y) 0 issued above apart))
        (λ q found. below q (Contains-from_any same_of q (0 ∷ issued) found))

-- the next message is issued: what is kept stays
module _ (task : Task) (p : Progress) (w : Waiting) (now m : ℕ) (short : now + 2 ^ 33 < NEVER) (begun : IsPlanned task (basis_of w.service) p now 1 now)
    (due : issue_of (work_of task.timings.items) (start_of p.starts.items) m ≤ now)
    (k : AreIssuing task p w ((issue_of (work_of task.timings.items) (start_of p.starts.items) m, m) ∷ p.issues) now)
    (first : All (λ s. IsDueFirst (issue_of (work_of task.timings.items) (start_of p.starts.items) m, m) s) p.issues) where
  abbrev its : Work
  its = work_of task.timings.items

  abbrev start_at : ℕ → ℕ
  start_at = start_of p.starts.items

  abbrev h : IsWaiting task p w [] k.issued now
  h = k.waiting

  abbrev all : List ℕ
  all = k.issued ++ m ∷ []

  pub next_number : IsNumber its m
  next_number = joins_number its start_at k.issued p.issues now (issue_of its start_at m) m k.joining

  next_joining : AreJoining its start_at now all p.issues
  next_joining = joining_more its start_at k.issued p.issues now (issue_of its start_at m) m k.joining due
      (λ (s : ℕ × ℕ) there. All-contains (λ (r : ℕ × ℕ). IsDueFirst (issue_of its start_at m, m) r) p.issues s first there)

  numbers : (x : ℕ) → Contains k.issued x → IsNumber its x
  numbers x there = (k.joining.each.only x (Contains-append_left k.issued (map (λ (r : ℕ × ℕ). r.1) ((issue_of its start_at m, m) ∷ p.issues)) x there)).0

  all_numbers : (x : ℕ) → Contains all x → IsNumber its x
  all_numbers x there = elim (one_of k.issued m x there) [ inl before ↦ numbers x before | inr same ↦ subst (IsNumber its) (sym same) next_number ]

  all_few : length all ≤ its.count
  all_few = issued_few its start_at all all_numbers next_joining.sorted

  pub next_new : IsNew its k.issued m
  next_new = record {
    number = next_number;
    new = joins_new its start_at k.issued p.issues now (issue_of its start_at m) m k.joining;
    numbers = numbers;
    room = omega (arith, all_few, length_push k.issued m);
  }

  -- its issue is known
  pub next_issue : HasIssue task.timings.items p.starts.items m
  next_issue = has_issue task p.starts.items now m begun.starts_count short begun.settled.placed next_number (omega (arith, due, short))

  pub awaited_count : length w.waits.awaited ≡ length task.timings.items
  awaited_count = h.kept.waits.count ∙ h.kept.count

  module _ (service : Service) (waits : WhoWaits) (fits : Fits service its) (basis : basis_of service ≡ basis_of w.service) (learnt : IsLearnt service its k.issued h.needs m w.waits waits) where
    more_count : length learnt.more ≡ length h.needs
    more_count = known_count service its all learnt.more fits learnt.known ∙ sym h.kept.count

    from_one : (x : ℕ) → Contains k.issued x → 1 ≤ x
    from_one x there = (numbers x there).from

    waits_after : AreWaits all learnt.more waits
    waits_after = waits_entered k.issued h.needs w.waits h.kept.waits learnt.more m waits next_new.new from_one more_count learnt.others learnt.enters

    over_after : HaveFinishedBy its start_at now waits
    over_after = record {
      only = λ i number done. h.kept.over.only i number (subst (λ (marks : List Bool). get_or marks (i - 1) false ≡ true) learnt.enters.finished done);
      each = λ i number early. subst (λ (marks : List Bool). get_or marks (i - 1) false ≡ true) (sym learnt.enters.finished) (h.kept.over.each i number early);
    }

    ranked_before : AreRanked (priority_in task) (key_in service its start_at) w.ready
    ranked_before = subst (λ b. AreRanked (priority_in task) ((order_by b its).key start_at) w.ready) (sym basis) h.ranked

    issuing_with : (ready : List (ℕ × (ℕ × ℕ))) → AreEach (IsFree all waits) (p.order.items ++ ranked_in ready) → AreRanked (priority_in task) (key_in service its start_at) ready
        → AreIssuing task p (record { service = service; waits = waits; ready = ready }) p.issues now
    issuing_with ready each ranked = record {
      issued = all;
      joining = next_joining;
      waiting = record {
        needs = learnt.more;
        kept = record {
          count = known_count service its all learnt.more fits learnt.known;
          knows = knows_of service its all learnt.more learnt.known;
          waits = waits_after;
          over = over_after;
          finishes = h.kept.finishes;
          manned = h.kept.manned;
          ready = each;
        };
        known = learnt.known;
        fits = fits;
        ranked = ranked;
        awaiting = h.awaiting;
      };
    }

    -- it is ready
    pub issuing_ready : (ready : List (ℕ × (ℕ × ℕ))) → IsPermutation ((priority_in task m, (key_in service its start_at m, m)) ∷ w.ready) ready → WaitsForNone waits m
        → AreIssuing task p (record { service = service; waits = waits; ready = ready }) p.issues now
    issuing_ready ready pushed none =
        let Ranked = λ (r : ℕ × (ℕ × ℕ)). (r.0 ≡ priority_in task r.1.1) × (r.1.0 ≡ key_in service its start_at r.1.1) in
        issuing_with ready
        (free_entered k.issued h.needs w.waits h.kept.waits learnt.more m waits next_new.new from_one more_count learnt.others learnt.enters p.order.items (ranked_in w.ready) h.kept.ready (ranked_in ready)
        (IsPermutation-map (λ (r : ℕ × (ℕ × ℕ)). r.1.1) ((priority_in task m, (key_in service its start_at m, m)) ∷ w.ready) ready pushed) none)
        (All-permutation Ranked ((priority_in task m, (key_in service its start_at m, m)) ∷ w.ready) ready pushed
        (All-cons Ranked (priority_in task m, (key_in service its start_at m, m)) w.ready (refl, refl) ranked_before))

    -- or it waits
    pub issuing_bound : (WaitsForNone waits m → ⊥) → AreIssuing task p (record { service = service; waits = waits; ready = w.ready }) p.issues now
    issuing_bound bound = issuing_with w.ready
        (bound_entered k.issued h.needs w.waits h.kept.waits learnt.more m waits next_new.new from_one more_count learnt.others learnt.enters p.order.items (ranked_in w.ready) h.kept.ready bound)
        ranked_before
