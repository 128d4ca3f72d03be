-- At the beginning no message is placed and none is issued; those that await none are issued at their releases.
use Rattle.std.proofs.Common.{◌≡◌, ℕ, ◌-◌, ◌<◌, ◌≤◌, ◌⊎◌, inl, inr, List, [], ◌∷◌, false, cond, ◌==◌, length, map, replicate, count_by, Contains, arith, refl, sym, ap, ◌∙◌, subst}
use Rattle.std.proofs.lemmas.Bool.{cases_lt, false≢true}
use Rattle.std.proofs.lemmas.List.{append-nil, get_or-replicate, get_or_past, length-replicate}
use Rattle.std.proofs.lemmas.List.Elements.{All-contains_itself, All-nil, All-weaker}
use Rattle.std.proofs.lemmas.List.Sums.{sum_by-cons}
use Rattle.waff_model.specs.Numbers.{IsAmongFirst}
use Rattle.waff_plan.specs.Awaiting.{AreAwaiting}
use Rattle.waff_plan.specs.Pending.{AreFirst}
use Rattle.waff_plan.specs.Timing.{start_of, work_of}
use Rattle.waff_plan.specs.Work.{Await, Work, IsAwaited, IsNumber, finish_of, issue_after, issue_of}
use Rattle.waff_plan.proofs.Holding.{awaited-le-issue}
use Rattle.waff_order.specs.Joined.{Joined}
use Rattle.waff_order.specs.Needs.{needs_of}
use Rattle.waff_list.specs.Issuing.{AreJoining, AreNeedsByNumber}
use Rattle.waff_list.specs.Orders.{TakesFirst}
use Rattle.waff_list.specs.Plannable.{HaveFinishedBy, Plannable}
use Rattle.waff_waits.specs.Waits.{HasFinished}
use Rattle.waff_waits.proofs.Waiting.{waits_none}
use Rattle.waff_list.specs.declared.service.Service.{Service}
use Rattle.waff_list.specs.declared.service.Service.TheVariants.{ByIssue, ByNumber}
use Rattle.waff_list.specs.Planning.{AreIssuing, AreKnown, Fits, IsFresh, IsNoneIssued, IsPlanned, IsWaiting, plannable_of}
use Rattle.waff_list.specs.Progress.{IsSmall}
use Rattle.waff_waits.specs.Ready.{AreRanked}
use Rattle.waff_list.specs.Telling.{basis_of, order_by, priority_in}
use Rattle.waff_waits.specs.Times.{AreEach, times}
use Rattle.waff_list.specs.declared.progress.Progress.{Progress}
use Rattle.waff_list.specs.declared.task.Task.{Task}
use Rattle.waff_list.specs.declared.waiting.Waiting.{Waiting}
use Rattle.waff_plan.specs.declared.due.TheConstants.{NEVER}
use Rattle.waff_list.proofs.ClientTasks.{small_of}
use Rattle.waff_waits.proofs.TimesLemmas.{times_some}
use Rattle.waff_waits.proofs.Each.{contains_map, contains_mapped, each_same, none_there}
use Rattle.waff_list.proofs.FinishLemmas.{finishes_none}
use Rattle.waff_list.proofs.IssuePlans.{awaits_messages}
use Rattle.waff_list.proofs.Making.{progress_none}
use Rattle.waff_list.proofs.Orders.{known_count, knows_of, service_order}
use Rattle.waff_list.proofs.Uniqueness.{AwaitsMessages}

times_map : {X : Type 0} (f : X → ℕ) (m : ℕ) (xs : List X) → times m (map f xs) ≡ count_by (λ x. f x == m) xs
times_map f m [] = refl
times_map f m (x ∷ xs) = omega (arith, sum_by-cons (λ z. cond (z == m) 1 0) (f x) (map f xs), sum_by-cons (λ z. cond (f z == m) 1 0) x xs, times_map f m xs)

-- the messages that await none, each once
first_each : (work : Work) (first : List (ℕ × ℕ)) → AreFirst work (issue_of work) first → AreEach (λ m. IsNumber work m × (work.awaits m ≡ [])) (map (λ (r : ℕ × ℕ). r.1) first)
first_each work first are = record {
  only = λ m there.
      let r = contains_mapped (λ (r : ℕ × ℕ). r.1) first m there in
      subst (λ n. IsNumber work n × (work.awaits n ≡ [])) r.2 (are.number r.0 r.1, are.alone r.0 r.1);
  each = λ m is.
      let listed = times_some m (map (λ (r : ℕ × ℕ). r.1) first) (contains_map (λ (r : ℕ × ℕ). r.1) first (issue_of work (λ i. 0) m, m) (are.all (λ i. 0) m is.0 is.1)) in
      omega (arith, are.once m, times_map (λ (r : ℕ × ℕ). r.1) m first, listed);
}

none_or : (awaits : List Await) → (awaits ≡ []) ⊎ ((i : ℕ) × IsAwaited awaits i)
none_or [] = inl refl
none_or (a ∷ rest) = inr (a.message, inl refl)

-- where a message awaits none, it is issued at its release
issue_of_first : (work : Work) (start : ℕ → ℕ) (m : ℕ) → work.awaits m ≡ [] → issue_of work start m ≡ work.floor m
issue_of_first work start m none = ap (issue_after (finish_of work start) (work.floor m)) none

module _ (work : Work) (awaited : AwaitsMessages work) (small : IsSmall work) (start : ℕ → ℕ) (never : (m : ℕ) → IsNumber work m → start m ≡ NEVER) where
  -- the issues of the messages that await none are all that are known
  pub joining_first : (issues : List (ℕ × ℕ)) → AreFirst work (issue_of work) issues → AreJoining work start 0 [] issues
  joining_first issues h = record {
    each = each_same (λ m. IsNumber work m × (work.awaits m ≡ [])) (map (λ (r : ℕ × ℕ). r.1) issues) (first_each work issues h)
        (λ m. IsNumber work m × (issue_of work start m < NEVER))
        (λ m is. (is.0, omega (arith, issue_of_first work start m is.1, small.floor m is.0)))
        (λ m is. elim (none_or (work.awaits m)) [
          | inl none ↦ (is.0, none)
          | inr some ↦ absurd (omega (arith, is.1, awaited-le-issue work start some.0 m some.1, never some.0 (awaited some.0 m some.1)))
        ]);
    ticks = All-weaker (Contains issues) (λ (r : ℕ × ℕ). issue_of work start r.1 ≡ r.0) (λ (r : ℕ × ℕ) there. sym (h.key_is start r there)) issues (All-contains_itself issues);
    by_now = All-nil (λ m. issue_of work start m ≤ 0);
    sorted = λ i j d less inside. absurd (omega (arith, inside));
    first = λ i m there listed. absurd (none_there i there);
  }

-- nothing is needed yet
module _ (count : ℕ) where
  abbrev pub nothing : List (List ℕ)
  nothing = replicate count []

  abbrev none : List ℕ
  none = []

  long : length nothing ≡ count
  long = length-replicate count none

  pub needs_nothing : (m : ℕ) → needs_of nothing m ≡ []
  needs_nothing m = elim (cases_lt (m - 1) count) [
    | inl inside ↦ get_or-replicate count (m - 1) none none inside
    | inr past ↦ get_or_past nothing (m - 1) none (omega (arith, long, past))
  ]

  pub told_nothing : (joined : Joined) → AreNeedsByNumber count [] joined nothing
  told_nothing joined = record {
    count = long;
    of_served = λ p inside. absurd (omega (arith, inside.from, inside.to));
    of_others = λ m inside other. needs_nothing m;
  }

-- so no need is known yet, but where all are
pub none_known : (service : Service) (work : Work) → Fits service work → IsFresh service → (needs : List (List ℕ)) × AreKnown service work.count [] needs
none_known (ByNumber given) work fits fresh = (given.now, refl)
none_known (ByIssue issues) work fits fresh = (nothing work.count, record { messages = fresh.0; joined = fresh.1; told = told_nothing work.count issues.joining })

-- what is kept where none is issued
module _ (task : Task) (p : Progress) (w : Waiting) (none : IsNoneIssued w (work_of task.timings.items)) (fits : Fits w.service (work_of task.timings.items))
    (starts : p.starts.items ≡ replicate (length task.timings.items) NEVER) (order : p.order.items ≡ []) (finishes : p.finishes ≡ []) (idle : AreEach (IsAmongFirst task.workers) p.idle)
    (issues : AreFirst (work_of task.timings.items) (issue_of (work_of task.timings.items)) p.issues) (awaits : AreAwaiting (work_of task.timings.items) [] p.awaits) where
  abbrev its : Work
  its = work_of task.timings.items

  abbrev begin : ℕ → ℕ
  begin = start_of (replicate its.count NEVER)

  never : (m : ℕ) → IsNumber its m → begin m ≡ NEVER
  never m number = get_or-replicate its.count (m - 1) NEVER 0 (omega (arith, number.from, number.to))

  counts : length none.needs ≡ its.count
  counts = known_count w.service its [] none.needs fits none.known

  none_finished : (i : ℕ) → HasFinished (record { awaited = replicate its.count []; finished = replicate its.count false }) i → ⊥
  none_finished i done = elim (cases_lt (i - 1) its.count) [
    | inl inside ↦ false≢true (sym (get_or-replicate its.count (i - 1) false false inside) ∙ done)
    | inr past ↦ false≢true (sym (get_or_past (replicate its.count false) (i - 1) false (omega (arith, past, length-replicate its.count false))) ∙ done)
  ]

  over_at_first : HaveFinishedBy its begin 0 w.waits
  over_at_first = rw none.waits (record {
    only = λ i number done. absurd (none_finished i done);
    each = λ i number early. absurd (omega (arith, early, never i number));
  })

  pub waiting_at_first : IsWaiting task p w [] [] 0
  waiting_at_first = record {
    needs = none.needs;
    kept = record {
      count = counts;
      knows = knows_of w.service its [] none.needs none.known;
      waits = rw none.waits (waits_none none.needs its.count counts);
      over = rw starts over_at_first;
      finishes = rw (starts, finishes) (finishes_none its begin never);
      manned = rw finishes (subst (λ xs. AreEach (IsAmongFirst task.workers) xs) (sym (append-nil p.idle)) idle);
      ready = rw (order, none.ready) (record {
        only = λ m there. absurd (none_there m there);
        each = λ m free. absurd (none_there m free.0);
      });
    };
    known = none.known;
    fits = fits;
    ranked = subst (λ (rs : List (ℕ × (ℕ × ℕ))). AreRanked (priority_in task) ((order_by (basis_of w.service) its).key (start_of p.starts.items)) rs) (sym none.ready) (All-nil _);
    awaiting = subst (λ (xs : List ℕ). AreAwaiting its xs p.awaits) (sym order) awaits;
  }

  pub issuing_at_first : AreIssuing task p w p.issues 0
  issuing_at_first = record {
    issued = [];
    joining = subst (λ (xs : List ℕ). AreJoining its (start_of xs) 0 [] p.issues) (sym starts) (joining_first its (awaits_messages its task.earlier) (small_of task) begin never p.issues issues);
    waiting = waiting_at_first;
  }

  pub begun_at_first : p.seats.items ≡ replicate (length task.timings.items) 0 → IsPlanned task (basis_of w.service) p 0 1 0
  begun_at_first seats =
      let plan : Plannable = plannable_of task (basis_of w.service) in
      let service = service_order w.service its [] none.needs fits none.known (small_of task) in
      rw (starts, seats, order)
      (progress_none (plan.order.before begin) (TakesFirst plan.priority (plan.order.key begin)) its plan.workers (service.numbers begin) (awaits_messages its task.earlier) (omega (arith, task.few)))
