-- What is known while messages are taken in the order of issue.
use Rattle.std.proofs.Common.{◌≡◌, ◌≢◌, ℕ, ◌+◌, ◌-◌, ◌*◌, ◌<◌, ◌≤◌, ◌⊎◌, ◌↔◌, inl, inr, max, true, List, [], ◌∷◌, ◌++◌, length, set, Contains, Option, Some, None, MatchOption, All, arith, refl, sym, ◌∙◌, subst}
use Rattle.std.proofs.lemmas.List.{get_or-set_same, get_or-set_other, length-set, length_push}
use Rattle.std.proofs.lemmas.List.Elements.{Contains-push_cases}
use Rattle.waff_model.specs.Tree.{Node}
use Rattle.waff_model.specs.Versions.{has_clients}
use Rattle.waff_model.specs.declared.limits.TheConstants.{MAX_COST, MAX_MESSAGES, MAX_RELEASE, MAX_THINK, MAX_TICK}
use Rattle.waff_waits.specs.Times.{AreEach}
use Rattle.waff_waits.specs.Waits.{IsFree, WhoWaits, waiting_for}
use Rattle.waff_plan.specs.Awaiting.{AreAwaiting}
use Rattle.waff_plan.specs.Waits.{wait_of}
use Rattle.waff_plan.specs.Work.{Work, IsAwaited, IsNumber, finish_of, gap_of, issue_of, numbers}
use Rattle.waff_plan.specs.Obeys.{AwaitsEarlier, IsLeast}
use Rattle.waff_plan.specs.Order.{IsServiceKey, Key, Serves, key_of}
use Rattle.waff_plan.specs.Due.{LeavesDue}
use Rattle.waff_plan.specs.Pending.{Issue, AreFirst}
use Rattle.waff_plan.specs.Links.{AreLinks}
use Rattle.waff_plan.specs.Serving.{served_in, started_in}
use Rattle.waff_plan.specs.Table.{LatestTable, IsTable, IsLatestExcluding}
use Rattle.waff_plan.specs.Timetable.{AreTimings, IsTimetable, Timetable, starts_in, with_start, work_in}
use Rattle.waff_plan.specs.Timing.{IsTiming, no_timing, timing_of, work_of}
use Rattle.waff_plan.specs.declared.timing.Awaited.TheVariants.{Every}
use Rattle.waff_plan.specs.declared.timing.Timing.{Timing}
use Rattle.waff_plan.specs.declared.latest.Latest.{Latest}
use Rattle.waff_plan.specs.declared.waits.Since.TheVariants.{Release}
use Rattle.waff_plan.proofs.AwaitingLemmas.{IsDue, each_due, each_free, taken_too, waiting_awaits, waiting_number, waits_count}
use Rattle.waff_plan.proofs.FollowLemmas.{gap_limit}
use Rattle.waff_plan.proofs.Holding.{issued_by}
use Rattle.waff_plan.proofs.IssueFirst.{pending_first, taken_none}
use Rattle.waff_plan.proofs.IssueSteps.{AreTaken, ArePending, apart_of, due_of, each_taken, least_from_taken, links_from_taken, order_finish, pending_from, taken_more, those, untaken, untaken_all, untaken_less, x_there}
use Rattle.waff_plan.proofs.Orders.{served_by_key, service_key}
use Rattle.waff_plan.proofs.ServingLemmas.{least_started, served_to_started, started_to_served}
use Rattle.waff_plan.proofs.StartOrder.{least_again}
use Rattle.waff_plan.proofs.Tables.{table_again}
use Rattle.waff_plan.proofs.TurnLemmas.{has_followed, key_is_issue}
use Rattle.waff_assign.specs.Held.{Held}

-- no later than this is what is issued or has finished, after so many messages
abbrev pub late : List ℕ → ℕ
late order = MAX_RELEASE + MAX_COST * length order + MAX_THINK * length order

-- work within the limits of messages
pub record IsSmall (work : Work) : Type 0 where
  pub cost : (m : ℕ) → IsNumber work m → work.cost m ≤ MAX_COST
  pub floor : (m : ℕ) → IsNumber work m → work.floor m ≤ MAX_RELEASE
  pub gap : (i m : ℕ) → IsNumber work m → gap_of work i m ≤ MAX_THINK

pub small_work : (timings : List Timing) → All IsTiming timings → IsSmall (work_of timings)
small_work timings small = record {
  cost = λ m number. (small (m - 1) no_timing (omega (arith, number.from, number.to))).cost;
  floor = λ m number. (small (m - 1) no_timing (omega (arith, number.from, number.to))).floor;
  gap = λ i m number. gap_limit Every (timing_of timings m) i (small (m - 1) no_timing (omega (arith, number.from, number.to)));
}

-- the key by which a plan serves its messages
abbrev pub key_in : Timetable → Key
key_in plan = key_of plan.version (work_in plan)

-- what is known of a plan while its messages are taken, in the order in which they are served
pub record IsGoing (tree : List Node) (assigned : List Held) (plan : Timetable) (order : List ℕ) (links : List (Option ℕ)) (left : ℕ)
    (issues : List Issue) (waits : WhoWaits) (latests : LatestTable) : Type 0 where
  pub are : AreTimings plan.version plan.timings
  pub most : length plan.timings ≤ MAX_MESSAGES
  pub same : length plan.timings ≡ length assigned
  pub taken : AreTaken tree assigned (work_in plan) (key_in plan) (starts_in plan) order links
  pub linked : length links ≡ length plan.timings
  pub pending : ArePending (work_in plan) (key_in plan) (starts_in plan) order issues
  pub awaiting : AreAwaiting (work_in plan) order waits
  pub table : IsTable (finish_of (work_in plan) (starts_in plan)) order latests
  pub early : (i : ℕ) → Contains order i → finish_of (work_in plan) (starts_in plan) i ≤ late order
  pub count : length plan.starts ≡ length plan.timings
  pub few : length order + left ≡ length plan.timings
  pub enough : untaken (work_in plan) order ≤ left

pub going_first : {tree : List Node} {assigned : List Held} {plan : Timetable} {links : List (Option ℕ)} {left : ℕ} {first : List Issue} {waits : WhoWaits} {table : LatestTable}
    → IsTimetable plan → length plan.timings ≡ length assigned → length links ≡ length plan.timings → left ≡ length plan.timings
    → AreFirst (work_in plan) (key_in plan) first → AreAwaiting (work_in plan) [] waits → IsTable (finish_of (work_in plan) (starts_in plan)) [] table
    → IsGoing tree assigned plan [] links left first waits table
going_first {tree} {assigned} {plan} {links} {left} {first} is same linked all are awaiting noted = record {
  are = is.timings;
  most = is.few;
  same = same;
  taken = taken_none tree assigned (work_in plan) (key_in plan) (starts_in plan) links;
  linked = linked;
  pending = pending_first (work_in plan) (key_in plan) (starts_in plan) first are;
  awaiting = awaiting;
  table = noted;
  early = λ i there. absurd (omega (arith, there.1));
  count = is.lengths;
  few = omega (arith, all);
  enough = omega (arith, untaken_all (work_in plan), all);
}

-- one more message is taken
module _ {tree : List Node} {assigned : List Held} {plan : Timetable} {order : List ℕ} {links : List (Option ℕ)} {left : ℕ} {pending rest : List Issue} {waits : WhoWaits}
    {table : LatestTable} {x : Issue} (going : IsGoing tree assigned plan order links left pending waits table) (takes : LeavesDue pending x rest) where
  abbrev work : Work
  work = work_in plan

  abbrev key : Key
  key = key_in plan

  abbrev start : ℕ → ℕ
  start = starts_in plan

  abbrev m : ℕ
  m = x.1

  follows : AwaitsEarlier work
  follows = going.are.earlier

  service : IsServiceKey work key
  service = service_key plan.version work follows

  small : IsSmall work
  small = small_work plan.timings going.are.small

  abbrev more : List ℕ
  more = order ++ m ∷ []

  there : Contains pending x
  there = x_there tree assigned work key service start start order pending rest x follows links going.taken going.pending takes.rest (λ i from other. refl)

  due : (y : Issue) → Contains pending y → IsDue work order y.1
  due = due_of tree assigned work key service start start order pending rest x follows links going.taken going.pending takes.rest (λ i from other. refl)

  pub apart : Contains order m → ⊥
  apart = apart_of tree assigned work key service start start order pending rest x follows links going.taken going.pending takes.rest (λ i from other. refl) x there

  pub m_number : IsNumber work m
  m_number = (due x there).0

  pub fewer : untaken work more < untaken work order
  fewer = untaken_less work order m m_number apart

  -- those that wait for it await it, and messages are of clients then
  awaits_m : (d : ℕ) → Contains (waiting_for waits m) d → IsAwaited (work.awaits d) m
  awaits_m d waiting = waiting_awaits work follows order waits going.awaiting m d m_number apart waiting

  clients : (d : ℕ) → Contains (waiting_for waits m) d → has_clients plan.version ≡ true
  clients d waiting = has_followed plan.version plan.timings going.are m d (awaits_m d waiting)

  pub many_wait : length waits.awaited ≡ length plan.timings
  many_wait = waits_count work follows order waits going.awaiting

  pub number_waits : (d : ℕ) → Contains (waiting_for waits m) d → IsNumber work d
  number_waits d waiting = waiting_number work follows order waits going.awaiting m d waiting

  abbrev pub waits_more : WhoWaits
  waits_more = record { awaited = set waits.awaited (m - 1) []; finished = set waits.finished (m - 1) true }

  pub some_left : 1 ≤ left
  some_left = omega (arith, fewer, going.enough)

  soon : issue_of work start m ≤ late order + MAX_THINK
  soon =
      issued_by (finish_of work start) (work.floor m) (late order + MAX_THINK) (work.awaits m) (omega (arith, small.floor m m_number))
      (λ i awaited. omega (arith, going.early i ((due x there).1 i awaited), small.gap i m m_number))

  module _ (s : ℕ) (latest : Option Latest) (found : IsLatestExcluding tree assigned (finish_of work start) order m latest)
      (starts_at : MatchOption latest (s ≡ issue_of work start m) (λ l. s ≡ max (issue_of work start m) l.finish)) where
    soon_from : (latest : Option Latest) → IsLatestExcluding tree assigned (finish_of work start) order m latest
        → MatchOption latest (s ≡ issue_of work start m) (λ l. s ≡ max (issue_of work start m) l.finish) → s ≤ late order + MAX_THINK
    soon_from None none at = omega (arith, at, soon)
    soon_from (Some l) one at = omega (arith, at, soon, one.finish_is, going.early l.number one.number.one.0)

    start_soon : s ≤ late order + MAX_THINK
    start_soon = soon_from latest found starts_at

    pub start_printable : s ≤ MAX_TICK
    start_printable = omega (arith, start_soon, going.few, some_left, going.most)

    abbrev later : ℕ → ℕ
    later = starts_in (with_start plan m s)

    at_m : later m ≡ s
    at_m = get_or-set_same plan.starts (m - 1) s 0 (omega (arith, m_number.from, m_number.to, going.count))

    same : (i : ℕ) → 1 ≤ i → i ≢ m → later i ≡ start i
    same i from other = get_or-set_other plan.starts (m - 1) (i - 1) s 0 (λ equal. other (omega (arith, equal, from, m_number.from)))

    finish_same : (i : ℕ) → Contains order i → finish_of work later i ≡ finish_of work start i
    finish_same = order_finish tree assigned work key service start later order pending rest x follows links going.taken going.pending takes.rest same

    module _ (finish : ℕ) (finish_is : finish ≡ finish_of work later m) (table_more : LatestTable)
        (notes : (finish_at : ℕ → ℕ) → IsTable finish_at order table → finish_at m ≡ finish → IsTable finish_at more table_more) where
      finish_m : finish_of work later m ≡ finish
      finish_m = sym finish_is

      noted : IsTable (finish_of work later) more table_more
      noted = notes (finish_of work later) (table_again (finish_of work start) (finish_of work later) order table finish_same going.table) finish_m

      longer : late more ≡ late order + MAX_COST + MAX_THINK
      longer = omega (arith, length_push order m)

      finish_early : finish ≤ late more
      finish_early = omega (arith, longer, start_soon, finish_is, at_m, small.cost m m_number)

      early_more : (i : ℕ) → Contains more i → finish_of work later i ≤ late more
      early_more i at = elim (Contains-push_cases order m i at) [
        | inl old ↦ omega (arith, finish_same i old, going.early i old, longer)
        | inr new ↦ subst (λ n. finish_of work later n ≤ late more) new (omega (arith, finish_m, finish_early))
      ]

      few_more : length more + (left - 1) ≡ work.count
      few_more = omega (arith, length_push order m, some_left, going.few)

      enough_more : untaken work more ≤ left - 1
      enough_more = omega (arith, fewer, going.enough)

      abbrev links_more : List (Option ℕ)
      links_more = set links (m - 1) (wait_of Release work start m latest)

      linked_more : length links_more ≡ work.count
      linked_more = length-set links (m - 1) (wait_of Release work start m latest) ∙ going.linked

      taken_now : AreTaken tree assigned work key later more links_more
      taken_now =
          taken_more tree assigned work key service start later order pending rest x follows links going.taken going.pending takes.rest same s latest at_m found starts_at going.linked

      awaiting_more : AreAwaiting work more waits_more
      awaiting_more = taken_too work follows order waits going.awaiting m m_number

      -- those that wait for it are told
      module _ (pending_more : List Issue)
          (free : (entered taken : List ℕ) → ((d : ℕ) → Contains (waiting_for waits m) d → Contains entered d)
          → AreEach (IsFree entered waits) (taken ++ those rest) → AreEach (IsFree entered waits_more) (taken ++ those pending_more))
          (issued : (y : Issue) → Contains pending_more y → Contains rest y ⊎ (Contains (waiting_for waits m) y.1 × (y.0 ≡ issue_of work later y.1))) where
        each_more : AreEach (IsDue work more) (more ++ those pending_more)
        each_more =
            each_due work follows more waits_more awaiting_more (more ++ those pending_more)
            (free (numbers work) more (λ d waiting. going.awaiting.waits.only m d waiting)
            (each_free work follows order waits going.awaiting (more ++ those rest) (each_taken (IsDue work order) order pending rest x takes.rest going.pending.each)))

        pub going_on : IsGoing tree assigned (with_start plan m s) more links_more (left - 1) pending_more waits_more table_more
        going_on = record {
          are = going.are;
          most = going.most;
          same = going.same;
          taken = taken_now;
          linked = linked_more;
          pending = pending_from tree assigned work key service start later order pending rest x follows links going.taken going.pending takes.rest same s latest at_m found starts_at
              pending_more takes.least
              (λ y at. elim (issued y at) [
                | inl old ↦ inl old
                | inr new ↦ inr (awaits_m y.1 new.0, new.1 ∙ sym (key_is_issue plan.version work later y.1 (clients y.1 new.0)))
              ])
              each_more;
          awaiting = awaiting_more;
          table = noted;
          early = early_more;
          count = length-set plan.starts (m - 1) s ∙ going.count;
          few = few_more;
          enough = enough_more;
        }

-- no message is left: the plan is the least one, and its links are those that were found
module _ {tree : List Node} {assigned : List Held} {plan : Timetable} {order : List ℕ} {links : List (Option ℕ)} {left : ℕ} {waits : WhoWaits} {table : LatestTable}
    (going : IsGoing tree assigned plan order links left [] waits table) where
  by_key : (i j : ℕ) → Serves tree assigned (work_in plan) (key_in plan (starts_in plan)) i j ↔ served_in tree assigned plan i j
  by_key i j = served_by_key tree assigned (work_in plan) (sym going.same) plan.version (starts_in plan) i j

  pub least_at_end : IsLeast (served_in tree assigned plan) (work_in plan) (starts_in plan)
  least_at_end =
      least_again (Serves tree assigned (work_in plan) (key_in plan (starts_in plan))) (served_in tree assigned plan) (work_in plan) (starts_in plan)
      (λ i j. (by_key i j).0) (λ i j. (by_key i j).1)
      (least_from_taken tree assigned (work_in plan) (key_in plan) (service_key plan.version (work_in plan) going.are.earlier) (starts_in plan) order going.are.earlier links
      going.taken going.pending)

  pub started_at_end : IsLeast (started_in tree assigned plan) (work_in plan) (starts_in plan)
  started_at_end = least_started tree assigned plan.timings (starts_in plan) going.same plan.version going.are least_at_end

  pub links_at_end : AreLinks (started_in tree assigned plan) (work_in plan) (starts_in plan) (length plan.timings) links
  links_at_end =
      let obeys = least_at_end.obeys in
      links_from_taken tree assigned (work_in plan) (key_in plan) (service_key plan.version (work_in plan) going.are.earlier) (starts_in plan) order going.are.earlier links
      going.taken going.pending (started_in tree assigned plan)
      (λ i j served. served_to_started tree assigned plan.timings (starts_in plan) going.same plan.version going.are obeys i j ((by_key i j).0 served))
      (λ i j pair. (by_key i j).1 (started_to_served tree assigned plan.timings (starts_in plan) going.same plan.version going.are obeys i j pair))
