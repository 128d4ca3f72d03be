-- What is told of a run is a plan of the trace with the costs that are told, in which the check finds no fault, and its text tells it.
use Rattle.std.proofs.Common.{◌≡◌, ℕ, ◌+◌, ◌-◌, ◌*◌, ◌≤◌, true, List, length, map, Some, refl, sym, ◌∙◌, ap, subst, arith}
use Rattle.std.specs.Prelude.{All}
use Rattle.std.proofs.Math.ListN.{get_or-map as get_or-map_same}
use Rattle.std.proofs.lemmas.List.{length-map}
use Rattle.waff_model.specs.Messages.{Arrivals, IsTrace}
use Rattle.waff_model.specs.Names.{is_name}
use Rattle.waff_model.specs.Tree.{IsTree, Node}
use Rattle.waff_model.specs.declared.message.Version.{Version}
use Rattle.waff_model.specs.declared.message.Version.TheVariants.{V1, V2, V3, V4}
use Rattle.waff_read.proofs.NamedLaws.{affinities_are_named}
use Rattle.waff_assign.specs.Case.{instance_of}
use Rattle.waff_assign.specs.Held.{Held}
use Rattle.waff_assign.specs.Instance.{Instance}
use Rattle.waff_assign.specs.Order.{IsOrdered, affinity_name}
use Rattle.waff_plan.specs.Apart.{AreApart}
use Rattle.waff_plan.specs.Chain.{IsChain, IsListed}
use Rattle.waff_plan.specs.Instances.{started_first, work_of_instance}
use Rattle.waff_plan.specs.Obeys.{AwaitsEarlier, EachRuns, KeepsOrder, Obeys, StartsIssued}
use Rattle.waff_plan.specs.Serving.{served_before, started_before, started_in}
use Rattle.waff_plan.specs.Timetable.{IsTimetable, starts_in, timings_of, work_in}
use Rattle.waff_plan.specs.Timing.{work_of}
use Rattle.waff_plan.specs.Work.{IsNumber, Work, finish_of, length_of}
use Rattle.waff_plan.specs.Workers.{IsWorkerPlan}
use Rattle.waff_plan.specs.declared.timing.Timing.{Timing}
use Rattle.waff_plan.proofs.StartOrder.{apart_obeys}
use Rattle.waff_plan.proofs.TimingLemmas.{length-timings_of}
use Rattle.waff_plan.proofs.Uniqueness.{same_length}
use Rattle.waff_plan_text.specs.Given.{Given}
use Rattle.waff_plan_text.specs.Laws.{IsTellable, plan_told}
use Rattle.waff_plan_text.specs.Lines.{text_of}
use Rattle.waff_plan_text.specs.PlanTexts.{plan_of}
use Rattle.waff_plan_text.specs.Spelling.{seat_of, worker_lines}
use Rattle.waff_plan_text.proofs.WrittenPlans.{written_is_read}
use Rattle.waff_check.specs.OwnPlans.{IsAccepted, claim_told}
use Rattle.waff_check.specs.Promises.{AreOneAtATime, Promises}
use Rattle.waff_check.specs.Shifts.{IsOneOf}
use Rattle.waff_check.specs.Verdicts.{Claim, start_in}
use Rattle.waff_check.proofs.OwnLaws.{own_plan_is_accepted, tells_start, tells_worker}
use Rattle.waff_check.proofs.Tellable.{IsModest, modest, rows_told, told_names, told_promises}
use Rattle.waff_line.specs.declared.turn.Turn.{Turn}
use Rattle.waff_record.specs.Drift.{drift_of, last_finish}
use Rattle.waff_record.specs.Laws.{TellsTurns}
use Rattle.waff_record.specs.Ran.{IsToldRun, course_run, drift_told, instance_with, ticks_run}
use Rattle.waff_record.specs.Rounded.{IsRounded}
use Rattle.waff_record.specs.Runs.{IsKept, IsPlanFor, IsPlanOf, IsToldTrace}
use Rattle.waff_record.specs.Turns.{no_turn, worker_of}
use Rattle.waff_record.specs.declared.rounding.TheConstants.{MAX_RUN}
use Rattle.waff_record.specs.declared.told_run.ToldRun.{ToldRun}
use Rattle.waff_record.proofs.Counted.{turns_of_all}
use Rattle.waff_record.proofs.Kept.{is_kept}
use Rattle.waff_record.proofs.Measured.{timings_told}
use Rattle.waff_record.proofs.Rows.{is_course, rounded_alike}
use Rattle.waff_record.proofs.Tellable.{run_tellable}
use Rattle.waff_record.proofs.Telling.{rounding_tells}

-- the seat of a turn
pub seat_is : (turns : List Turn) (n : ℕ) → seat_of (map (λ turn. turn.worker) turns) n ≡ worker_of turns n
seat_is turns n = ap Some (get_or-map_same (λ (turn : Turn). turn.worker) turns (n - 1) no_turn)

-- a plan that keeps the order of a run, and no two messages of which run together that exclude each other, obeys in the order in which it
-- starts them
started_obeys : (version : Version) (tree : List Node) (assigned : List Held) (work other : Work) (start begun : ℕ → ℕ) → length assigned ≡ work.count
    → EachRuns work → StartsIssued work start → KeepsOrder (served_before version tree assigned other begun) work start
    → AreApart (IsOrdered tree assigned) work start → Obeys (started_before version tree assigned start) work start
started_obeys V1 tree assigned work other start begun long runs issued order apart = record { issued = issued; ordered = order }
started_obeys V2 tree assigned work other start begun long runs issued order apart = record { issued = issued; ordered = order }
started_obeys V3 tree assigned work other start begun long runs issued order apart =
    apart_obeys tree assigned work long runs start (record { issued = issued; apart = apart })
started_obeys V4 tree assigned work other start begun long runs issued order apart =
    apart_obeys tree assigned work long runs start (record { issued = issued; apart = apart })

module _ (told : ToldRun) (is : IsToldRun told) (measured : Arrivals) (trace : IsToldTrace told.run.case.trace.now told.plan.now measured)
    (table : IsTimetable told.plan.now) (is_trace : IsTrace measured) (is_tree : IsTree told.run.case.tree.now) where
  abbrev tree : List Node
  tree = told.run.case.tree.now

  abbrev assigned : List Held
  assigned = told.run.case.assigned.now

  abbrev turns : List Turn
  turns = told.run.turns.now

  abbrev instance : Instance
  instance = instance_with told.run.case measured

  abbrev work : Work
  work = work_of_instance instance

  abbrev start : ℕ → ℕ
  start = starts_in told.plan.now

  -- its timings are those of the trace
  pub timings : told.plan.now.timings ≡ timings_of measured.messages
  timings = timings_told told.run.case.trace.now measured told.plan.now is.timings trace

  -- so is its version
  pub version : told.plan.now.version ≡ measured.version
  version = told.version ∙ sym trace.measured.version

  pub count : length assigned ≡ length measured.messages
  count = told.run.case.lengths ∙ sym trace.measured.count

  pub counts : length told.plan.now.timings ≡ length assigned
  counts = ap length timings ∙ (length-timings_of measured.messages ∙ sym count)

  count_in : work.count ≡ length measured.messages
  count_in = length-timings_of measured.messages

  long : length assigned ≡ work.count
  long = count ∙ sym count_in

  earlier : AwaitsEarlier work
  earlier = subst (λ (ts : List Timing). AwaitsEarlier (work_of ts)) timings table.timings.earlier

  rounded : IsRounded (course_run told.run) (ticks_run told.run) told.run.tick turns work start
  rounded = subst (λ (ts : List Timing). IsRounded (course_run told.run) (ticks_run told.run) told.run.tick turns (work_of ts) start) timings is.plan

  tells : TellsTurns (course_run told.run) turns work start
  tells =
      rounding_tells (course_run told.run) (ticks_run told.run) told.run.tick turns (is_course told.run told.plan.now is.ran is.plan table.timings.earlier)
      is.ran work start rounded

  timely : (n : ℕ) → IsNumber work n → finish_of work start n ≤ MAX_RUN
  timely = subst (λ (ts : List Timing). (n : ℕ) → IsNumber (work_of ts) n → finish_of (work_of ts) start n ≤ MAX_RUN) timings is.timely

  worker_plan : IsWorkerPlan (started_first instance start) work told.run.workers start
  worker_plan = record {
    obeys =
        subst (λ v. Obeys (started_before v tree assigned start) work start) (sym trace.measured.version)
        (started_obeys told.run.case.trace.now.version tree assigned work _ start _ long tells.runs tells.issued tells.order tells.apart);
    within = tells.within;
  }

  named : (n : ℕ) → IsNumber work n → is_name (affinity_name tree assigned n) ≡ true
  named n number =
      let names = subst (λ (t : List Node). All (λ (node : Node). is_name node.name ≡ true) t) (sym told.run.tree)
      (affinities_are_named told.run.hierarchy.now told.run.layout.now told.run.read) in
      told_names tree assigned names told.run.case.known n (record { from = number.from; to = omega (arith, number.to, long) })

  within_limits : IsModest measured.version work
  within_limits = modest measured is_trace

  -- there are as many seats
  pub seats_long : (seats : List ℕ) → seats ≡ map (λ turn. turn.worker) turns → length seats ≡ length told.plan.now.timings
  seats_long seats seated =
      ap length seated ∙ (length-map turns (λ (turn : Turn). turn.worker)
      ∙ (turns_of_all (course_run told.run) turns is.ran ∙ sym is.plan.work_is.count))

  module _ (seats chain : List ℕ) (seated : seats ≡ map (λ turn. turn.worker) turns)
      (is_chain : IsChain (started_in tree assigned told.plan.now) (work_in told.plan.now) chain)
      (listed : IsListed (length told.plan.now.timings) chain) where
    abbrev claim : Claim
    claim = claim_told instance (Some told.run.workers) start (seat_of seats) chain

    abbrev given : Given
    given = plan_told measured.version tree assigned work (Some told.run.workers) start (seat_of seats) chain

    seat_at : (n : ℕ) → seat_of seats n ≡ worker_of turns n
    seat_at n = ap (λ (xs : List ℕ). seat_of xs n) seated ∙ seat_is turns n

    manned : AreOneAtATime work start (seat_of seats) told.run.workers
    manned = record {
      each = λ n number. subst (IsOneOf told.run.workers) (sym (seat_at n)) (tells.seated.each n number);
      apart = λ i j w ni nj less wi wj together. tells.seated.apart i j w ni nj less (sym (seat_at i) ∙ wi) (sym (seat_at j) ∙ wj) together;
    }

    linked : IsChain (started_first instance start) work chain
    linked =
        subst (λ v. IsChain (started_before v tree assigned start) work chain) version
        (subst (λ (ts : List Timing). IsChain (started_in tree assigned told.plan.now) (work_of ts) chain) timings is_chain)

    listed_in : IsListed work.count chain
    listed_in = subst (λ (ts : List Timing). IsListed (length ts) chain) timings listed

    accepted : IsAccepted claim
    accepted =
        own_plan_is_accepted instance told.run.workers start (seat_of seats) chain count earlier worker_plan tells.apart manned linked

    fits : IsTellable measured.version tree assigned work (Some told.run.workers) start (seat_of seats) chain
    fits =
        run_tellable measured.version work within_limits chain listed_in tree assigned told.run.workers start (seat_of seats) named
        (λ n number. let one = manned.each n number in omega (arith, one.1, told.run.staffed.to)) told.run.staffed timely

    promised : Promises claim accepted.verdict
    promised =
        told_promises instance is_trace count told.run.case.known is_tree (Some told.run.workers) start (seat_of seats) chain fits
        accepted.verdict accepted.is_verdict

    kept : IsKept claim told.run.workers
    kept =
        is_kept claim told.run.workers accepted.verdict accepted.is_verdict accepted.no_fault promised refl
        (rows_told instance is_trace count told.run.case.known start (seat_of seats))

    -- what the rows tell
    starts : (n : ℕ) → IsNumber work n → start_in claim n ≡ start n
    starts = tells_start instance (Some told.run.workers) start (seat_of seats) chain

    same : (n : ℕ) → IsNumber work n → (start_in claim n ≡ start n) × (finish_of work (start_in claim) n ≡ finish_of work start n)
    same n number = (starts n number, ap (λ s. s + work.cost n) (starts n number))

    told_of : IsRounded (course_run told.run) (ticks_run told.run) told.run.tick turns work (start_in claim)
    told_of =
        rounded_alike (course_run told.run) (ticks_run told.run) told.run.tick turns (is_course told.run told.plan.now is.ran is.plan table.timings.earlier)
        is.ran work work start (start_in claim) rounded rounded.work_is
        (λ n number. same n (record { from = number.from; to = omega (arith, number.to, rounded.work_is.count) }))

    plan_is : IsPlanOf (instance_of told.run.case) told.run.workers told.run.tick turns claim
    plan_is = record {
      count = turns_of_all (course_run told.run) turns is.ran ∙ (length-timings_of told.run.case.trace.now.messages ∙ sym trace.measured.count);
      rounded = told_of;
      workers = λ n number. tells_worker instance (Some told.run.workers) start (seat_of seats) chain n number ∙ seat_at n;
      order = (rounding_tells (course_run told.run) (ticks_run told.run) told.run.tick turns
          (is_course told.run told.plan.now is.ran is.plan table.timings.earlier) is.ran work (start_in claim) told_of).order;
    }

    as_long : length_of (work_in told.plan.now) start ≡ length_of work (start_in claim)
    as_long =
        ap (λ (ts : List Timing). length_of (work_of ts) start) timings
        ∙ same_length work start (start_in claim) (λ n number. sym (starts n number))

    -- the text of its lines is that of the plan that is told
    pub plan_for : (text : List ℕ)
        → text ≡ text_of (worker_lines measured.version tree assigned (work_in told.plan.now) told.run.workers start seats chain)
        → IsPlanFor (instance_of told.run.case) instance told.run.workers told.run.tick turns text (drift_told told)
    plan_for text lines = record {
      given = given;
      is_plan =
          ap (plan_of measured.version (length measured.messages)) lines
          ∙ (ap (λ (ts : List Timing). plan_of measured.version (length measured.messages)
          (text_of (worker_lines measured.version tree assigned (work_of ts) told.run.workers start seats chain))) timings
          ∙ (ap (λ n. plan_of measured.version n (text_of (worker_lines measured.version tree assigned work told.run.workers start seats chain))) (sym count_in)
          ∙ written_is_read measured.version tree assigned work (Some told.run.workers) start (seat_of seats) chain fits));
      kept = kept;
      told = plan_is;
      drifts = ap (λ n. drift_of (n * told.run.tick) (last_finish turns)) as_long;
    }
