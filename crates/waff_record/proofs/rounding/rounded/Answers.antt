-- Messages are told one after another, in the order in which they began.
use Rattle.std.proofs.Common.{◌≡◌, ℕ, ◌+◌, ◌-◌, ◌/◌, ◌<◌, ◌≤◌, max, List, [], ◌∷◌, ◌++◌, length, get_or, set, Option, Some, None, arith, sym, ◌∙◌, ap, subst}
use Rattle.std.proofs.lemmas.List.{get_or-replicate, length-replicate, length-set}
use Rattle.waff_model.specs.Numbers.{IsAmongFirst}
use Rattle.waff_model.specs.Tree.{Node}
use Rattle.waff_model.specs.declared.message.Message.{Message}
use Rattle.waff_assign.specs.Held.{Held}
use Rattle.waff_plan.specs.Table.{IsLatestExcluding}
use Rattle.waff_plan.specs.Timetable.{Timetable, starts_in, timings_of, work_in}
use Rattle.waff_plan.specs.Work.{finish_of}
use Rattle.waff_plan.specs.declared.latest.Latest.{Latest}
use Rattle.waff_plan.specs.declared.timing.Timing.{Timing}
use Rattle.waff_plan.proofs.Noted.{none_noted, noted_more}
use Rattle.waff_plan.proofs.Tables.{table_again}
use Rattle.waff_plan.proofs.TimingLemmas.{length-timings_of}
use Rattle.waff_line.specs.declared.turn.Turn.{Turn}
use Rattle.waff_record.specs.Turns.{turn_at}
use Rattle.waff_record.proofs.Pass.{AreFree, IsFreeFrom, StartsFrom, free_more, none_free}
use Rattle.waff_record.proofs.Steps.{all_timely, began_counted, costs_first, new_costs, new_finish, new_long, new_stay, new_timely, new_timings, new_told, number_of, timings_first, told_all, turns_many, worker_there}
use Rattle.waff_record.proofs.rounding.rounded.Goals as goal

pub by_begin-requires : goal.by_begin-requires
by_begin-requires c =
    let few = c.len-count.ensures.table.few in
    let same = ap length c.in_ok-plan.ensures.timings in
    let many = length-timings_of c.args.run.now.case.trace.now.messages in
    record { few = omega (arith, few, same, many, turns_many c.args.run.now c.requires.ran) }

pub loop-place-init : goal.loop-place-init
loop-place-init c =
    let run = c.args.run.now in
    let plan = c.in_ok-plan.plan in
    let none = c.in_ok-free.ensures in
    record {
      noted = [];
      are_noted = none_noted _ _;
      version = c.in_ok-plan.ensures.version;
      long = c.len-count.ensures.table.lengths;
      costs = costs_first run plan c.in_ok-plan.ensures.timings;
      told = λ p less. absurd (omega (arith, less));
      timings = timings_first run.case.trace.now.messages plan.timings c.in_ok-plan.ensures.timings;
      timely = λ p less. absurd (omega (arith, less));
      table = c.in_ok-table.ensures.table _;
      free = λ w among.
          none_free run.turns.now _ w _
          (ap (λ (xs : List ℕ). get_or xs (w - 1) 0) none ∙ get_or-replicate run.workers (w - 1) 0 0 (omega (arith, among.from, among.to)));
      seats = ap length none ∙ length-replicate {A = ℕ} run.workers 0;
      tree = c.in_ok-table.ensures.tree;
      assigned = c.in_ok-table.ensures.assigned;
    }

-- the place is one of a message
less : (count place : ℕ) (timings : List Timing) (messages : List Message) → place < count → count ≡ length timings → timings ≡ timings_of messages → place < length messages
less count place timings messages before is same = omega (arith, before, is, ap length same, length-timings_of messages)

pub number_at-m-requires : goal.number_at-m-requires
number_at-m-requires c =
    let run = c.args.run.now in
    let within = less _ c.loop-place.place c.in_ok-plan.plan.timings run.case.trace.now.messages c.loop-place-test.true c.len-count.ensures.count c.in_ok-plan.ensures.timings in
    record { within = omega (arith, within, began_counted run c.requires.ran c.in_ok-began.began.items c.in_ok-began.ensures) }

pub turn_at-turn-requires : goal.turn_at-turn-requires
turn_at-turn-requires c =
    let run = c.args.run.now in
    let within = less _ c.loop-place.place c.in_ok-plan.plan.timings run.case.trace.now.messages c.loop-place-test.true c.len-count.ensures.count c.in_ok-plan.ensures.timings in
    record { number = number_of run c.requires.ran c.in_ok-began.began.items c.in_ok-began.ensures (length run.turns.now) (turns_many run c.requires.ran) c.loop-place.place c.number_at-m.result within c.number_at-m.ensures }

pub issue-issue-requires : goal.issue-issue-requires
issue-issue-requires c =
    let run = c.args.run.now in
    let within = less _ c.loop-place.place c.in_ok-plan.plan.timings run.case.trace.now.messages c.loop-place-test.true c.len-count.ensures.count c.in_ok-plan.ensures.timings in
    record {
      number = number_of run c.requires.ran c.in_ok-began.began.items c.in_ok-began.ensures (length c.loop-place.plan.timings)
          (c.loop-place.invariant.costs.count ∙ length-timings_of run.case.trace.now.messages) c.loop-place.place c.number_at-m.result within c.number_at-m.ensures;
    }

pub free_from-rest-requires : goal.free_from-rest-requires
free_from-rest-requires c =
    let run = c.args.run.now in
    let within = less _ c.loop-place.place c.in_ok-plan.plan.timings run.case.trace.now.messages c.loop-place-test.true c.len-count.ensures.count c.in_ok-plan.ensures.timings in
    let there = worker_there run c.requires.ran c.in_ok-began.began.items c.in_ok-began.ensures c.loop-place.place c.number_at-m.result c.turn_at-turn.result.now within c.number_at-m.ensures c.turn_at-turn.ensures in
    record { worker = record { from = there.from; to = omega (arith, there.to, c.loop-place.invariant.seats) } }

pub latest-latest-requires : goal.latest-latest-requires
latest-latest-requires c =
    let run = c.args.run.now in
    let within = less _ c.loop-place.place c.in_ok-plan.plan.timings run.case.trace.now.messages c.loop-place-test.true c.len-count.ensures.count c.in_ok-plan.ensures.timings in
    record {
      number = number_of run c.requires.ran c.in_ok-began.began.items c.in_ok-began.ensures (length c.loop-place.table.assigned)
          (ap length c.loop-place.invariant.assigned ∙ run.case.lengths) c.loop-place.place c.number_at-m.result within c.number_at-m.ensures;
    }

pub set_turn-requires-clause-number : goal.set_turn-requires-clause-number
set_turn-requires-clause-number c =
    let run = c.args.run.now in
    let within = less _ c.loop-place.place c.in_ok-plan.plan.timings run.case.trace.now.messages c.loop-place-test.true c.len-count.ensures.count c.in_ok-plan.ensures.timings in
    number_of run c.requires.ran c.in_ok-began.began.items c.in_ok-began.ensures (length c.loop-place.plan.timings)
    (c.loop-place.invariant.costs.count ∙ length-timings_of run.case.trace.now.messages) c.loop-place.place c.number_at-m.result within c.number_at-m.ensures

pub overflow_sub-turn : goal.overflow_sub-turn
overflow_sub-turn c =
    let run = c.args.run.now in
    let within = less _ c.loop-place.place c.in_ok-plan.plan.timings run.case.trace.now.messages c.loop-place-test.true c.len-count.ensures.count c.in_ok-plan.ensures.timings in
    (worker_there run c.requires.ran c.in_ok-began.began.items c.in_ok-began.ensures c.loop-place.place c.number_at-m.result c.turn_at-turn.result.now within c.number_at-m.ensures c.turn_at-turn.ensures).from

pub index_mut-requires : goal.index_mut-requires
index_mut-requires c =
    let run = c.args.run.now in
    let within = less _ c.loop-place.place c.in_ok-plan.plan.timings run.case.trace.now.messages c.loop-place-test.true c.len-count.ensures.count c.in_ok-plan.ensures.timings in
    let there = worker_there run c.requires.ran c.in_ok-began.began.items c.in_ok-began.ensures c.loop-place.place c.number_at-m.result c.turn_at-turn.result.now within c.number_at-m.ensures c.turn_at-turn.ensures in
    omega (arith, there.from, there.to, c.loop-place.invariant.seats)

pub note-requires : goal.note-requires
note-requires c =
    let run = c.args.run.now in
    let within = less _ c.loop-place.place c.in_ok-plan.plan.timings run.case.trace.now.messages c.loop-place-test.true c.len-count.ensures.count c.in_ok-plan.ensures.timings in
    record {
      number = number_of run c.requires.ran c.in_ok-began.began.items c.in_ok-began.ensures (length c.loop-place.table.assigned)
          (ap length c.loop-place.invariant.assigned ∙ run.case.lengths) c.loop-place.place c.number_at-m.result within c.number_at-m.ensures;
    }

pub loop-place-preserved : goal.loop-place-preserved
loop-place-preserved c =
    let run = c.args.run.now in
    let ran = c.requires.ran in
    let began = c.in_ok-began.began.items in
    let begun = c.in_ok-began.ensures in
    let place = c.loop-place.place in
    let m = c.number_at-m.result in
    let here = c.number_at-m.ensures in
    let turn = c.turn_at-turn.result.now in
    let turn_is = c.turn_at-turn.ensures in
    let assigned = run.case.assigned.now in
    let told = c.in-Some.told in
    let are = c.in-Some.ensures in
    let old = c.loop-place.invariant in
    let plan = c.loop-place.plan in
    let new = c.set_turn.new.self in
    let noted = old.noted in
    let latest = c.latest-latest.result in
    let timings = c.in_ok-plan.plan.timings in
    let timings_are = c.in_ok-plan.ensures.timings in
    let earlier = c.len-count.ensures.table.timings.earlier in
    let within = less _ place timings run.case.trace.now.messages c.loop-place-test.true c.len-count.ensures.count timings_are in
    let finish = finish_of (work_in plan) (starts_in plan) in
    let again = finish_of (work_in new) (starts_in new) in
    let there = worker_there run ran began begun place m turn within here turn_is in
    let frees = c.loop-place.free.items in
    let rest_is : c.free_from-rest.result ≡ get_or frees ((turn_at run.turns.now m).worker - 1) 0
    = c.free_from-rest.ensures ∙ ap (λ (t : Turn). get_or frees (t.worker - 1) 0) turn_is in
    let own = subst (IsAmongFirst run.workers) (ap (λ (t : Turn). t.worker) turn_is) there in
    let is_free = subst (IsFreeFrom run.turns.now finish noted (turn_at run.turns.now m).worker) (sym rest_is) (old.free (turn_at run.turns.now m).worker own) in
    let found = subst (λ (t : List Node). IsLatestExcluding t assigned finish noted m latest) old.tree
    (subst (λ (held : List Held). IsLatestExcluding c.loop-place.table.tree held finish noted m latest) old.assigned (c.latest-latest.ensures finish noted old.table)) in
    let costs = new_costs run ran began begun timings timings_are earlier plan new place m told.start told.cost noted within here old.are_noted old.costs old.long old.told c.set_turn.ensures in
    let stay = new_stay run ran began begun timings timings_are earlier plan new place m told.start told.cost noted within here old.are_noted old.costs old.long old.told c.set_turn.ensures in
    let ends = new_finish run ran began begun timings timings_are earlier plan new place m told.start told.cost noted within here old.are_noted old.costs old.long old.told c.set_turn.ensures in
    let ends_is : again m ≡ told.finish = ends ∙ are.cost in
    let some = are.some in
    record {
      noted = noted ++ m ∷ [];
      are_noted = noted_more began (λ i. Unit {0}) place m noted (sym here) old.are_noted tt;
      version = ap (λ (p : Timetable). p.version) c.set_turn.ensures ∙ old.version;
      long = new_long run ran began begun timings timings_are earlier plan new place m told.start told.cost noted within here old.are_noted old.costs old.long old.told c.set_turn.ensures;
      costs = costs;
      told = new_told run ran began begun timings timings_are earlier plan new place m told.start told.cost noted within here old.are_noted old.costs old.long old.told c.set_turn.ensures
          turn turn_is latest found c.free_from-rest.result is_free c.issue-issue.result c.issue-issue.ensures.issue are.start (are.cost ∙ are.finish);
      timings = new_timings run ran began begun timings timings_are earlier plan new place m told.start told.cost noted within here old.are_noted old.costs old.long old.told c.set_turn.ensures
          old.timings;
      timely = new_timely run ran began begun timings timings_are earlier plan new place m told.start told.cost noted within here old.are_noted old.costs old.long old.told c.set_turn.ensures
          old.timely (let ends = are.cost in let early = are.early in omega (arith, ends, early));
      table = c.note.ensures.table again noted (table_again finish again noted c.loop-place.table stay old.table) ends_is;
      tree = c.note.ensures.tree ∙ old.tree;
      assigned = c.note.ensures.assigned ∙ old.assigned;
      free = subst (λ (t : Turn). AreFree run.turns.now again (noted ++ m ∷ []) run.workers (set frees (t.worker - 1) told.finish)) (sym turn_is)
          (free_more run.turns.now finish again noted m stay run.workers frees told.finish old.seats own ends_is
          (later_free (turn.start / run.tick) c.issue-issue.result c.free_from-rest.result told.start told.cost told.finish latest _ are.start are.cost rest_is) old.free);
      seats = length-set frees (turn.worker - 1) told.finish ∙ old.seats;
    }
  where
    -- a worker that is free from a tick on is told to be busy behind it
    later_free : (begun issue rest start cost finish : ℕ) (latest : Option Latest) (free : ℕ) → StartsFrom latest (max begun (max issue rest)) start → start + cost ≡ finish
        → rest ≡ free → free ≤ finish
    later_free begun issue rest start cost finish None free starts ends is = omega (arith, starts, ends, is)
    later_free begun issue rest start cost finish (Some l) free starts ends is = omega (arith, starts, ends, is)

pub returns-clause-version : goal.returns-clause-version
returns-clause-version c = c.loop-place.invariant.version

pub returns-clause-told : goal.returns-clause-told
returns-clause-told c =
    let run = c.args.run.now in
    let all = c.loop-place-test.false in
    let same = ap length c.in_ok-plan.ensures.timings in
    let many = length-timings_of run.case.trace.now.messages in
    told_all run c.requires.ran c.in_ok-began.began.items c.in_ok-began.ensures c.in_ok-plan.plan.timings c.in_ok-plan.ensures.timings c.len-count.ensures.table.timings.earlier
    c.loop-place.plan c.loop-place.place (omega (arith, all, c.len-count.ensures.count, same, many)) c.loop-place.invariant.costs c.loop-place.invariant.told

pub returns-clause-timings : goal.returns-clause-timings
returns-clause-timings c = c.loop-place.invariant.timings

pub returns-clause-timely : goal.returns-clause-timely
returns-clause-timely c =
    let run = c.args.run.now in
    let all = c.loop-place-test.false in
    let same = ap length c.in_ok-plan.ensures.timings in
    let many = length-timings_of run.case.trace.now.messages in
    all_timely run c.requires.ran c.in_ok-began.began.items c.in_ok-began.ensures c.in_ok-plan.plan.timings c.in_ok-plan.ensures.timings c.len-count.ensures.table.timings.earlier
    c.loop-place.plan c.loop-place.place (omega (arith, all, c.len-count.ensures.count, same, many)) c.loop-place.invariant.costs c.loop-place.invariant.timely
