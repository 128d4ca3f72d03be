-- What messages hold goes by their operations alone, so that of a trace with other costs is the same.
use Rattle.std.proofs.Common.{◌≡◌, ◌↔◌, ℕ, ◌+◌, ◌-◌, ◌<◌, ◌≤◌, List, length, get_or, Contains, Some, Ok, arith, sym, ◌∙◌, ap, subst}
use Rattle.std.specs.Prelude.{slice_get}
use Rattle.std.proofs.lemmas.List.{get_or_default}
use Rattle.std.proofs.lemmas.List.Elements.{Contains-get_or}
use Rattle.std.proofs.lemmas.Option.{get_or_from_slice_get, slice_get-get_or, slice_get_within}
use Rattle.waff_model.specs.Cells.{cells_of}
use Rattle.waff_model.specs.Layout.{Hierarchy, IsLocked}
use Rattle.waff_model.specs.Messages.{Arrivals}
use Rattle.waff_model.specs.declared.cell.Cell.{Cell}
use Rattle.waff_model.specs.declared.message.Message.{Message}
use Rattle.waff_assign.specs.Held.{Held}
use Rattle.waff_assign.specs.Lowest.{IsAffinityOf, IsAssignment, IsInFootprint, ListsLocks, ListsUses}
use Rattle.waff_assign.specs.Order.{held_of}
use Rattle.waff_assign.specs.Case.{instance_of}
use Rattle.waff_plan.specs.Timetable.{message_of, no_message}
use Rattle.waff_inputs.specs.Known.{trace_of}
use Rattle.waff_record.specs.Ran.{drift_told, instance_with}
use Rattle.waff_record.specs.Runs.{AreRunTexts, IsMeasured, IsPlanFor}
use Rattle.waff_record.specs.declared.told_run.ToldRun.{ToldRun}

-- messages have the operations of others, one by one
pub record HaveOpsOf (messages other : List Message) : Type 0 where
  pub count : length other ≡ length messages
  pub each : (k : ℕ) → k < length messages → (message_of other (k + 1)).ops ≡ (message_of messages (k + 1)).ops

pub have_back : (messages other : List Message) → HaveOpsOf messages other → HaveOpsOf other messages
have_back messages other have = record {
  count = sym have.count;
  each = λ k within. sym (have.each k (omega (arith, within, have.count)));
}

-- the message at a place, from 0
at_place : (messages : List Message) (k : ℕ) (message : Message) → k < length messages → get_or messages k message ≡ message
    → message_of messages (k + 1) ≡ message
at_place messages k message within is =
    let here : k + 1 - 1 ≡ k = omega arith in
    ap (λ i. get_or messages i no_message) here ∙ (get_or_default messages k no_message message within ∙ is)

-- one of the messages names a cell
abbrev IsNamed : List Message → Cell → Type 0
IsNamed messages cell = (message : Message) × Contains messages message × IsInFootprint message.ops cell

named_over : (messages other : List Message) (cell : Cell) → HaveOpsOf messages other → IsNamed messages cell → IsNamed other cell
named_over messages other cell have (message, has, names) =
    let k = has.0 in
    let within = has.1 in
    let there : k < length other = omega (arith, within, have.count) in
    let here : k ≡ k + 1 - 1 = omega arith in
    let same = have.each k within ∙ ap (λ (m : Message). m.ops) (at_place messages k message within has.2) in (
      message_of other (k + 1),
      subst (λ i. Contains other (get_or other i no_message)) here (Contains-get_or other k no_message there),
      subst (λ ops. IsInFootprint ops cell) (sym same) names,
    )

-- those of a trace with other costs are the same
have_ops : (trace measured : Arrivals) → IsMeasured trace measured → HaveOpsOf trace.messages measured.messages
have_ops trace measured is = record {
  count = is.count;
  each = λ k within. (is.each (k + 1) (record { from = omega arith; to = omega (arith, within) })).ops;
}

module _ (layout : Hierarchy) (messages other : List Message) (assigned : List Held) (have : HaveOpsOf messages other) where
  locks_over : (cells : List Cell) → ListsLocks layout messages cells → ListsLocks layout other cells
  locks_over cells lists = record {
    each = λ cell. (
      λ has. let known = (lists.each cell).0 has in (known.0, named_over messages other cell have known.1),
      λ known. (lists.each cell).1 (known.0, named_over other messages cell (have_back messages other have) known.1),
    );
    rising = lists.rising;
  }

  pub assignment_over : IsAssignment layout messages assigned → IsAssignment layout other assigned
  assignment_over is = record {
    count = is.count ∙ sym have.count;
    locks = is.locks;
    numbered = locks_over is.locks is.numbered;
    each = λ n message from at.
        let within = slice_get_within other (n - 1) message at in
        let there : n - 1 < length messages = omega (arith, within, have.count) in
        let here : n ≡ n - 1 + 1 = omega (arith, from) in
        let same : message.ops ≡ (message_of messages n).ops
        = ap (λ (m : Message). m.ops) (sym (get_or_from_slice_get other (n - 1) message no_message at))
        ∙ subst (λ i. (message_of other i).ops ≡ (message_of messages i).ops) (sym here) (have.each (n - 1) there) in
        let held = is.each n (message_of messages n) from (slice_get-get_or messages (n - 1) no_message there) in
        record {
          affinity = subst (λ ops. IsAffinityOf layout ops (held_of assigned n).affinity) (sym same) held.affinity;
          uses = subst (λ ops. ListsUses layout ops is.locks (held_of assigned n).uses) (sym same) held.uses;
        };
  }

-- what is told of a run is told of the trace with the costs that are told, with what messages held that were run
pub run_texts : (told : ToldRun) (trace : Arrivals) (measured text : List ℕ) → trace_of told.run.layout.now.spaces measured ≡ Ok trace
    → IsAssignment told.run.layout.now told.run.case.trace.now.messages told.run.case.assigned.now → IsMeasured told.run.case.trace.now trace
    → IsPlanFor (instance_of told.run.case) (instance_with told.run.case trace) told.run.workers told.run.tick told.run.turns.now text (drift_told told)
    → AreRunTexts told.run.hierarchy.now (instance_of told.run.case) told.run.workers told.run.tick told.run.turns.now measured text (drift_told told)
run_texts told trace measured text read assigned is plan = record {
  instance = instance_with told.run.case trace;
  accepts = record {
    layout = told.run.layout.now;
    is_layout = told.run.read;
    tree = sym told.run.tree;
    is_trace = read;
    assignment =
        assignment_over told.run.layout.now told.run.case.trace.now.messages trace.messages told.run.case.assigned.now (have_ops told.run.case.trace.now trace is) assigned;
  };
  measured = is;
  plan = plan;
}
