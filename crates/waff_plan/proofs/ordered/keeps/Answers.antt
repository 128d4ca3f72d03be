-- Each message is looked at with the latest of the noted ones that exclude it.
use Rattle.std.proofs.Common.{◌≡◌, ℕ, ◌<◌, ◌≤◌, [], ◌∷◌, ◌++◌, List, length, IfSome, option_map, arith, refl, sym, ◌∙◌, ap}
use Rattle.waff_plan.specs.ByStart.{started_at, walk_of}
use Rattle.waff_plan.specs.Table.{IsLatestExcluding}
use Rattle.waff_plan.specs.Planned.{planned_starts, planned_work}
use Rattle.waff_plan.specs.Work.{finish_of}
use Rattle.waff_plan.specs.declared.sequence.Started.{Started}
use Rattle.waff_plan.proofs.Noted.{none_noted, noted_more, noted_passed}
use Rattle.waff_plan.proofs.Sequences.{keeps_more, latest_finished}
use Rattle.waff_plan.proofs.Tables.{excluding_under}
use Rattle.waff_plan.proofs.ordered.keeps.Goals as goal
use Rattle.waff_plan.proofs.ordered.keeps.Goals.{After-latest_for, else-notes, then-notes}

pub loop-place-init : goal.loop-place-init
loop-place-init c = record {
  noted = [];
  are_noted = none_noted _ _;
  kept = λ p q pair less. absurd (omega (arith, less));
  table = c.in_ok-table.ensures.table _;
  tree = c.in_ok-table.ensures.tree;
  assigned = c.in_ok-table.ensures.assigned;
}

abbrev sequence : After-latest_for → List Started
sequence c = walk_of (planned_work c.args.planned.now).count (option_map (λ list. list.items) c.args.sequence.now)

-- with message i a pair may begin
abbrev begins : After-latest_for → ℕ → Type 0
begins c i = (c.args.pairs.from ≤ i) × (i ≤ c.args.pairs.to)

within : (c : After-latest_for) → c.loop-place.place < length (sequence c)
within c = omega (arith, c.loop-place-test.true, c.len-place-end.ensures.count, c.requires.sequence.long)

-- the message at the place
m_is : (c : After-latest_for) → (started_at (sequence c) c.loop-place.place).number ≡ c.number_at-m.result
m_is c = sym (c.number_at-m.ensures (planned_work c.args.planned.now).count (omega (arith, within c, c.requires.sequence.long)))

-- the latest of the noted messages that exclude it
found : (c : After-latest_for) → c.number_at-m.result ≤ c.args.pairs.last
    → IsLatestExcluding c.args.planned.now.case.tree.now c.args.planned.now.case.assigned.now (finish_of (planned_work c.args.planned.now) (planned_starts c.args.planned.now)) c.loop-place.invariant.noted
    c.number_at-m.result c.latest_for.result
found c upto =
    let h = c.loop-place.invariant in
    excluding_under c.args.planned.now.case.tree.now c.args.planned.now.case.assigned.now c.loop-place.table _ h.noted c.number_at-m.result c.latest_for.result h.tree h.assigned
    (c.latest_for.ensures.latest upto _ h.noted h.table)

pub latest_for-requires : goal.latest_for-requires
latest_for-requires c =
    let sequence = walk_of (planned_work c.args.planned.now).count (option_map (λ list. list.items) c.args.sequence.now) in
    let within : c.loop-place.place < length sequence = omega (arith, c.loop-place-test.true, c.len-place-end.ensures.count, c.requires.sequence.long) in
    let m_is = c.number_at-m.ensures (planned_work c.args.planned.now).count (omega (arith, within, c.requires.sequence.long)) in
    let number = c.requires.sequence.number c.loop-place.place within in
    let assigned = ap length c.loop-place.invariant.assigned in
    record { number = record { from = omega (arith, m_is, number.from); to = omega (arith, m_is, number.to, c.args.planned.now.lengths, assigned) } }

pub returns-then-not-is_finished_by : goal.returns-then-not-is_finished_by
returns-then-not-is_finished_by c =
    let s = (goal.at.returns-then-not-is_finished_by c).After-latest_for in
    let start = planned_starts c.args.planned.now in (
      λ t. absurd (cc t),
      λ kept. (
          let late = latest_finished c.args.planned.now.case.tree.now c.args.planned.now.case.assigned.now (planned_work c.args.planned.now) start (sequence s) c.args.pairs c.loop-place.place c.number_at-m.result
          c.loop-place.invariant.noted c.latest_for.result (m_is s) c.loop-place.invariant.are_noted (found s) c.latest_for.ensures.none (within s) kept in
          absurd (cc (c.is_finished_by.ensures.1 (rw c.start.ensures.start late), c.if-not-is_finished_by.true))
          ),
    )

pub loop-place-preserved : goal.loop-place-preserved
loop-place-preserved c =
    let s = (goal.at.loop-place-preserved c).After-latest_for in
    let h = c.loop-place.invariant in
    let finish = finish_of (planned_work c.args.planned.now) (planned_starts c.args.planned.now) in
    let m = c.number_at-m.result in
    let late : IfSome c.latest_for.result (λ l. l.finish ≤ planned_starts c.args.planned.now m) = rw (sym c.start.ensures.start) (c.is_finished_by.ensures.0 c.if-not-is_finished_by.false) in
    let kept = keeps_more c.args.planned.now.case.tree.now c.args.planned.now.case.assigned.now (planned_work c.args.planned.now) (planned_starts c.args.planned.now) (sequence s) c.args.pairs c.loop-place.place m
    h.noted c.latest_for.result (m_is s) h.are_noted (found s) late h.kept in
    elim c.if-notes.branch [
      | then-notes w ↦ rw w.table-is (record {
        noted = h.noted ++ m ∷ [];
        are_noted = noted_more (sequence s) (begins s) c.loop-place.place m h.noted (m_is s) h.are_noted (c.notes.ensures.0 w.if-notes.true);
        kept = kept;
        table = w.note.ensures.table finish h.noted h.table (sym w.finish-finish.ensures.finish);
        tree = w.note.ensures.tree ∙ h.tree;
        assigned = w.note.ensures.assigned ∙ h.assigned;
      })
      | else-notes w ↦ rw w.table-is (record {
        noted = h.noted;
        are_noted = noted_passed (sequence s) (begins s) c.loop-place.place m h.noted (m_is s) h.are_noted (λ of. absurd (cc (c.notes.ensures.1 of, w.if-notes.false)));
        kept = kept;
        table = h.table;
        tree = h.tree;
        assigned = h.assigned;
      })
    ]

pub returns : goal.returns
returns c =
    let s = c.loop-place.invariant in (
      λ t p q pair. s.kept p q pair (omega (arith, pair.within, c.requires.sequence.long, c.loop-place-test.false, c.len-place-end.ensures.count)),
      λ kept. refl,
    )
