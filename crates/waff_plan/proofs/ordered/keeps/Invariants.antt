use Rattle.std.proofs.Common.{◌≡◌, ◌≤◌, ℕ, List, option_map}
use Rattle.waff_plan.specs.ByStart.{walk_of}
use Rattle.waff_plan.specs.Planned.{planned_starts, planned_work}
use Rattle.waff_plan.specs.Table.{IsTable}
use Rattle.waff_plan.specs.Work.{finish_of}
use Rattle.waff_plan.proofs.Noted.{AreNoted}
use Rattle.waff_plan.proofs.Sequences.{KeepsTo}
use Rattle.waff_plan.proofs.ordered.keeps.Given as goal

abbrev pub invariant-loop-place : goal.invariant-loop-place
invariant-loop-place l = record {
  noted : List ℕ;
  are_noted : AreNoted (walk_of (planned_work l.planned).count (option_map (λ list. list.items) l.sequence)) (λ i. (l.pairs.from ≤ i) × (i ≤ l.pairs.to)) l.place noted;
  kept : KeepsTo l.planned.case.tree.now l.planned.case.assigned.now (planned_work l.planned) (planned_starts l.planned)
      (walk_of (planned_work l.planned).count (option_map (λ list. list.items) l.sequence)) l.pairs l.place;
  table : IsTable (finish_of (planned_work l.planned) (planned_starts l.planned)) noted l.table;
  tree : l.table.tree ≡ l.planned.case.tree.now;
  assigned : l.table.assigned ≡ l.planned.case.assigned.now;
}
