use Rattle.std.proofs.Common.{◌≡◌, ◌<◌, ◌||◌, ℕ, Some, false, get_or, length}
use Rattle.std.specs.Prelude.{option_map}
use Rattle.waff_draw.specs.Lanes.{is_among, way_to}
use Rattle.waff_draw.proofs.WayLemmas.{steps_from, way_from}
use Rattle.waff_draw.proofs.lanes.mark_way.Given as goal

abbrev pub invariant-loop-next : goal.invariant-loop-next
invariant-loop-next l = record {
  count : length l.marks ≡ length l.tree;
  known : (a : ℕ) → option_map (λ a. a.0) l.next ≡ Some a → a < length l.tree;
  each : (n : ℕ) → (get_or l.marks n false || is_among (way_from l.tree (option_map (λ a. a.0) l.next)) n)
      ≡ (get_or l.initial.marks n false || is_among (way_to l.tree l.fn.affinity.0) n);
}

abbrev pub decreases-loop-next : goal.decreases-loop-next
decreases-loop-next l = steps_from (option_map (λ a. a.0) l.next)
