use Rattle.std.proofs.Common.{◌≡◌, ◌<◌, ℕ, List, false, get_or, length}
use Rattle.waff_draw.specs.Lanes.{is_among}
use Rattle.waff_draw.proofs.LaneLemmas.{Tells}
use Rattle.waff_draw.proofs.WayLemmas.{ways_to}
use Rattle.waff_draw.proofs.lanes.used_below.Given as goal

abbrev pub invariant-loop-affinity : goal.invariant-loop-affinity
invariant-loop-affinity l = record {
  count : length l.marks.items ≡ length l.tree;
  tells : (assigned : List ℕ) → ((a : ℕ) → a < length l.tree → get_or l.used a false ≡ is_among assigned a)
      → Tells l.marks.items (ways_to l.tree assigned l.affinity);
}
