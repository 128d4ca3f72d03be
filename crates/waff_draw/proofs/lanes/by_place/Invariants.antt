use Rattle.std.proofs.Common.{◌≡◌, ◌-◌, ◌<◌, ℕ, List, false, get_or, length, map}
use Rattle.waff_draw.specs.Lanes.{is_among, used_from}
use Rattle.waff_draw.proofs.PlaceLemmas.{entry}
use Rattle.waff_draw.proofs.lanes.by_place.Given as goal

abbrev pub invariant-loop-affinity : goal.invariant-loop-affinity
invariant-loop-affinity l =
    (assigned : List ℕ) → ((a : ℕ) → a < length l.tree → get_or l.used a false ≡ is_among assigned a)
    → l.lanes.entries ≡ map (entry l.tree l.spans) (used_from l.tree assigned l.affinity (length l.tree - l.affinity))
