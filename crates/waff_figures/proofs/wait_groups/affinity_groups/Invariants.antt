use Rattle.std.proofs.Common.{◌≡◌, ◌-◌, map}
use Rattle.std.specs.List.{range_with_len}
use Rattle.waff_assign.specs.Order.{held_of, number_or}
use Rattle.waff_figures.proofs.wait_groups.affinity_groups.Given as goal

abbrev pub invariant-loop-n : goal.invariant-loop-n
invariant-loop-n l = l.groups.items ≡ map (λ m. (0, number_or l.none (held_of l.assigned m))) (range_with_len 1 (l.n - 1))
