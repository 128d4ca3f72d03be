use Rattle.std.proofs.Common.{◌≡◌, ◌-◌, get_or, map}
use Rattle.std.specs.List.{range_with_len}
use Rattle.waff_assign.specs.Order.{held_of, number_or}
use Rattle.waff_figures.proofs.wait_groups.numbered_groups.Given as goal

abbrev pub invariant-loop-n : goal.invariant-loop-n
invariant-loop-n l =
    l.groups.items ≡ map (λ m. (get_or l.numbers (m - 1) 0, number_or l.none (held_of l.assigned m))) (range_with_len 1 (l.n - 1))
