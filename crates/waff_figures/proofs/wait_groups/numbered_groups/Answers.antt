use Rattle.std.proofs.Common.{◌≡◌, ℕ, ◌-◌, map, get_or, length, arith, ◌∙◌, ap}
use Rattle.std.specs.List.{range_with_len}
use Rattle.waff_assign.specs.Order.{held_of, number_or}
use Rattle.waff_figures.proofs.WaitGroups.{grouped_more}
use Rattle.waff_figures.proofs.wait_groups.numbered_groups.Goals as goal

pub loop-n-preserved : goal.loop-n-preserved
loop-n-preserved c =
    let group : ℕ → ℕ × ℕ = λ m. (get_or c.args.numbers.now (m - 1) 0, number_or c.args.none (held_of c.args.assigned.now m)) in
    grouped_more group c.loop-n.groups.items c.push.new.self.items c.loop-n.n (get_or c.args.numbers.now (c.loop-n.n - 1) 0, c.number.result) c.loop-n.auto.n c.loop-n.invariant
    c.in_ok-push.ensures.items (ap (λ a. (get_or c.args.numbers.now (c.loop-n.n - 1) 0, a)) c.number.ensures)

pub returns : goal.returns
returns c =
    let group : ℕ → ℕ × ℕ = λ m. (get_or c.args.numbers.now (m - 1) 0, number_or c.args.none (held_of c.args.assigned.now m)) in
    let all : c.loop-n.n - 1 ≡ length c.args.assigned.now
    = omega (arith, c.loop-n-test.false, c.len-n-end.ensures.count, c.loop-n.auto.n, c.loop-n.auto.n-end) in
    c.loop-n.invariant ∙ ap (λ k. map group (range_with_len 1 k)) all
