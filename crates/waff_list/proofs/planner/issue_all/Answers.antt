use Rattle.std.proofs.Common.{◌≡◌, ℕ, ◌<◌, ◌∷◌, List, All, length, arith, sym, subst}
use Rattle.std.proofs.lemmas.List.Sorted.{length_permutation}
use Rattle.waff_list.specs.Planning.{AreIssuing}
use Rattle.waff_list.proofs.Steps.{at_tick, first_next, issuing_next, starting_of_issuing}
use Rattle.waff_list.proofs.planner.issue_all.Goals as goal

pub issue-requires-clause-due : goal.issue-requires-clause-due
issue-requires-clause-due c =
    let leaves = c.in-Some.ensures.1 in
    omega (arith, at_tick c.args.task.now c.loop-m.progress c.loop-m.waiting c.args.now c.loop-m.invariant.kept c.in-Some.field-0-0 c.in-Some.m c.pop_by.new.self leaves, c.in-Some.ensures.0)

pub issue-requires-clause-kept : goal.issue-requires-clause-kept
issue-requires-clause-kept c =
    issuing_next c.args.task.now c.loop-m.progress c.loop-m.waiting c.args.now c.loop-m.invariant.kept c.in-Some.field-0-0 c.in-Some.m c.pop_by.new.self c.in-Some.ensures.1

pub issue-requires-clause-first : goal.issue-requires-clause-first
issue-requires-clause-first c =
    first_next c.args.task.now c.loop-m.progress c.loop-m.waiting c.args.now c.loop-m.invariant.kept c.in-Some.field-0-0 c.in-Some.m c.pop_by.new.self c.in-Some.ensures.1

pub loop-m-smaller : goal.loop-m-smaller
loop-m-smaller c =
    let long : length ((c.in-Some.field-0-0, c.in-Some.m) ∷ c.pop_by.new.self) ≡ length c.loop-m.progress.issues = length_permutation _ _ c.in-Some.ensures.1.rest in
    let less : length c.pop_by.new.self < length c.loop-m.progress.issues = omega (arith, long) in
    less

pub returns-clause-kept : goal.returns-clause-kept
returns-clause-kept c =
    let none = c.in_default.ensures in
    starting_of_issuing c.args.task.now c.loop-m.progress c.loop-m.waiting c.args.now c.pop_by.new.self (omega (arith, c.requires.tick))
    (subst (λ (xs : List (ℕ × ℕ)). AreIssuing c.args.task.now c.loop-m.progress c.loop-m.waiting xs c.args.now) (sym none.0) c.loop-m.invariant.kept)
    (subst (λ (xs : List (ℕ × ℕ)). All (λ (r : ℕ × ℕ). c.args.now < r.0) xs) (sym none.0) none.1)
