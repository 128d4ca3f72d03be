use Rattle.std.proofs.Common.{◌≡◌, ◌+◌, ◌-◌, ◌<◌, ◌≤◌, All, List, cond, sum_by, count_by, length, nat_lt, not, take, arith, sym, ◌∙◌, ap, ap₂, subst}
use Rattle.std.proofs.lemmas.List.{take_all}
use Rattle.waff_assign.specs.Held.{Held, IsRising, nothing}
use Rattle.waff_assign.specs.declared.held.LockUse.{LockUse}
use Rattle.waff_locks.specs.Sets.{alone_uses, shared_uses, uses_some}
use Rattle.waff_locks.proofs.Uses.{few_alone, few_shared, sum_more}
use Rattle.waff_locks.proofs.figures.count_taken.Goals as goal

pub loop-n-preserved : goal.loop-n-preserved
loop-n-preserved c =
    let assigned = c.args.case.assigned.now in
    let n = c.loop-n.n in
    let so_far = c.loop-n.invariant in
    let to : n ≤ length assigned = omega (arith, c.loop-n-test.true, c.len-n-end.ensures.count) in
    let place : n - 1 < length assigned = omega (arith, to, c.loop-n.auto.n) in
    let next : n ≡ n + 1 - 1 = omega arith in
    let is = c.uses-uses.ensures in
    let limit = c.lock_limit-locks.result in
    let rising = subst IsRising (sym is) (c.args.case.known (n - 1) nothing place).rising in
    let below = subst (All (λ (u : LockUse). u.lock < limit)) (sym is) (c.lock_limit-locks.ensures.below (n - 1) nothing place) in
    let alone = few_alone c.uses-uses.result.now limit rising below in
    let shared = few_shared c.uses-uses.result.now limit rising below in
    record {
      messages = ap₂ (λ a b. a + b) so_far.messages (c.some_count-messages.ensures.count ∙ ap (λ (us : List LockUse). cond (nat_lt 0 (length us)) 1 0) is)
          ∙ sym (sum_more (λ held. cond (uses_some held) 1 0) assigned n (n + 1 - 1) c.loop-n.auto.n to next);
      alone = ap₂ (λ a b. a + b) so_far.alone (c.alone_count-alone.ensures ∙ ap (λ (us : List LockUse). count_by (λ (u : LockUse). u.alone) us) is)
          ∙ sym (sum_more alone_uses assigned n (n + 1 - 1) c.loop-n.auto.n to next);
      shared = ap₂ (λ a b. a + b) so_far.shared (c.shared_count-shared.ensures ∙ ap (λ (us : List LockUse). count_by (λ (u : LockUse). not u.alone) us) is)
          ∙ sym (sum_more shared_uses assigned n (n + 1 - 1) c.loop-n.auto.n to next);
      few_messages = omega (arith, so_far.few_messages, c.some_count-messages.ensures.small, c.loop-n.auto.n);
      few_alone = omega (arith, so_far.few_alone, alone, c.alone_count-alone.ensures, c.lock_limit-locks.ensures.small, c.loop-n.auto.n);
      few_shared = omega (arith, so_far.few_shared, shared, c.shared_count-shared.ensures, c.lock_limit-locks.ensures.small, c.loop-n.auto.n);
    }

pub returns : goal.returns
returns c =
    let assigned = c.args.case.assigned.now in
    let all : take (c.loop-n.n - 1) assigned ≡ assigned = take_all (c.loop-n.n - 1) assigned (omega (arith, c.loop-n-test.false, c.len-n-end.ensures.count)) in
    record {
      messages = c.loop-n.invariant.messages ∙ ap (λ (helds : List Held). count_by uses_some helds) all;
      alone = c.loop-n.invariant.alone ∙ ap (λ (helds : List Held). sum_by alone_uses helds) all;
      shared = c.loop-n.invariant.shared ∙ ap (λ (helds : List Held). sum_by shared_uses helds) all;
    }
