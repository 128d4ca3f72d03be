use Rattle.std.proofs.Common.{◌≡◌, ◌<◌, ◌&&◌, ◌++◌, ◌∷◌, [], All, cond, filter, false, length, arith, sym, ◌∙◌, ap, ap₂, subst}
use Rattle.std.specs.List.{range_with_len}
use Rattle.std.proofs.lemmas.List.{get_or_default}
use Rattle.waff_model.specs.declared.locking.Locking.TheVariants.{Unlocked}
use Rattle.waff_locks.specs.Candidates.{are_new}
use Rattle.waff_locks.proofs.Choosing.{are_candidates, filtered_within, is_one, one_more}
use Rattle.waff_locks.proofs.candidates.candidates.Goals as goal

pub loop-s-preserved : goal.loop-s-preserved
loop-s-preserved c =
    let lockings = c.args.lockings.now in
    let named = c.args.named.now in
    let s = c.loop-s.s in
    let test = is_one c.args.kind lockings named in
    let may = c.may_lock-may.ensures
    ∙ ap₂ (λ there b. are_new c.args.kind there && b) (get_or_default lockings s _ Unlocked c.loop-s-test.true)
    (get_or_default named s _ false (omega (arith, c.loop-s-test.true, c.requires.count))) in
    c.in_ok-push_if.ensures
    ∙ ap₂ (λ xs b. xs ++ cond b (s ∷ []) []) c.loop-s.invariant may
    ∙ sym (one_more test s)

pub returns-clause-spaces : goal.returns-clause-spaces
returns-clause-spaces c = λ messages are.
    c.loop-s.invariant
    ∙ ap (λ n. filter (is_one c.args.kind c.args.lockings.now c.args.named.now) (range_with_len 0 n)) (omega (arith, c.loop-s-test.false, c.loop-s.auto.s-end))
    ∙ are_candidates c.args.kind messages c.args.lockings.now c.args.named.now c.requires.count are

pub returns-clause-within : goal.returns-clause-within
returns-clause-within c =
    let n = length c.args.lockings.now in
    let end : c.loop-s.s ≡ n = omega (arith, c.loop-s-test.false, c.loop-s.auto.s-end) in
    subst (All (λ s. s < n)) (sym (c.loop-s.invariant ∙ ap (λ k. filter (is_one c.args.kind c.args.lockings.now c.args.named.now) (range_with_len 0 k)) end))
    (filtered_within (is_one c.args.kind c.args.lockings.now c.args.named.now) n)
