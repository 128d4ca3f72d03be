use Rattle.std.proofs.Common.{◌≡◌, ◌<◌, ◌-◌, ◌++◌, ◌∷◌, [], ℕ, List, suc, inr, length, arith, sym, ◌∙◌, ap, subst}
use Rattle.std.proofs.lemmas.List.{length-set}
use Rattle.waff_model.specs.declared.locking.Locking.{Locking}
use Rattle.waff_locks.specs.Steps.{AreSteps, IsStep}
use Rattle.waff_locks.specs.declared.figures.SpaceFigures.{SpaceFigures}
use Rattle.waff_locks.proofs.Stepping.{no_candidates}
use Rattle.waff_locks.proofs.steps.steps_from.Goals as goal

pub returns-then-is_empty : goal.returns-then-is_empty
returns-then-is_empty g c =
    let asked = c.args.asked.now in
    subst (AreSteps asked.wanted.now asked.layout.now asked.trace.now asked.wanted.now.steps c.args.lockings.now) (sym c.new-steps.ensures.items)
    (inr (no_candidates c.args.ones.now _ c.requires.ones.in_turn (sym c.is_empty.ensures ∙ c.if-is_empty.true)))

pub with_one-requires : goal.with_one-requires
with_one-requires g c =
    let among = c.first_of-first.ensures.among in
    subst (λ (one : SpaceFigures). one.space < length c.args.lockings.now) among.2 (c.requires.within among.0 c.first_of-first.result among.1)

pub add_steps-requires-clause-count : goal.add_steps-requires-clause-count
add_steps-requires-clause-count g c κs lives =
    ap length c.in_ok-locked.ensures ∙ length-set c.args.lockings.now c.first_of-first.result.space c.args.asked.now.wanted.now.kind ∙ c.requires.count

pub add_steps-requires-clause-counted : goal.add_steps-requires-clause-counted
add_steps-requires-clause-counted g c κs lives =
    c.requires.counted
    ∙ sym (ap length c.in_ok-locked.ensures ∙ length-set c.args.lockings.now c.first_of-first.result.space c.args.asked.now.wanted.now.kind)

pub returns : goal.returns
returns g c =
    let asked = c.args.asked.now in
    let are = AreSteps asked.wanted.now asked.layout.now asked.trace.now in
    let most = asked.wanted.now.steps in
    let first = c.first_of-first.result in
    let made = c.in_ok-add_steps.ensures in
    let items : c.add_steps.new.steps.items ≡ first ∷ made.more
    = made.behind ∙ ap (λ xs. xs ++ made.more) (c.in_ok-push.ensures.items ∙ ap (λ xs. xs ++ first ∷ []) c.new-steps.ensures.items) in
    let one_more : suc (most - 1) ≡ most = omega (arith, c.if-most-eq0.false) in
    let is_step : IsStep asked.wanted.now asked.layout.now asked.trace.now c.args.lockings.now first = record {
      tried = c.args.ones.now;
      are_tried = c.requires.ones;
      among = c.first_of-first.ensures.among;
      first = c.first_of-first.ensures.first;
    } in
    let rest = subst (λ (xs : List Locking). are (most - 1) xs made.more) c.in_ok-locked.ensures made.steps in
    subst (are most c.args.lockings.now) (sym items)
    (subst (λ (n : ℕ). are n c.args.lockings.now (first ∷ made.more)) one_more (is_step, rest))
