use Rattle.std.proofs.Common.{◌≡◌, ◌<◌, ◌-◌, ◌+◌, ◌++◌, ◌∷◌, [], List, suc, inl, inr, length, arith, sym, ◌∙◌, ap, append_assoc, subst}
use Rattle.std.proofs.lemmas.List.{append-nil, length-set}
use Rattle.waff_model.specs.declared.locking.Locking.{Locking}
use Rattle.waff_locks.specs.Candidates.{candidates}
use Rattle.waff_locks.specs.Steps.{IsNext, IsStep}
use Rattle.waff_locks.proofs.Stepping.{AreBehind, all_behind, none_behind, one_behind, step_within}
use Rattle.waff_locks.proofs.steps.add_steps.Goals as goal

pub loop-init : goal.loop-init
loop-init g c =
    let asked = c.args.asked.now in
    let whole : c.args.most ≡ c.args.most - 0 = omega arith in
    record {
      count = c.requires.count;
      taken = (
        [],
        sym (append-nil c.args.steps.now.items),
        subst (λ n. AreBehind asked.wanted.now asked.layout.now asked.trace.now c.args.most c.args.start.items n c.args.start.items []) whole
            (none_behind asked.wanted.now asked.layout.now asked.trace.now c.args.most c.args.start.items),
      );
    }

pub next_step-requires-clause-count : goal.next_step-requires-clause-count
next_step-requires-clause-count g c κs lives = ap length c.deref.ensures.value ∙ c.loop.invariant.count

pub next_step-requires-clause-counted : goal.next_step-requires-clause-counted
next_step-requires-clause-counted g c κs lives =
    c.requires.counted ∙ c.requires.count ∙ sym c.loop.invariant.count ∙ sym (ap length c.deref.ensures.value)

pub index_mut-requires : goal.index_mut-requires
index_mut-requires g c =
    let asked = c.args.asked.now in
    let step = c.in-Some.step in
    let lockings = c.loop.lockings.items in
    let is_step = subst (λ (xs : List Locking). IsStep asked.wanted.now asked.layout.now asked.trace.now xs step) c.deref.ensures.value
    (subst (IsNext asked.wanted.now asked.layout.now asked.trace.now c.deref.result.now) c.in-Some.is c.in_ok-step.ensures) in
    let within : step.space < length lockings = step_within asked.wanted.now asked.layout.now asked.trace.now lockings step is_step in
    omega (arith, within)

pub loop-preserved : goal.loop-preserved
loop-preserved g c =
    let asked = c.args.asked.now in
    let step = c.in-Some.step in
    let lockings = c.loop.lockings.items in
    let taken = c.loop.invariant.taken in
    let most = c.args.most in
    let is_step = subst (λ (xs : List Locking). IsStep asked.wanted.now asked.layout.now asked.trace.now xs step) c.deref.ensures.value
    (subst (IsNext asked.wanted.now asked.layout.now asked.trace.now c.deref.result.now) c.in-Some.is c.in_ok-step.ensures) in
    let one_less : most - c.loop.counter ≡ suc (most - (c.loop.counter + 1)) = omega (arith, c.loop-test.true) in
    record {
      count = length-set lockings step.space asked.wanted.now.kind ∙ c.loop.invariant.count;
      taken = (
        taken.0 ++ step ∷ [],
        c.in_ok-push-in-Some.ensures.items ∙ ap (λ xs. xs ++ step ∷ []) taken.1 ∙ append_assoc c.args.steps.now.items taken.0 (step ∷ []),
        one_behind asked.wanted.now asked.layout.now asked.trace.now most (most - c.loop.counter) (most - (c.loop.counter + 1)) c.args.start.items lockings taken.0 step
            one_less taken.2 is_step,
      );
    }

pub returns : goal.returns
returns g c =
    let asked = c.args.asked.now in
    let taken = c.loop.invariant.taken in
    let left = c.args.most - c.loop.counter in
    let end : left ≡ 0 = omega (arith, c.loop-test.false) in
    record {
      more = taken.0;
      behind = taken.1;
      steps = all_behind asked.wanted.now asked.layout.now asked.trace.now c.args.most c.args.start.items c.loop.lockings.items taken.0 left (inl end) taken.2;
    }

pub returns-in-None : goal.returns-in-None
returns-in-None g c =
    let asked = c.args.asked.now in
    let taken = c.loop.invariant.taken in
    let left = c.args.most - c.loop.counter in
    let none = subst (λ (xs : List Locking). candidates asked.wanted.now.kind asked.trace.now.messages xs ≡ []) c.deref.ensures.value
    (subst (IsNext asked.wanted.now asked.layout.now asked.trace.now c.deref.result.now) c.in-None.is c.in_ok-step.ensures) in
    record {
      more = taken.0;
      behind = taken.1;
      steps = all_behind asked.wanted.now asked.layout.now asked.trace.now c.args.most c.args.start.items c.loop.lockings.items taken.0 left (inr none) taken.2;
    }
