use Rattle.std.proofs.Common.{◌≡◌, ℕ, ◌+◌, ◌-◌, List, [], ◌∷◌, ◌++◌, drop, get_or, length, max, set, arith, ap, sym, ◌∙◌, subst}
use Rattle.std.proofs.lemmas.List.{drop_all, drop_more}
use Rattle.waff_model.specs.Numbers.{IsAmongFirst}
use Rattle.waff_plan.specs.Timing.{await_of}
use Rattle.waff_plan.specs.Work.{Await, IsAwaited, gap_after}
use Rattle.waff_plan.proofs.AwaitLemmas.{awaited_at, awaited_left, awaited_right}
use Rattle.waff_plan.proofs.FollowLemmas.{awaits_it, awaits_none, awaits_one, none_awaited}
use Rattle.waff_list.specs.Tails.{AreRaised, tail_of}
use Rattle.waff_list.proofs.TailMaking.{raised_awaited, raised_none}
use Rattle.waff_list.proofs.tails.raise_awaited.Goals as goal
use Rattle.waff_list.proofs.tails.raise_awaited.Goals.{After-loop-k, In-loop-k}

abbrev no_await : Await
no_await = record { message = 0; gap = 0 }

pub loop-k-init : goal.loop-k-init
loop-k-init c =
    let after = c.as_slice-after.result.now in
    let none : drop (length after) after ≡ [] = drop_all (length after) after (omega arith) in
    raised_none c.args.tails.now (IsAwaited (drop (length after) after)) (λ m. gap_after m (drop (length after) after)) c.args.tail
    (λ m awaited. none_awaited (drop (length after) after) m none awaited)

-- the message at the next place of the list is among them
its_number : (c : In-loop-k) → IsAmongFirst (length c.loop-k.tails) (get_or c.as_slice-after.result.now (c.loop-k.k - 1) no_await).message
its_number c =
    let after = c.as_slice-after.result.now in
    let timing = c.args.timing.now in
    let at = c.loop-k.k - 1 in
    let m = (get_or after at no_await).message in
    let number = c.requires.numbers m
    (awaited_right (await_of timing.follows timing.think) timing.after m
    (subst (λ (xs : List Await). IsAwaited xs m) c.as_slice-after.ensures (awaited_at after at no_await (omega (arith, c.loop-k.auto.k, c.loop-k-test.true))))) in
    record { from = number.from; to = omega (arith, number.to, c.loop-k.invariant.count) }

pub raise_to-requires : goal.raise_to-requires
raise_to-requires c = its_number (goal.at.raise_to-requires c).In-loop-k

pub loop-k-preserved : goal.loop-k-preserved
loop-k-preserved c =
    let after = c.as_slice-after.result.now in
    let old = c.args.tails.now in
    let tail = c.args.tail in
    let at = c.loop-k.k - 1 in
    let a = get_or after at no_await in
    let number = its_number (goal.at.loop-k-preserved c).In-loop-k in
    let next : at + 1 ≡ c.loop-k.k = omega (arith, c.loop-k-test.true) in
    let list : drop at after ≡ a ∷ drop c.loop-k.k after
    = drop_more after at no_await (omega (arith, c.loop-k.auto.k, c.loop-k-test.true)) ∙ ap (λ k. a ∷ drop k after) next in
    let more = raised_awaited old c.loop-k.tails a (drop c.loop-k.k after) tail (c.from.result + tail) number (omega (arith, c.from.ensures)) c.loop-k.invariant in
    subst (λ (xs : List ℕ). AreRaised old (IsAwaited (drop at after)) (λ m. gap_after m (drop at after)) tail xs) (sym c.raise_to.ensures)
    (subst (λ (xs : List Await). AreRaised old (IsAwaited xs) (λ m. gap_after m xs) tail
    (set c.loop-k.tails (a.message - 1) (max (tail_of c.loop-k.tails a.message) (c.from.result + tail)))) (sym list) more)

-- all of the list have been raised
raised_all : (c : After-loop-k) → AreRaised c.args.tails.now (IsAwaited c.args.timing.now.after) (λ m. gap_after m c.args.timing.now.after) c.args.tail c.loop-k.tails
raised_all c =
    let Raised = λ (xs : List Await). AreRaised c.args.tails.now (IsAwaited xs) (λ m. gap_after m xs) c.args.tail c.loop-k.tails in
    let none : c.loop-k.k ≡ 0 = omega (arith, c.loop-k-test.false) in
    subst Raised c.as_slice-after.ensures (subst (λ k. Raised (drop k c.as_slice-after.result.now)) none c.loop-k.invariant)

-- so is the one that is followed
pub raise_to-requires-then-timing-ne0 : goal.raise_to-requires-then-timing-ne0
raise_to-requires-then-timing-ne0 c =
    let timing = c.args.timing.now in
    let f = timing.follows in
    let number = c.requires.numbers f (awaited_left (await_of f timing.think) timing.after f (awaits_it f timing.think c.if-timing-ne0.true)) in
    record { from = number.from; to = omega (arith, number.to, c.loop-k.invariant.count) }

pub returns-then-timing-ne0 : goal.returns-then-timing-ne0
returns-then-timing-ne0 c =
    let timing = c.args.timing.now in
    let old = c.args.tails.now in
    let tail = c.args.tail in
    let f = timing.follows in
    let one : Await = record { message = f; gap = timing.think } in
    let most = c.from-then-timing-ne0.result + tail in
    let number = c.requires.numbers f (awaited_left (await_of f timing.think) timing.after f (awaits_it f timing.think c.if-timing-ne0.true)) in
    let more = raised_awaited old c.loop-k.tails one timing.after tail most (record { from = number.from; to = omega (arith, number.to, c.loop-k.invariant.count) })
    (omega (arith, c.from-then-timing-ne0.ensures)) (raised_all (goal.at.returns-then-timing-ne0 c).After-loop-k) in
    subst (λ (xs : List ℕ). AreRaised old (IsAwaited (await_of f timing.think ++ timing.after)) (λ m. gap_after m (await_of f timing.think ++ timing.after)) tail xs)
    (sym c.raise_to-then-timing-ne0.ensures)
    (subst (λ (xs : List Await). AreRaised old (IsAwaited (xs ++ timing.after)) (λ m. gap_after m (xs ++ timing.after)) tail
    (set c.loop-k.tails (f - 1) (max (tail_of c.loop-k.tails f) most))) (sym (awaits_one f timing.think c.if-timing-ne0.true)) more)

pub returns-else-timing-ne0 : goal.returns-else-timing-ne0
returns-else-timing-ne0 c =
    let timing = c.args.timing.now in
    subst (λ (xs : List Await). AreRaised c.args.tails.now (IsAwaited (xs ++ timing.after)) (λ m. gap_after m (xs ++ timing.after)) c.args.tail c.loop-k.tails)
    (sym (awaits_none timing.follows timing.think c.if-timing-ne0.false)) (raised_all (goal.at.returns-else-timing-ne0 c).After-loop-k)
