-- What a message awaits is the one that it follows, and those of its list.
use Rattle.std.proofs.Common.{◌≢◌, ◌<◌, List, length, arith, inl, inr, sym, ◌∙◌, ap, subst}
use Rattle.std.specs.List.{AllPairs}
use Rattle.std.proofs.lemmas.Bool.{eq-eqb}
use Rattle.waff_plan.specs.Timing.{await_of, timing_of}
use Rattle.waff_plan.specs.Work.{Await, IsAmongFirst, IsAwaited}
use Rattle.waff_plan.specs.declared.timing.Timing.{Timing}
use Rattle.waff_plan.proofs.AwaitLemmas.{awaited_either, awaited_left, awaited_right}
use Rattle.waff_plan.proofs.FollowLemmas.{awaited_is, awaits_it}
use Rattle.waff_check.proofs.ListLaws.{list_rises}
use Rattle.waff_check.proofs.links.is_awaited.Goals as goal

pub is_listed-requires : goal.is_listed-requires
is_listed-requires c =
    let planned = c.args.planned.now in
    let j = c.args.j in
    let number = subst (λ (ts : List Timing). IsAmongFirst (length ts) j) planned.timings c.requires.second in
    record {
      rising = subst (AllPairs (λ (a b : Await). a.message < b.message))
          (sym (c.after.ensures.after ∙ ap (λ ts. (timing_of ts j).after) planned.timings))
          (list_rises planned.case.trace.now c.len-messages.ensures.trace j number);
    }

pub returns-then-follows-i : goal.returns-then-follows-i
returns-then-follows-i c =
    let i = c.args.i in
    let timing = timing_of c.args.planned.now.plan.now.timings c.args.j in
    let some : i ≢ 0 = omega (arith, c.requires.first) in (
      λ t. awaited_left (await_of timing.follows timing.think) timing.after i
          (subst (λ f. IsAwaited (await_of f timing.think) i) (sym c.if-follows-i.true ∙ c.follows.ensures.follows) (awaits_it i timing.think some)),
      λ awaited. eq-eqb _ _ c.if-follows-i.true,
    )

pub returns-else-follows-i : goal.returns-else-follows-i
returns-else-follows-i c =
    let i = c.args.i in
    let timing = timing_of c.args.planned.now.plan.now.timings c.args.j in
    let own = await_of timing.follows timing.think in (
      λ t. awaited_right own timing.after i (subst (λ xs. IsAwaited xs i) c.after.ensures.after (c.is_listed.ensures.0 t)),
      λ awaited. elim (awaited_either own timing.after i awaited) [
        | inl client ↦ absurd (c.if-follows-i.false (c.follows.ensures.follows ∙ awaited_is timing.follows timing.think i client))
        | inr listed ↦ c.is_listed.ensures.1 (subst (λ xs. IsAwaited xs i) (sym c.after.ensures.after) listed)
      ],
    )
