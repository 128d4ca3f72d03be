use Rattle.std.proofs.Common.{◌≡◌, ◌∙◌, true, false, All, get_or, arith, refl, sym, subst}
use Rattle.std.proofs.lemmas.List.{take_all, get_or_read}
use Rattle.std.proofs.lemmas.List.Elements.{All-more}
use Rattle.waff_core.specs.Shown.{marked}
use Rattle.waff_core.proofs.steps.Machine.are_done.Goals as goal

pub loop-at-preserved : goal.loop-at-preserved
loop-at-preserved c =
    All-more (λ n. marked c.args.self.now.done.items n ≡ true) c.args.messages.now c.loop-at.at 0 c.loop-at-test.true c.loop-at.invariant
    (sym (get_or_read c.args.self.now.done.items (get_or c.args.messages.now c.loop-at.at 0) c.index.result.now (c.requires c.loop-at.at 0 c.loop-at-test.true) c.index.ensures false) ∙ c.if-not-index.false)

pub returns : goal.returns
returns c =
    let whole = take_all c.loop-at.at c.args.messages.now (omega arith) in
    (λ is. subst (All (λ n. marked c.args.self.now.done.items n ≡ true)) whole c.loop-at.invariant, λ all. refl)
