use Rattle.std.proofs.Common.{[], ◌∷◌, ◌++◌, ◌∙◌, ap₂, arith}
use Rattle.waff_run.specs.Texts.{syncs_by}
use Rattle.waff_run.proofs.Listing.{mapped_more}
use Rattle.waff_run.proofs.running.syncs_of.Goals as goal

pub loop-m-preserved : goal.loop-m-preserved
loop-m-preserved c =
    c.in_ok-push.ensures.items
    ∙ ap₂ (λ front which. front ++ which ∷ []) c.loop-m.invariant c.syncs_at.ensures
    ∙ mapped_more (syncs_by c.args.settings.now) c.args.trace.now.messages c.loop-m.m c.message.result.now (omega (arith, c.loop-m.auto.m))
    c.message.ensures.message
