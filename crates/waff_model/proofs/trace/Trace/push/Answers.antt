use Rattle.std.proofs.Common.{◌+◌, ◌<◌, ◌≤◌, length, subst, sym}
use Rattle.waff_model.specs.declared.limits.TheConstants.{MAX_ALL_OPS, MAX_AWAITED}
use Rattle.waff_model.specs.Awaits.{IsList, awaited_in}
use Rattle.waff_model.specs.Messages.{Arrivals, IsMessage, ops_in}
use Rattle.waff_model.specs.Versions.{max_messages}
use Rattle.waff_model.proofs.TraceLemmas.{is_trace-push}
use Rattle.waff_model.proofs.trace.Trace.push.Goals as goal

pub invariant_of-self-2 : goal.invariant_of-self-2
invariant_of-self-2 c =
    let here = sym c.self.view_is in
    rw c.in_ok-push.ensures.pushed (is_trace-push _ c.args.message c.self.invariant
    (subst (λ (t : Arrivals). IsMessage t.version t.sizes c.args.message) here c.requires.message)
    (subst (λ (t : Arrivals). length t.messages < max_messages t.version) here c.requires.room)
    (subst (λ (t : Arrivals). ops_in t.messages + length c.args.message.ops ≤ MAX_ALL_OPS) here c.requires.few_ops)
    (subst (λ (t : Arrivals). IsList (length t.messages + 1) c.args.message.after) here c.requires.list)
    (subst (λ (t : Arrivals). awaited_in t.messages + length c.args.message.after ≤ MAX_AWAITED) here c.requires.few_awaited))
