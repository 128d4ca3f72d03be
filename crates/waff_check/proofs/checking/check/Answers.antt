-- What follows from the verdict.
use Rattle.std.proofs.lemmas.Result.{IfOk-weaker}
use Rattle.waff_check.specs.Promises.{Promises}
use Rattle.waff_check.specs.Claimed.{claim_under}
use Rattle.waff_check.specs.Verdicts.{IsVerdict}
use Rattle.waff_plan.proofs.TimingLemmas.{are_timings}
use Rattle.waff_check.proofs.PromiseLaws.{promises}
use Rattle.waff_check.proofs.ServedLaws.{all_run}
use Rattle.waff_check.proofs.checking.check.Goals as goal

pub returns : goal.returns
returns g c =
    let claim = claim_under c.args.tree.now c.args.assigned.now c.args.trace.now c.args.given.now in
    let is_trace = c.len-messages.ensures.trace in
    let run = all_run c.args.trace.now is_trace c.args.assigned.now c.requires.claim.lengths in
    let earlier = (are_timings c.args.trace.now is_trace).earlier in
    record {
      verdict = c.find.ensures;
      promises = IfOk-weaker c.find.result (IsVerdict claim) (Promises claim)
          (promises claim c.requires.claim run earlier c.len-affinities.ensures.tree c.len-rows.ensures.given) c.find.ensures;
    }
