use Rattle.std.proofs.Common.{subst, sym, ◌≤◌}
use Rattle.waff_assign.specs.Case.{instance_of}
use Rattle.waff_plan.specs.Timing.{timing_of}
use Rattle.waff_check.specs.Verdicts.{claim_of, start_in}
use Rattle.waff_check.specs.declared.verdict.Verdict.TheVariants as verdict
use Rattle.waff_explain.proofs.NamedMessages.{follows_one, found_as, is_named, listed_is_named, pair_is_named}
use Rattle.waff_explain.proofs.verdicts.push_finding.Goals as goal

pub push_overlap-requires-clause-first : goal.push_overlap-requires-clause-first
push_overlap-requires-clause-first c =
    let hearing = c.args.hearing.now in
    let claim = claim_of (instance_of hearing.case) hearing.given.now in
    (pair_is_named claim c.in-Overlap.first c.in-Overlap.second hearing.case.lengths
    (found_as claim _ (verdict.Overlap c.in-Overlap.first c.in-Overlap.second) c.in-Overlap.is c.requires).least_second.holds).0

pub push_overlap-requires-clause-second : goal.push_overlap-requires-clause-second
push_overlap-requires-clause-second c =
    let hearing = c.args.hearing.now in
    let claim = claim_of (instance_of hearing.case) hearing.given.now in
    (pair_is_named claim c.in-Overlap.first c.in-Overlap.second hearing.case.lengths
    (found_as claim _ (verdict.Overlap c.in-Overlap.first c.in-Overlap.second) c.in-Overlap.is c.requires).least_second.holds).1

pub push_worker-requires : goal.push_worker-requires
push_worker-requires c =
    let hearing = c.args.hearing.now in
    let claim = claim_of (instance_of hearing.case) hearing.given.now in
    is_named hearing.case.trace.now.messages c.in-Worker.message
    (found_as claim _ (verdict.Worker c.in-Worker.message) c.in-Worker.is c.requires).holds.number

pub push_affinity-requires : goal.push_affinity-requires
push_affinity-requires c =
    let hearing = c.args.hearing.now in
    let claim = claim_of (instance_of hearing.case) hearing.given.now in
    is_named hearing.case.trace.now.messages c.in-Affinity.message
    (found_as claim _ (verdict.Affinity c.in-Affinity.message) c.in-Affinity.is c.requires).holds.number

pub push_finish-requires : goal.push_finish-requires
push_finish-requires c =
    let hearing = c.args.hearing.now in
    let claim = claim_of (instance_of hearing.case) hearing.given.now in
    is_named hearing.case.trace.now.messages c.in-Finish.message
    (found_as claim _ (verdict.Finish c.in-Finish.message) c.in-Finish.is c.requires).holds.number

pub push_no_link-requires-clause-from : goal.push_no_link-requires-clause-from
push_no_link-requires-clause-from c =
    let hearing = c.args.hearing.now in
    let claim = claim_of (instance_of hearing.case) hearing.given.now in
    (found_as claim _ (verdict.NotAChain c.in-NotAChain.place) c.in-NotAChain.is c.requires).holds.from

pub push_no_link-requires-clause-to : goal.push_no_link-requires-clause-to
push_no_link-requires-clause-to c =
    let hearing = c.args.hearing.now in
    let claim = claim_of (instance_of hearing.case) hearing.given.now in
    (found_as claim _ (verdict.NotAChain c.in-NotAChain.place) c.in-NotAChain.is c.requires).holds.to

pub push_early-requires : goal.push_early-requires
push_early-requires c =
    let hearing = c.args.hearing.now in
    let claim = claim_of (instance_of hearing.case) hearing.given.now in
    is_named hearing.case.trace.now.messages c.in-Early.message
    (found_as claim _ (verdict.Early c.in-Early.message) c.in-Early.is c.requires).holds.number

pub push_client-requires-clause-number : goal.push_client-requires-clause-number
push_client-requires-clause-number c =
    let hearing = c.args.hearing.now in
    let claim = claim_of (instance_of hearing.case) hearing.given.now in
    is_named hearing.case.trace.now.messages c.in-Client.message
    (found_as claim _ (verdict.Client c.in-Client.message) c.in-Client.is c.requires).holds.held.number

pub push_client-requires-clause-follows : goal.push_client-requires-clause-follows
push_client-requires-clause-follows c =
    let hearing = c.args.hearing.now in
    let claim = claim_of (instance_of hearing.case) hearing.given.now in
    subst (λ timings. 1 ≤ (timing_of timings c.in-Client.message).follows) (sym hearing.timings)
    (follows_one hearing.case.trace.now.messages (start_in claim) c.in-Client.message
    (found_as claim _ (verdict.Client c.in-Client.message) c.in-Client.is c.requires).holds)

pub push_after-requires-clause-number : goal.push_after-requires-clause-number
push_after-requires-clause-number c =
    let hearing = c.args.hearing.now in
    let claim = claim_of (instance_of hearing.case) hearing.given.now in
    is_named hearing.case.trace.now.messages c.in-After.message
    (found_as claim _ (verdict.After c.in-After.message c.in-After.awaited) c.in-After.is c.requires).least_second.holds.number

pub push_after-requires-clause-awaited : goal.push_after-requires-clause-awaited
push_after-requires-clause-awaited c =
    let hearing = c.args.hearing.now in
    let claim = claim_of (instance_of hearing.case) hearing.given.now in
    listed_is_named hearing.case.trace.now c.len-messages.ensures.trace (start_in claim) c.in-After.message c.in-After.awaited
    (found_as claim _ (verdict.After c.in-After.message c.in-After.awaited) c.in-After.is c.requires).least_second.holds
