use Rattle.std.proofs.Common.{refl}
use Rattle.waff_cells.specs.Serial.{operations}
use Rattle.waff_core.proofs.Making.{job_of}
use Rattle.waff_core.proofs.job.Job.new.Goals as goal

pub invariant_of-result : goal.invariant_of-result
invariant_of-result c =
    let made = c.in-Ok.ensures.parts in
    rw (made.kept, made.copied)
    (job_of c.args.layout c.args.trace c.args.assigned c.args.needs c.args.order.now (operations c.args.trace.messages) c.in-Ok.owners
    made.is_layout made.is_trace c.requires.fits c.requires.unlocked c.requires.assignment c.requires.known
    c.requires.needs c.in-Ok.ensures.order refl made.are_owners)

pub returns-in-Ok-clause-kept : goal.returns-in-Ok-clause-kept
returns-in-Ok-clause-kept c = record {
  layout_kept = c.in-Ok.ensures.parts.kept;
  ops_kept = refl;
  assigned_kept = refl;
  needs_kept = refl;
  order_kept = c.in-Ok.ensures.parts.copied;
}

pub returns-in-Ok-clause-job : goal.returns-in-Ok-clause-job
returns-in-Ok-clause-job c =
    let made = c.in-Ok.ensures.parts in
    rw (made.kept, made.copied)
    (job_of c.args.layout c.args.trace c.args.assigned c.args.needs c.args.order.now (operations c.args.trace.messages) c.in-Ok.owners
    made.is_layout made.is_trace c.requires.fits c.requires.unlocked c.requires.assignment c.requires.known
    c.requires.needs c.in-Ok.ensures.order refl made.are_owners)
