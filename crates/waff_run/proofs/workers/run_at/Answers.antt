use Rattle.std.proofs.Common.{subst}
use Rattle.waff_assign.specs.Case.{instance_of}
use Rattle.waff_line.specs.Machine.{Course, IsCourse}
use Rattle.waff_plan.proofs.TimingLemmas.{are_timings}
use Rattle.waff_record.proofs.Ended.{is_course_by}
use Rattle.waff_run.proofs.workers.run_at.Goals as goal

pub ended-requires-after_bounds : goal.ended-requires-after_bounds
ended-requires-after_bounds g c κs within =
    subst (λ (course : Course). IsCourse course) c.requires.course
    (is_course_by (instance_of c.args.case) c.args.pace.workers c.args.pace.tick (are_timings c.args.case.trace.now c.len-messages.ensures.trace) c.args.case.lengths
    c.args.pace.staffed.from)
