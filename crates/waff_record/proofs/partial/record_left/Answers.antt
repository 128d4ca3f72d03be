use Rattle.std.proofs.Common.{arith}
use Rattle.waff_line.specs.Turns.{course_by}
use Rattle.waff_plan.proofs.TimingLemmas.{length-timings_of}
use Rattle.waff_record.proofs.LeftRuns.{turns_reached}
use Rattle.waff_record.proofs.Stopped.{whole_of}
use Rattle.waff_record.proofs.partial.record_left.Goals as goal

pub numbers_left-requires : goal.numbers_left-requires
numbers_left-requires g c =
    let run = c.args.run.now in
    let many = turns_reached (course_by (whole_of run) run.workers run.tick) run.turns.now c.requires.reached in
    record { few = omega (arith, many, length-timings_of run.whole.now.trace.messages, c.len-messages.ensures.count, c.len-messages.ensures.few) }
