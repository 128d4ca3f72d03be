use Rattle.waff_assign.specs.Case.{instance_of}
use Rattle.waff_line.specs.Turns.{course_by}
use Rattle.waff_run.specs.Hands.{asking_of}
use Rattle.waff_run.proofs.workers.run.Given as goal

abbrev pub ghosts-run_at : goal.ghosts-run_at
ghosts-run_at g a = record {
  course = course_by (instance_of a.case) a.pace.workers a.pace.tick;
  asking = asking_of a.places.now a.case.trace.now.messages a.syncs.now;
}
