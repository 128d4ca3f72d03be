-- What is left of a run that was stopped is told as a run of it.
use Rattle.std.proofs.Common.{◌≡◌, ℕ, List, Option, refl, subst}
use Rattle.waff_model.specs.Tree.{IsTree}
use Rattle.waff_assign.specs.Case.{instance_of}
use Rattle.waff_assign.specs.Instance.{Instance}
use Rattle.waff_assign.specs.Lowest.{IsAssignment}
use Rattle.waff_assign.specs.declared.case.Case.{Case}
use Rattle.waff_inputs.specs.Inputs.{instance_under}
use Rattle.waff_plan.specs.Timetable.{AreTimings, timings_of}
use Rattle.waff_line.specs.Machine.{Course, IsCourse}
use Rattle.waff_line.specs.Turns.{AreReached, AreRunTurns, course_by}
use Rattle.waff_line.specs.declared.turn.Turn.{Turn}
use Rattle.waff_record.specs.Left.{AreLeft, IsCutDown, IsCutTo, TellLeft, turns_kept}
use Rattle.waff_record.specs.Runs.{AreRunTexts}
use Rattle.waff_record.specs.declared.left.StoppedRun.{StoppedRun}
use Rattle.waff_record.proofs.CutDown.{cut_down, left_among, left_run}
use Rattle.waff_record.proofs.Ended.{is_course_by}
use Rattle.waff_record.proofs.Planned.{AreLaws}

-- of what it is a run
abbrev pub whole_of : StoppedRun → Instance
whole_of run = instance_under run.whole.now.layout run.whole.now.assigned run.whole.now.trace

module _ (run : StoppedRun) (kept : List ℕ) (case : Case) (holds : IsAssignment run.whole.now.layout run.whole.now.trace.messages run.whole.now.assigned)
    (reached : AreReached (course_by (whole_of run) run.workers run.tick) run.turns.now) (left : AreLeft run.turns.now run.tick kept) (cut : IsCutTo run.whole.now.trace kept case.trace.now)
    (tree : case.tree.now ≡ run.whole.now.layout.tree) (is_tree : IsTree case.tree.now)
    (assigned : IsAssignment run.whole.now.layout case.trace.now.messages case.assigned.now)
    (timings : AreTimings case.trace.now.version (timings_of case.trace.now.messages)) (laws : (course : Course) → IsCourse course → AreLaws course) where
  down : IsCutDown (whole_of run) kept (instance_of case)
  down =
      cut_down run.whole.now.layout case.tree.now tree is_tree run.whole.now.trace case.trace.now run.whole.now.assigned case.assigned.now kept cut
      (left_among (whole_of run) run.workers run.tick run.turns.now kept reached left) holds assigned

  course_is : IsCourse (course_by (instance_of case) run.workers run.tick)
  course_is = is_course_by (instance_of case) run.workers run.tick timings case.lengths run.staffed.from

  pub stopped_run : (turns : List Turn) → turns ≡ turns_kept run.turns.now kept → AreRunTurns (course_by (instance_of case) run.workers run.tick) turns
  stopped_run turns same =
      left_run (whole_of run) run.workers run.tick run.turns.now kept (instance_of case) course_is
      (laws (course_by (instance_of case) run.workers run.tick) course_is) timings.earlier reached left down turns same

  pub stopped_told : (hierarchy measured text : List ℕ) (drift : Option ℕ) (turns : List Turn) → turns ≡ turns_kept run.turns.now kept
      → AreRunTexts hierarchy (instance_of case) run.workers run.tick turns measured text drift
      → TellLeft hierarchy (whole_of run) run.workers run.tick run.turns.now measured text drift
  stopped_told hierarchy measured text drift turns same texts = record {
    kept = kept;
    left = left;
    cut = instance_of case;
    is_cut = down;
    run = stopped_run (turns_kept run.turns.now kept) refl;
    texts = subst (λ (ts : List Turn). AreRunTexts hierarchy (instance_of case) run.workers run.tick ts measured text drift) same texts;
  }
