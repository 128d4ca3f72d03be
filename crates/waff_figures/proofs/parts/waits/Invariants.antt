use Rattle.std.proofs.Common.{◌≡◌, ◌*◌, ◌≤◌, take}
use Rattle.waff_model.specs.declared.limits.TheConstants.{MAX_TICK}
use Rattle.waff_plan.specs.Timetable.{starts_in, work_in}
use Rattle.waff_figures.specs.Figures.{waits_among}
use Rattle.waff_figures.proofs.parts.waits.Given as goal

abbrev pub invariant-loop-message : goal.invariant-loop-message
invariant-loop-message l = record {
  sum : l.waits ≡ waits_among (work_in l.plan) (starts_in l.plan) (take l.message-index l.messages);
  small : l.waits ≤ MAX_TICK * l.message-index;
}
