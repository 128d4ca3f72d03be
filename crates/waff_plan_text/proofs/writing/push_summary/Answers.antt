-- At first all lines are to come.
use Rattle.std.proofs.Common.{refl}
use Rattle.waff_plan_text.specs.Spelling.{summary_lines}
use Rattle.waff_plan_text.proofs.writing.push_summary.Goals as goal

pub loop-line-init : goal.loop-line-init
unfolding summary_lines
loop-line-init c = rw c.all_lines-lines.ensures refl
