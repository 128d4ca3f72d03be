use Rattle.std.proofs.Common.{◌-◌, arith}
use Rattle.waff_plan.specs.Timetable.{no_message}
use Rattle.waff_plan.proofs.TimingLemmas.{awaits_client}
use Rattle.waff_plan.proofs.issue_laws.no_lists_add_nothing.Goals as goal

pub returns : goal.returns
returns c = λ messages none. awaits_client messages (λ m number. none (m - 1) no_message (omega (arith, number.from, number.to)))
