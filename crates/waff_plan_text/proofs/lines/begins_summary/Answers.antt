-- The first field of a record, by its place.
use Rattle.std.proofs.Common.{sym, ◌∙◌}
use Rattle.csv.specs.Records.{fields_of}
use Rattle.waff_plan_text.proofs.LineLaws.{begins-none, begins-some}
use Rattle.waff_plan_text.proofs.lines.begins_summary.Goals as goal

pub returns-in-Some : goal.returns-in-Some
returns-in-Some c = c.eq.ensures ∙ sym (begins-some (fields_of c.args.row.now) c.in-Some.first.now c.in-Some.ensures.value)

pub returns-in-None : goal.returns-in-None
returns-in-None c = begins-none (fields_of c.args.row.now) c.in-None.ensures.value
