use Rattle.std.proofs.Common.{◌∙◌}
use Rattle.waff_assign.specs.Case.{instance_of}
use Rattle.waff_tool.proofs.draws.picture_on.Goals as goal

pub pictured-requires : goal.pictured-requires
pictured-requires c = record { rows = c.in_ok-given.ensures.messages ∙ c.len.ensures.count }

pub returns-clause-made : goal.returns-clause-made
returns-clause-made c hierarchy trace accepts = record {
  instance = instance_of c.args.case.now;
  given = c.in_ok-given.given;
  accepts = record { accepts = accepts; is_plan = rw (c.version.ensures, c.len.ensures.count) at c.in_ok-given.ensures.exact };
  drawn = c.in_ok-text.ensures;
}
