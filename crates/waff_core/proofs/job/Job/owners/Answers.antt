use Rattle.std.proofs.Common.{rules, subst}
use Rattle.waff_core.specs.Job.{IsJob}
use Rattle.waff_core.proofs.Reading.{owners_known}
use Rattle.waff_core.proofs.job.Job.owners.Goals as goal

pub returns-clause-known : goal.returns-clause-known
returns-clause-known c =
    owners_known c.args.self.now (subst IsJob c.self.view_is c.self.invariant) c.args.n c.requires.number c.of.result.now (search rules)
