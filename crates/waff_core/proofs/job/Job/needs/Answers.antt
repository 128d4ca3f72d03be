use Rattle.std.proofs.Common.{rules, subst, arith}
use Rattle.waff_core.specs.Job.{IsJob}
use Rattle.waff_core.proofs.Reading.{needs_earlier}
use Rattle.waff_core.proofs.job.Job.needs.Goals as goal

pub returns-clause-earlier : goal.returns-clause-earlier
returns-clause-earlier c =
    needs_earlier c.args.self.now (subst IsJob c.self.view_is c.self.invariant) c.args.n c.requires.number.from c.of.result.now (search rules)

pub returns-clause-known : goal.returns-clause-known
returns-clause-known c = λ k d within.
    let earlier = returns-clause-earlier c k d within in
    let to = c.requires.number.to in
    record { from = earlier.0; to = omega (arith, earlier.1, to) }
