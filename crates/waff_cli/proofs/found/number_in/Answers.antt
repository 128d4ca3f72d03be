use Rattle.std.proofs.Common.{rules}
use Rattle.std.specs.Str.Parse.{ExplainsUnsignedError, HasUnsignedDigitsIfOk}
use Rattle.clap.specs.Words.{found_of}
use Rattle.waff_cli.proofs.Rows.{none_in, number_is}
use Rattle.waff_cli.proofs.found.number_in.Goals as goal

pub returns-then-not-contains_id : goal.returns-then-not-contains_id
returns-then-not-contains_id c =
    none_in (found_of c.args.matches.now) c.args.id.now (search rules)

pub returns-in-Some : goal.returns-in-Some
returns-in-Some c =
    number_is 32 (λ text read. ExplainsUnsignedError 10 text read) (λ text read. HasUnsignedDigitsIfOk text read) (found_of c.args.matches.now)
    c.args.id.now c.in-Some.number (rw (c.in-Some.is) at c.get_one.ensures.none) (rw (c.in-Some.is) at c.get_one.ensures.value)
