-- The messages of both parts are those of the whole.
use Rattle.waff_read.specs.Traces.{Spells}
use Rattle.waff_read.proofs.HalfLaws.{some-has, spells-both}
use Rattle.waff_read.proofs.halves.+halves.Goals as goal

pub returns-clause-messages : goal.returns-clause-messages
returns-clause-messages g t c =
    let is = c.if-not-is_behind.false in
    spells-both c.args.version c.args.spaces.now c.args.at c.number_behind-behind.result c.args.text.now c.in_ok-first.first.now c.in_ok-first.second.now c.in_ok-first-2.first.list c.in_ok-second.second.list c.joined.result
    c.in_ok-first.ensures.records
    (some-has (λ read. Spells c.args.version c.args.spaces.now c.args.at c.in_ok-first.first.now read.list) c.join-first.result.0 c.in_ok-first-2.first c.in_ok-first-2.was c.join-first.ensures.first.0)
    (some-has (λ read. Spells c.args.version c.args.spaces.now c.number_behind-behind.result c.in_ok-first.second.now read.list) c.join-first.result.1 c.in_ok-second.second c.in_ok-second.was c.join-first.ensures.second.0)
    (c.is_behind.ensures.number is) (c.is_behind.ensures.few is)
    c.joined.ensures.both c.joined.ensures.few_ops c.joined.ensures.few_awaited
