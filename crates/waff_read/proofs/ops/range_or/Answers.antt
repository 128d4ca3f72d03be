-- A piece that is no operation is a range where it is misspelled as one and messages have clients.
use Rattle.std.proofs.Common.{◌≡◌, ◌∙◌, Err, sym, ap, arith}
use Rattle.waff_read.specs.declared.trace_fault.TraceFault.TheVariants as fault
use Rattle.waff_read.proofs.OpsLaws.{is-misspelled, piece-earlier, piece-fault, piece-range}
use Rattle.waff_read.proofs.ops.range_or.Goals as goal

pub returns-then-not-has_clients : goal.returns-then-not-has_clients
returns-then-not-has_clients c =
    piece-earlier c.args.version c.args.spaces.now c.args.piece.now c.args.fault (sym c.has_clients.ensures ∙ c.if-not-has_clients.true) c.requires

pub returns-then-rank : goal.returns-then-rank
returns-then-rank c =
    let same : c.args.fault ≡ fault.Op = is-misspelled c.args.fault (omega (arith, c.rank.ensures, c.rank-2.ensures, c.if-rank.true)) in
    rw c.read_range.ensures (piece-range c.args.version c.args.spaces.now c.args.piece.now (sym c.has_clients.ensures ∙ c.if-not-has_clients.false) (c.requires ∙ ap Err same))

pub returns-else-rank : goal.returns-else-rank
returns-else-rank c =
    piece-fault c.args.version c.args.spaces.now c.args.piece.now c.args.fault (sym c.has_clients.ensures ∙ c.if-not-has_clients.false) c.requires
    (λ number. absurd (omega (arith, number, c.rank.ensures, c.rank-2.ensures, c.if-rank.false)))
