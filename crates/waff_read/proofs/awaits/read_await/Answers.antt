-- A piece is the number before the first `+` and the gap after it.
use Rattle.std.proofs.Common.{option_map}
use Rattle.waff_read.proofs.AwaitLaws.{gap-refused, number-refused, piece-read}
use Rattle.waff_read.proofs.awaits.read_await.Goals as goal

pub returns-in_default : goal.returns-in_default
returns-in_default c =
    number-refused c.args.before c.args.own c.args.piece.now c.cut.result.0.now (option_map (λ s. s.now) c.cut.result.1) c.cut.ensures
    (rw (c.from-low.ensures, c.saturating_sub.ensures, c.from.ensures, c.in_default.is) at c.number_within.ensures.value)

pub returns-in-Ok : goal.returns-in-Ok
returns-in-Ok c =
    piece-read c.args.before c.args.own c.args.piece.now c.cut.result.0.now (option_map (λ s. s.now) c.cut.result.1) c.cut.ensures c.in-Some.message c.in-Ok.gap
    (rw (c.from-low.ensures, c.saturating_sub.ensures, c.from.ensures) at c.in-Some.ensures.value) c.in-Ok.ensures

pub returns-in-Err : goal.returns-in-Err
returns-in-Err c =
    gap-refused c.args.before c.args.own c.args.piece.now c.cut.result.0.now (option_map (λ s. s.now) c.cut.result.1) c.cut.ensures c.in-Some.message c.in-Err.fault
    (rw (c.from-low.ensures, c.saturating_sub.ensures, c.from.ensures) at c.in-Some.ensures.value) c.in-Err.ensures
