-- More than k run where more than k of those that have started have not finished.
use Rattle.waff_check.proofs.TickLaws.{crowded-by-ticks}
use Rattle.waff_check.proofs.ticks.Ticks.is_crowded.Goals as goal

pub returns : goal.returns
returns c = λ work start are.
    let ticks = c.args.self.now in
    rw (c.passed_by-finished.ensures.count, c.passed_by.ensures.count, c.as_slice.ensures.value, c.as_slice-2.ensures.value)
    (crowded-by-ticks work start c.args.tick ticks.starts.items ticks.finishes.items c.args.k are)
