use Rattle.waff_locks.proofs.figures.length_for.Goals as goal

pub returns : goal.returns
returns c =
    let timings = c.in_ok-made.ensures.timings in (
      c.in_ok-made.made.plan.starts,
      rw (timings, c.number.ensures.number) at c.in_ok-made.ensures.follows,
      rw (c.plan.ensures.plan, timings) at c.length-length.ensures.length,
    )
