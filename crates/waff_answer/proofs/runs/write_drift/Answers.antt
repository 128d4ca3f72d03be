use Rattle.waff_answer.proofs.runs.write_drift.Goals as goal

pub returns : goal.returns
returns g c = rw (c.format.ensures.text) at c.write_pieces.ensures
