use Rattle.waff_tool.proofs.sweeps.swept_text.Goals as goal

pub returns : goal.returns
returns g c = rw (c.numbers_or.ensures, c.as_slice.ensures.value, c.in_ok-usual.ensures) at c.text_for-text.ensures
