use Rattle.std.proofs.Common.{sym, ◌∙◌}
use Rattle.waff_model.proofs.TraceLemmas.{sizes_pass, sizes_of-pass}
use Rattle.waff_model.proofs.trace.have_sizes.Goals as goal

pub returns-then-sizes-spaces : goal.returns-then-sizes-spaces
returns-then-sizes-spaces c = (
  λ pass. sizes_pass c.args.sizes.now c.args.spaces.now (cc) (sym c.each_has_size.ensures ∙ pass),
  λ same. rw (c.each_has_size.ensures, same) (sizes_of-pass c.args.spaces.now),
)
