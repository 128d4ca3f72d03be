use Rattle.std.proofs.Common.{sym, ◌∙◌}
use Rattle.waff_model.proofs.SpaceLemmas.{spaces_pass, same_pass}
use Rattle.waff_model.proofs.layout.are_same.Goals as goal

pub returns-then-spaces-others : goal.returns-then-spaces-others
returns-then-spaces-others c = (
  λ pass. spaces_pass c.args.spaces.now c.args.others.now (cc) (sym c.each_is_same.ensures ∙ pass),
  λ same. c.each_is_same.ensures ∙ (same_pass c.args.spaces.now c.args.others.now same).1,
)
