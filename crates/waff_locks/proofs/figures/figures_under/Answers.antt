use Rattle.std.proofs.Common.{List, subst}
use Rattle.std.proofs.lemmas.Result.{IfOk-weaker}
use Rattle.waff_model.specs.Tree.{Node}
use Rattle.waff_locks.specs.Sets.{AreFigures}
use Rattle.waff_locks.specs.declared.figures.SetFigures.{SetFigures}
use Rattle.waff_locks.proofs.figures.figures_under.Goals as goal

pub returns : goal.returns
returns c =
    IfOk-weaker c.figures_of-figures.result _ _
    (λ (figures : SetFigures) are. record {
      assigned = c.in_ok-assigned.assigned;
      assignment = c.in_ok-assigned.ensures.assignment;
      are = subst (λ (tree : List Node). AreFigures c.args.wanted.now (record { tree = tree; assigned = c.in_ok-assigned.assigned; trace = c.args.trace.now }) figures)
          c.tree.ensures are;
    })
    c.figures_of-figures.ensures
