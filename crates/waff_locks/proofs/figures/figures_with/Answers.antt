use Rattle.std.proofs.Common.{sym, ◌∙◌, ap, subst}
use Rattle.std.proofs.lemmas.Result.{IfOk-weaker}
use Rattle.waff_model.specs.Layout.{Hierarchy, sizes_of}
use Rattle.waff_model.proofs.Relocking.{sizes_with}
use Rattle.waff_locks.specs.Sets.{AreFiguresUnder}
use Rattle.waff_locks.specs.declared.figures.SetFigures.{SetFigures}
use Rattle.waff_locks.proofs.figures.figures_with.Goals as goal

pub figures_under-figures-requires : goal.figures_under-figures-requires
figures_under-figures-requires c = record {
  fits = c.args.asked.now.fits
      ∙ sym (sizes_with c.args.asked.now.layout.now.spaces c.args.lockings.now)
      ∙ sym (ap (λ (h : Hierarchy). sizes_of h.spaces) c.in_ok-locked.ensures);
}

pub returns : goal.returns
returns c =
    let asked = c.args.asked.now in
    IfOk-weaker c.figures_under-figures.result _ _
    (λ (figures : SetFigures) are. subst (λ (h : Hierarchy). AreFiguresUnder asked.wanted.now h asked.trace.now figures) c.in_ok-locked.ensures are)
    c.figures_under-figures.ensures
