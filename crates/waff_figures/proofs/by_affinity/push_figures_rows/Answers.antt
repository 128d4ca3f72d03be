use Rattle.std.proofs.Common.{string_bytes}
use Rattle.waff_figures.specs.ByAffinity.{tallied_figures_row}
use Rattle.waff_figures.proofs.LineLemmas.{rows_from_zero}
use Rattle.waff_figures.proofs.by_affinity.push_figures_rows.Goals as goal

pub loop-a-preserved : goal.loop-a-preserved
loop-a-preserved c =
    rows_from_zero (tallied_figures_row c.args.tree.now c.args.plan_length c.args.tallies.now c.args.below.now c.args.parts.now) c.loop-a.a
    (string_bytes c.args.text.now) (string_bytes c.loop-a.text) (string_bytes c.push_figures_row.new.text) c.loop-a.invariant
    (rw (c.name-name.ensures, c.parent_name-parent.ensures) at c.in_ok-push_figures_row.ensures)
