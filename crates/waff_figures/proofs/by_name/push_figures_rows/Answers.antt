use Rattle.std.proofs.Common.{◌≡◌, ◌++◌, string_bytes, get_or, subst}
use Rattle.waff_plan_text.specs.Lines.{line_text}
use Rattle.waff_figures.specs.ByName.{named_row, tallied_name_figures_row}
use Rattle.waff_figures.specs.Parts.{no_part, part_fields}
use Rattle.waff_figures.specs.Tally.{no_tally}
use Rattle.waff_figures.proofs.LineLemmas.{rows_from_zero}
use Rattle.waff_figures.proofs.by_name.push_figures_rows.Goals as goal

pub loop-place-preserved : goal.loop-place-preserved
loop-place-preserved c =
    let tallies = c.args.tallies.now in
    let parts = c.args.parts.now in
    let place = c.loop-place.place in
    rows_from_zero (tallied_name_figures_row c.args.names.now c.args.plan_length tallies parts) place
    (string_bytes c.args.text.now) (string_bytes c.loop-place.text) (string_bytes c.push_figures_row.new.text) c.loop-place.invariant
    (subst (λ x. string_bytes c.push_figures_row.new.text ≡ string_bytes c.loop-place.text
    ++ line_text (named_row x (get_or tallies place no_tally) ++ part_fields c.args.plan_length (get_or tallies place no_tally) (get_or parts place no_part)))
    c.name.ensures c.in_ok-push_figures_row.ensures)
