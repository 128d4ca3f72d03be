use Rattle.std.proofs.Common.{◌≡◌, ◌++◌, string_bytes, get_or, subst}
use Rattle.waff_plan_text.specs.Lines.{line_text}
use Rattle.waff_figures.specs.ByName.{named_row, tallied_name_row}
use Rattle.waff_figures.specs.Tally.{no_tally}
use Rattle.waff_figures.proofs.LineLemmas.{rows_from_zero}
use Rattle.waff_figures.proofs.by_name.push_rows.Goals as goal

pub loop-place-preserved : goal.loop-place-preserved
loop-place-preserved c =
    let tallies = c.args.tallies.now in
    let place = c.loop-place.place in
    rows_from_zero (tallied_name_row c.args.names.now tallies) place
    (string_bytes c.args.text.now) (string_bytes c.loop-place.text) (string_bytes c.push_row.new.text) c.loop-place.invariant
    (subst (λ x. string_bytes c.push_row.new.text ≡ string_bytes c.loop-place.text ++ line_text (named_row x (get_or tallies place no_tally)))
    c.name.ensures c.in_ok-push_row.ensures)
