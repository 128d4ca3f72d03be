use Rattle.std.proofs.Common.{rules, map, string_bytes}
use Rattle.waff_figures.specs.Sweep.{sweep_header, sweep_row}
use Rattle.waff_figures.proofs.LineLemmas.{three_parts}
use Rattle.waff_figures.proofs.sweep.figures_text.Goals as goal

pub returns : goal.returns
returns c =
    three_parts sweep_header (map sweep_row c.args.listed.now) (sweep_row c.args.unlimited.now)
    (string_bytes c.push_header.new.text) (string_bytes c.push_rows.new.text) (string_bytes c.push_row.new.text)
    (search rules) c.in_ok-push_rows.ensures c.in_ok-push_row.ensures
