use Rattle.std.proofs.Common.{rules, length, map, string_bytes}
use Rattle.std.specs.List.{range_with_len}
use Rattle.waff_figures.specs.ByName.{label_header, tallied_name_row}
use Rattle.waff_figures.proofs.LineLemmas.{two_parts}
use Rattle.waff_figures.proofs.by_name.tallied_text.Goals as goal

pub returns : goal.returns
returns c =
    let names = c.args.names.now in
    two_parts (label_header c.args.label) (map (tallied_name_row names c.args.tallies.now) (range_with_len 0 (length names)))
    (string_bytes c.push_header.new.text) (string_bytes c.push_rows.new.text) (search rules) c.in_ok-push_rows.ensures
