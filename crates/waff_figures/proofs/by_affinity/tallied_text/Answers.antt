use Rattle.std.proofs.Common.{rules, length, map, ◌++◌, get_or, string_bytes, ap, ◌∙◌}
use Rattle.std.specs.List.{range_with_len}
use Rattle.waff_plan_text.specs.Lines.{text_of}
use Rattle.waff_figures.specs.ByAffinity.{affinities_header, none_row, row_where, tallied_row}
use Rattle.waff_figures.specs.Tally.{no_tally}
use Rattle.waff_figures.proofs.LineLemmas.{first_and_rows}
use Rattle.waff_figures.proofs.by_affinity.tallied_text.Goals as goal

pub returns : goal.returns
returns c =
    let tree = c.args.tree.now in
    let tallies = c.args.tallies.now in
    let rows = string_bytes c.push_rows.new.text in
    first_and_rows affinities_header (map (tallied_row tree tallies c.args.below.now) (range_with_len 0 (length tree)))
    (row_where c.args.has_locks (none_row (get_or tallies (length tree) no_tally))) (string_bytes c.push_str.new.self) rows (string_bytes c.push_none.new.text)
    (search rules) c.in_ok-push_rows.ensures
    (c.in_ok-push_none.ensures ∙ ap (λ n. rows ++ text_of (row_where c.args.has_locks (none_row (get_or tallies n no_tally)))) c.len.ensures.count)
