use Rattle.std.proofs.Common.{◌≡◌, ◌∷◌, ◌++◌, rules, ℕ, ◌+◌, List, length, get_or, map, string_bytes, arith, ◌∙◌, ap}
use Rattle.std.specs.List.{range_with_len}
use Rattle.std.proofs.lemmas.List.{get_or_default}
use Rattle.waff_plan.specs.Timetable.{starts_in, work_in}
use Rattle.waff_plan.specs.Work.{length_of}
use Rattle.waff_plan_text.specs.Lines.{text_of}
use Rattle.waff_figures.specs.ByAffinity.{affinities_header, none_figures_row, row_where, tallied_figures_row}
use Rattle.waff_figures.specs.Parts.{no_part, part_names}
use Rattle.waff_figures.specs.Tally.{is_in, no_tally}
use Rattle.waff_figures.specs.declared.parts.PartFigures.{PartFigures}
use Rattle.waff_figures.specs.declared.tally.Tally.{Tally}
use Rattle.waff_figures.proofs.LineLemmas.{first_and_rows}
use Rattle.waff_figures.proofs.PartRows.{placed_parts}
use Rattle.waff_figures.proofs.by_affinity.figures_text.Goals as goal

pub returns : goal.returns
returns c =
    let tree = c.args.tree.now in
    let plan = c.args.grouped.now.plan.now in
    let tallies = c.args.tallies.now in
    let parts = c.in_ok-parts.parts.items in
    let lines = range_with_len 0 (length tree) in
    let header = affinities_header ++ part_names in
    let long = length_of (work_in plan) (starts_in plan) in
    let found = c.index.result.now in
    let count : length parts ≡ length tree + 1 = c.in_ok-parts.ensures.count ∙ c.requires.count in
    let part : found ≡ get_or parts (length tree) no_part
    = c.index.ensures ∙ get_or_default parts c.len-none.result found no_part (omega (arith, count, c.len-none.ensures.count))
    ∙ ap (λ n. get_or parts n no_part) c.len-none.ensures.count in
    let rows : ℕ → List PartFigures → List (List (List ℕ)) = λ l ps. map (tallied_figures_row tree l tallies c.args.below.now ps) lines in
    let none : ℕ → Tally → PartFigures → List (List (List ℕ)) = λ l t p. row_where c.args.has_locks (none_figures_row l t p) in
    let last = none long (get_or tallies (length tree) no_tally) (get_or parts (length tree) no_part) in
    let before = string_bytes c.push_figures_rows.new.text in (
      parts,
      placed_parts (work_in plan) (starts_in plan) (is_in c.args.grouped.now.groups.now) (length tree + 1) parts count
          (λ g low. c.in_ok-parts.ensures.each g (omega (arith, low, c.requires.count))),
      first_and_rows header (rows c.length-plan_length.result c.as_slice.result.now) last (string_bytes c.push_figures_header.new.text) before
          (string_bytes c.push_no_figures.new.text) (search rules) c.in_ok-push_figures_rows.ensures
          (c.in_ok-push_no_figures.ensures
          ∙ ap (λ l. before ++ text_of (none l (get_or tallies c.len-none.result no_tally) found)) c.length-plan_length.ensures.length
          ∙ ap (λ n. before ++ text_of (none long (get_or tallies n no_tally) found)) c.len-none.ensures.count
          ∙ ap (λ p. before ++ text_of (none long (get_or tallies (length tree) no_tally) p)) part)
          ∙ ap (λ ps. text_of (header ∷ rows c.length-plan_length.result ps ++ last)) c.as_slice.ensures.value
          ∙ ap (λ l. text_of (header ∷ rows l parts ++ last)) c.length-plan_length.ensures.length,
    )
