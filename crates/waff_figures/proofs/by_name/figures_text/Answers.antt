use Rattle.std.proofs.Common.{◌∷◌, ◌++◌, rules, ℕ, List, length, map, string_bytes, arith, ◌∙◌, ap}
use Rattle.std.specs.List.{range_with_len}
use Rattle.waff_plan.specs.Timetable.{starts_in, work_in}
use Rattle.waff_plan_text.specs.Lines.{text_of}
use Rattle.waff_figures.specs.ByName.{label_header, tallied_name_figures_row}
use Rattle.waff_figures.specs.Parts.{part_names}
use Rattle.waff_figures.specs.Tally.{is_in}
use Rattle.waff_figures.specs.declared.parts.PartFigures.{PartFigures}
use Rattle.waff_figures.proofs.LineLemmas.{two_parts}
use Rattle.waff_figures.proofs.PartRows.{placed_parts}
use Rattle.waff_figures.proofs.by_name.figures_text.Goals as goal

pub returns : goal.returns
returns c =
    let names = c.args.names.now in
    let plan = c.args.grouped.now.plan.now in
    let parts = c.in_ok-parts.parts.items in
    let lines = range_with_len 0 (length names) in
    let header = label_header c.args.label ++ part_names in
    let rows : ℕ → List PartFigures → List (List (List ℕ)) = λ l ps. map (tallied_name_figures_row names l c.args.tallies.now ps) lines in (
      parts,
      placed_parts (work_in plan) (starts_in plan) (is_in c.args.grouped.now.groups.now) (length names) parts (c.in_ok-parts.ensures.count ∙ c.requires.count)
          (λ g low. c.in_ok-parts.ensures.each g (omega (arith, low, c.requires.count))),
      two_parts header (rows c.length-plan_length.result c.as_slice.result.now) (string_bytes c.push_figures_header.new.text)
          (string_bytes c.push_figures_rows.new.text) (search rules) c.in_ok-push_figures_rows.ensures
          ∙ ap (λ ps. text_of (header ∷ rows c.length-plan_length.result ps)) c.as_slice.ensures.value
          ∙ ap (λ l. text_of (header ∷ rows l parts)) c.length-plan_length.ensures.length,
    )
