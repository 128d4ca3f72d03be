use Rattle.std.proofs.Common.{◌≡◌, ℕ, ◌<◌, ◌≤◌, ◌∷◌, ◌++◌, [], List, length, get_or, map, string_bytes, arith, refl, sym, ◌∙◌, ap, subst}
use Rattle.std.specs.List.{range_with_len}
use Rattle.std.proofs.lemmas.Result.{IfOk-weaker}
use Rattle.waff_plan.specs.Planned.{planned_starts}
use Rattle.waff_plan.specs.Timing.{work_of}
use Rattle.waff_plan.specs.Work.{length_of}
use Rattle.waff_plan.proofs.TimingLemmas.{length-timings_of}
use Rattle.waff_plan_text.specs.Lines.{text_of}
use Rattle.waff_figures.specs.ByName.{first_messages, has_label, is_named, label_at, label_header, label_lines, label_row, labels_of, name_row, named_row, tallied_name_figures_row, tallied_name_row}
use Rattle.waff_figures.specs.Parts.{AreOfParts, AreTheParts, part_names}
use Rattle.waff_figures.specs.Tally.{is_in, no_tally, tally_of}
use Rattle.waff_figures.specs.declared.grouping.Columns.{Columns}
use Rattle.waff_figures.specs.declared.parts.PartFigures.{PartFigures}
use Rattle.waff_figures.proofs.NameLaws.{distinct_are}
use Rattle.waff_figures.proofs.PartRows.{label_parts, label_rows}
use Rattle.waff_figures.proofs.RowLemmas.{map_by_places, map_map, map_range_same, tally_same}
use Rattle.waff_figures.proofs.by_name.names_text.Goals as goal

pub returns-in-Costs : goal.returns-in-Costs
returns-in-Costs c =
    let header = label_header c.args.label in
    let messages = c.args.planned.now.case.trace.now.messages in
    let names = labels_of c.args.label messages in
    let work = work_of c.args.planned.now.plan.now.timings in
    let start = planned_starts c.args.planned.now in
    let chain = c.args.chain.now in
    let texts = c.in_ok-found.found.names in
    let places = c.in_ok-found.found.places.items in
    let tallies = c.in_ok-tallies.tallies.items in
    let count : work.count ≡ length messages = ap length c.args.planned.now.timings ∙ length-timings_of messages in
    let tally : (p : ℕ) → p < length texts → get_or tallies p no_tally ≡ tally_of work chain (is_named names (get_or texts p []))
    = λ p low.
    subst (λ gs. get_or tallies p no_tally ≡ tally_of work chain (is_in gs p)) c.as_slice.ensures.value
    (c.in_ok-tallies.ensures.each p (omega (arith, low, c.len.ensures)))
    ∙ tally_same work chain (is_in places p) (is_named names (get_or texts p [])) c.requires.chain.each
    (λ m from to. c.in_ok-found.ensures.each p m low from (omega (arith, to, count))) in
    let rows : map (tallied_name_row texts tallies) (range_with_len 0 (length texts)) ≡ map (label_row names work chain) (first_messages names)
    = map_range_same (tallied_name_row texts tallies) (λ p. name_row names work chain (get_or texts p [])) 0 (length texts)
    (λ p from to. ap (λ t. named_row (get_or texts p []) t) (tally p (omega (arith, to))))
    ∙ map_by_places (name_row names work chain) texts []
    ∙ ap (map (name_row names work chain)) (c.in_ok-found.ensures.names ∙ distinct_are names)
    ∙ sym (map_map (name_row names work chain) (label_at names) (first_messages names)) in
    let IsText : Columns → List ℕ → Type 0 = λ columns text. (parts : List PartFigures)
    × AreTheParts columns work start (has_label names) (first_messages names) parts
    × (text ≡ text_of (label_lines columns c.args.label messages work start chain parts)) in
    IfOk-weaker c.tallied_text.result _ _
    (λ text is. subst (λ cs. IsText cs (string_bytes text)) (sym c.in-Costs.is) (
      [],
      refl,
      is ∙ ap (λ ts. text_of (header ∷ map (tallied_name_row texts ts) (range_with_len 0 (length texts)))) c.as_slice-in-Costs.ensures.value
          ∙ ap (λ rs. text_of (header ∷ rs)) rows,
    ))
    c.tallied_text.ensures

pub returns : goal.returns
returns c =
    let header = label_header c.args.label ++ part_names in
    let messages = c.args.planned.now.case.trace.now.messages in
    let names = labels_of c.args.label messages in
    let work = work_of c.args.planned.now.plan.now.timings in
    let start = planned_starts c.args.planned.now in
    let chain = c.args.chain.now in
    let texts = c.in_ok-found.found.names in
    let places = c.in_ok-found.found.places.items in
    let tallies = c.in_ok-tallies.tallies.items in
    let count : work.count ≡ length messages = ap length c.args.planned.now.timings ∙ length-timings_of messages in
    let tally : (p : ℕ) → p < length texts → get_or tallies p no_tally ≡ tally_of work chain (is_named names (get_or texts p []))
    = λ p low.
    subst (λ gs. get_or tallies p no_tally ≡ tally_of work chain (is_in gs p)) c.as_slice.ensures.value
    (c.in_ok-tallies.ensures.each p (omega (arith, low, c.len.ensures)))
    ∙ tally_same work chain (is_in places p) (is_named names (get_or texts p [])) c.requires.chain.each
    (λ m from to. c.in_ok-found.ensures.each p m low from (omega (arith, to, count))) in
    let firsts : texts ≡ map (label_at names) (first_messages names) = c.in_ok-found.ensures.names ∙ distinct_are names in
    let tells : (p m : ℕ) → p < length texts → 1 ≤ m → m ≤ work.count → is_in places p m ≡ is_named names (get_or texts p []) m
    = λ p m low from to. c.in_ok-found.ensures.each p m low from (omega (arith, to, count)) in
    let IsText : Columns → List ℕ → Type 0 = λ columns text. (parts : List PartFigures)
    × AreTheParts columns work start (has_label names) (first_messages names) parts
    × (text ≡ text_of (label_lines columns c.args.label messages work start chain parts)) in
    IfOk-weaker c.figures_text.result _ _
    (λ text told. subst (λ cs. IsText cs (string_bytes text)) (sym c.in-Figures.is) (
      told.0,
      label_parts work start chain tallies told.0 names texts firsts places tells
          (subst (λ gs. AreOfParts work start (is_in gs) (range_with_len 0 (length texts)) told.0) c.as_slice.ensures.value told.1),
      told.2 ∙ ap (λ ts. text_of (header ∷ map (tallied_name_figures_row texts (length_of work start) ts told.0) (range_with_len 0 (length texts)))) c.as_slice-in-Figures.ensures.value
          ∙ ap (λ rs. text_of (header ∷ rs)) (label_rows work start chain tallies told.0 names texts firsts tally),
    ))
    c.figures_text.ensures
