-- Of the same bytes there is one text of where the time goes, and its waits are those of a sweep.
use Rattle.std.proofs.Common.{◌≡◌, ℕ, Bool, List, ◌∷◌, ◌++◌, length, map, get_or, sum_by, Option, Some, None, arith, refl, sym, ◌∙◌, ap, subst}
use Rattle.std.specs.List.{range_with_len}
use Rattle.waff_model.specs.Layout.{has_locks}
use Rattle.waff_model.specs.Tree.{name_of, parent_of}
use Rattle.waff_model.specs.Unique.{AtMostOne}
use Rattle.waff_assign.specs.Instance.{Instance}
use Rattle.waff_plan.specs.Instances.{work_of_instance}
use Rattle.waff_plan.specs.Timing.{start_of}
use Rattle.waff_plan.specs.Unique.{AreSame}
use Rattle.waff_plan.specs.Work.{Work, length_of}
use Rattle.waff_plan.proofs.Uniqueness.{same_length}
use Rattle.waff_list.specs.declared.rule.Rule.{Rule}
use Rattle.waff_plan_text.specs.Lines.{text_of}
use Rattle.waff_figures.specs.ByAffinity.{affinities_header, affinity_figures_row, affinity_row, affinity_numbers, none_figures_row, none_row, parent_field, row_where, runs_in, tally_row}
use Rattle.waff_figures.specs.ByName.{first_messages, has_label, label_header, label_row, labels_of}
use Rattle.waff_figures.specs.Figures.{waits_of}
use Rattle.waff_figures.specs.Parts.{no_part, part_fields, part_names}
use Rattle.waff_figures.specs.Tally.{tally_of}
use Rattle.waff_figures.specs.declared.grouping.Columns.{Columns}
use Rattle.waff_figures.specs.declared.grouping.Columns.TheVariants.{Costs, Figures}
use Rattle.waff_figures.specs.declared.grouping.Label.{Label}
use Rattle.waff_figures.specs.declared.parts.PartFigures.{PartFigures}
use Rattle.waff_figures.proofs.AddingUp.{cost_below_is_one}
use Rattle.waff_figures.proofs.PartLemmas.{parts_are_one}
use Rattle.waff_figures.proofs.RowLemmas.{map_range_same}
use Rattle.waff_tool.specs.Certificates.{IsChained}
use Rattle.waff_tool.specs.WaitsText.{IsPlanFor}
use Rattle.waff_tool.specs.WhereText.{FiguresAreSwept, TellsAffinities, TellsNames, TellsSpent, TellsWhere, told_parts}
use Rattle.waff_tool.proofs.FigureUniqueness.{told_swept}
use Rattle.waff_tool.proofs.PlanUniqueness.{IsSound, chain_in_one, least_in_one, rule_in_one}
use Rattle.waff_tool.proofs.TextUniqueness.{is_sound}
use Rattle.waff_tool.proofs.WaitsTexts.{waits_in_line}

-- the plan of a chained one
chained_plan : (rule : Rule) (instance : Instance) (workers : Option ℕ) (start : ℕ → ℕ) (chain : List ℕ)
    → IsChained rule instance workers start chain → IsPlanFor rule instance workers start
chained_plan rule instance None start chain chained = chained.least
chained_plan rule instance (Some k) start chain chained = chained.list

module _ (instance : Instance) (sound : IsSound instance) where
  abbrev work : Work
  work = work_of_instance instance

  -- the plan and its chain are one
  chained_is_one : (rule : Rule) (workers : Option ℕ) (start other : ℕ → ℕ) (chain other_chain : List ℕ)
      → IsChained rule instance workers start chain → IsChained rule instance workers other other_chain → AreSame work start other × (chain ≡ other_chain)
  chained_is_one rule None start other chain other_chain p q =
      let same = least_in_one instance sound start other p.least q.least in
      (same, chain_in_one instance sound start other chain other_chain p.least.obeys.issued same p.printed q.printed)
  chained_is_one rule (Some k) start other chain other_chain p q =
      let same = rule_in_one instance sound rule k start other p.list q.list in
      (same, chain_in_one instance sound start other chain other_chain p.obeys.issued same p.printed q.printed)

  -- what is told of it is one
  module _ (start other : ℕ → ℕ) (same : AreSame work start other) (chain : List ℕ) where
    lengths : length_of work start ≡ length_of work other
    lengths = same_length work start other same

    by_affinity : (locks : Bool) (columns : Columns) (text again : List ℕ) → TellsAffinities locks columns instance start chain text → TellsAffinities locks columns instance other chain again → text ≡ again
    by_affinity locks Costs text again p q =
        let tree = instance.tree in
        let assigned = instance.assigned in
        let row = λ (a cost : ℕ). tally_row (name_of tree a) (parent_field tree (parent_of tree a)) cost (tally_of work chain (runs_in tree assigned a)) in
        let rows = map_range_same (affinity_row tree assigned work chain p.below) (affinity_row tree assigned work chain q.below) 0 (length tree)
        (λ a from to. ap (row a) (cost_below_is_one tree assigned work a (get_or p.below a 0) (get_or q.below a 0)
        (p.are_below a (omega (arith, to))) (q.are_below a (omega (arith, to))))) in
        p.lines
        ∙ ap (λ rs. text_of (affinities_header ∷ rs ++ row_where locks (none_row (tally_of work chain (runs_in tree assigned (length tree)))))) rows
        ∙ sym q.lines
    by_affinity locks Figures text again p q =
        let tree = instance.tree in
        let assigned = instance.assigned in
        let parts = parts_are_one work sound.earlier start other same Figures (runs_in tree assigned) (affinity_numbers tree) p.parts q.parts p.are_parts q.are_parts in
        let row = λ (a cost l : ℕ) (ps : List PartFigures).
        tally_row (name_of tree a) (parent_field tree (parent_of tree a)) cost (tally_of work chain (runs_in tree assigned a))
        ++ part_fields l (tally_of work chain (runs_in tree assigned a)) (get_or ps a no_part) in
        let rows = map_range_same (affinity_figures_row tree assigned work start chain p.below p.parts) (affinity_figures_row tree assigned work other chain q.below q.parts) 0 (length tree)
        (λ a from to.
        ap (λ cost. row a cost (length_of work start) p.parts) (cost_below_is_one tree assigned work a (get_or p.below a 0) (get_or q.below a 0)
        (p.are_below a (omega (arith, to))) (q.are_below a (omega (arith, to))))
        ∙ ap (λ l. row a (get_or q.below a 0) l p.parts) lengths
        ∙ ap (λ ps. row a (get_or q.below a 0) (length_of work other) ps) parts) in
        let last = λ (l : ℕ) (ps : List PartFigures).
        row_where locks (none_figures_row l (tally_of work chain (runs_in tree assigned (length tree))) (get_or ps (length tree) no_part)) in
        p.lines ∙ ap (λ rs. text_of ((affinities_header ++ part_names) ∷ rs ++ last (length_of work start) p.parts)) rows
        ∙ ap (λ l. text_of ((affinities_header ++ part_names) ∷ map (affinity_figures_row tree assigned work other chain q.below q.parts) (range_with_len 0 (length tree)) ++ last l p.parts)) lengths
        ∙ ap (λ ps. text_of ((affinities_header ++ part_names) ∷ map (affinity_figures_row tree assigned work other chain q.below q.parts) (range_with_len 0 (length tree)) ++ last (length_of work other) ps)) parts
        ∙ sym q.lines

    by_label : (label : Label) (columns : Columns) (text again : List ℕ) → TellsNames label columns instance start chain text → TellsNames label columns instance other chain again → text ≡ again
    by_label label Costs text again p q = p.lines ∙ sym q.lines
    by_label label Figures text again p q =
        let labels = labels_of label instance.trace.messages in
        let firsts = first_messages labels in
        let parts = parts_are_one work sound.earlier start other same Figures (has_label labels) firsts p.parts q.parts p.are_parts q.are_parts in
        let text_for : ℕ → List PartFigures → List ℕ = λ l ps. text_of ((label_header label ++ part_names) ∷ map (λ (place : ℕ).
        label_row labels work chain (get_or firsts place 0)
        ++ part_fields l (tally_of work chain (has_label labels (get_or firsts place 0))) (get_or ps place no_part)) (range_with_len 0 (length firsts))) in
        p.lines ∙ ap (λ l. text_for l p.parts) lengths ∙ ap (text_for (length_of work other)) parts ∙ sym q.lines

    spent_is_one : (locks : Bool) (label : Option Label) (columns : Columns) (text again : List ℕ) → TellsSpent locks label columns instance start chain text → TellsSpent locks label columns instance other chain again → text ≡ again
    spent_is_one locks None columns text again p q = by_affinity locks columns text again p q
    spent_is_one locks (Some label) columns text again p q = by_label label columns text again p q

  pub where_is_one : (locks : Bool) (rule : Rule) (workers : Option ℕ) (label : Option Label) (columns : Columns) → AtMostOne (TellsWhere locks rule workers label columns instance)
  where_is_one locks rule workers label columns text again p q =
      let (same, chains) = chained_is_one rule workers (start_of p.starts) (start_of q.starts) p.chain q.chain p.chained q.chained in
      spent_is_one (start_of p.starts) (start_of q.starts) same q.chain locks label columns text again
      (subst (λ c. TellsSpent locks label columns instance (start_of p.starts) c text) chains p.spent) q.spent

-- the waits of its lines are those of all messages
told_waits : (locks : Bool) (label : Option Label) (instance : Instance) (start : ℕ → ℕ) (chain text : List ℕ) (told : TellsSpent locks label Figures instance start chain text)
    → sum_by (λ (p : PartFigures). p.waits) (told_parts locks label Figures instance start chain text told) ≡ waits_of (work_of_instance instance) start
told_waits locks None instance start chain text told = told.waits_add_up refl
told_waits locks (Some label) instance start chain text told = told.waits_add_up refl

pub figures_are_swept : (rule : Rule) (hierarchy_file trace_file : List ℕ) (limit : Option ℕ) (label : Option Label) → FiguresAreSwept rule hierarchy_file trace_file limit label
figures_are_swept rule hierarchy_file trace_file limit label workers text sweep line p q has for =
    let instance = p.instance in
    let told = p.told in
    let swept = told_swept rule hierarchy_file trace_file workers sweep instance p.accepts q in
    let planned = chained_plan rule instance limit (start_of told.starts) told.chain told.chained in
    told_waits (has_locks p.accepts.layout.spaces) label instance (start_of told.starts) told.chain text told.spent
    ∙ waits_in_line rule instance (is_sound hierarchy_file trace_file instance p.accepts) (length_of (work_of_instance instance) (start_of q.told.starts)) limit
    (start_of told.starts) planned line workers q.told.starts q.told.listed q.told.unlimited swept.0 swept.1 swept.2 has for
