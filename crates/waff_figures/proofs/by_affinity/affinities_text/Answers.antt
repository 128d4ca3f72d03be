use Rattle.std.proofs.Common.{◌≡◌, ℕ, ◌+◌, ◌<◌, ◌≤◌, ◌∷◌, ◌++◌, List, [], length, get_or, map, string_bytes, sum_by, take, arith, refl, sym, ◌∙◌, ap, subst}
use Rattle.std.specs.List.{range_with_len}
use Rattle.std.proofs.lemmas.List.{get_or-take, length-map, length-take-le}
use Rattle.std.proofs.lemmas.List.Sums.{sum_by-take-le}
use Rattle.std.proofs.lemmas.Result.{IfOk-weaker}
use Rattle.waff_model.specs.Tree.{Node, name_of, parent_of}
use Rattle.waff_assign.specs.Held.{AreKnown, Held}
use Rattle.waff_assign.specs.Order.{number_or}
use Rattle.waff_plan.specs.Planned.{planned_starts}
use Rattle.waff_plan.specs.Timing.{work_of}
use Rattle.waff_plan.specs.Work.{Work, length_of}
use Rattle.waff_plan_text.specs.Lines.{text_of}
use Rattle.waff_figures.specs.ByAffinity.{AreCostsBelow, affinities_header, affinities_lines, affinity_figures_row, affinity_numbers, affinity_row, none_figures_row, none_row, parent_field, row_where, runs_in, tallied_figures_row, tallied_row, tally_row}
use Rattle.waff_figures.specs.Below.{IsSumBelow}
use Rattle.waff_figures.specs.Parts.{AreTheParts, no_part, part_names}
use Rattle.waff_figures.specs.Tally.{is_in, no_tally}
use Rattle.waff_figures.specs.declared.grouping.Columns.{Columns}
use Rattle.waff_figures.specs.declared.parts.PartFigures.{PartFigures}
use Rattle.waff_figures.specs.declared.tally.Tally.{Tally}
use Rattle.waff_figures.proofs.AddingUp.{below_by_messages}
use Rattle.waff_figures.proofs.PartRows.{affinity_rows, parts_same}
use Rattle.waff_figures.proofs.RowLemmas.{AreTalliesOf, AreTalliesUnder, cost_at, groups_known, map_range_same, runs_in_group, tallies_by_groups, tallies_total}
use Rattle.waff_figures.proofs.by_affinity.affinities_text.Goals as goal

pub invariant_of-grouped : goal.invariant_of-grouped
invariant_of-grouped c =
    let assigned = c.args.planned.now.case.assigned.now in
    let none = c.len-none.result in
    let groups : c.as_slice.result.now ≡ map (number_or none) assigned = c.as_slice.ensures.value ∙ c.in_ok-affinities.ensures in
    record {
      lengths = ap length groups ∙ length-map assigned (number_or none) ∙ sym c.args.planned.now.lengths;
      known = groups_known c.args.planned.now.case.tree.now assigned none c.as_slice.result.now c.len-none.ensures.count groups c.args.planned.now.case.known;
    }

pub costs_below-requires-clause-lengths : goal.costs_below-requires-clause-lengths
costs_below-requires-clause-lengths c =
    let none = c.len-none.result in
    let tallies = c.as_slice-2.result.now in
    let count : length tallies ≡ none + 1 = ap length c.as_slice-2.ensures.value ∙ c.in_ok-tallies.ensures.count in
    length-take-le none tallies (omega (arith, count)) ∙ c.len-none.ensures.count

-- the tallies of the affinities and of none
abbrev tallied : List Node → List Held → Work → List ℕ → List Tally → Type 0
tallied tree assigned work chain tallies =
    (length tallies ≡ length tree + 1) × AreTalliesUnder tree assigned work chain tallies

-- the costs below the affinities, by their tallies
all_below : (tree : List Node) (assigned : List Held) (work : Work) (chain : List ℕ) (tallies : List Tally) (below : List ℕ) (none : ℕ) → none ≡ length tree
    → AreKnown tree assigned → tallied tree assigned work chain tallies
    → ((a : ℕ) → a < length tree → IsSumBelow tree (map (λ (t : Tally). t.cost) (take none tallies)) a (get_or below a 0)) → AreCostsBelow tree assigned work below
all_below tree assigned work chain tallies below none behind known (count, are) sums a low =
    let firsts = take none tallies in
    let long : length firsts ≡ none = length-take-le none tallies (omega (arith, count, behind)) in
    let first : AreTalliesOf (runs_in tree assigned) work chain none firsts
    = λ g within. get_or-take none tallies g no_tally within ∙ are g (omega (arith, within, behind)) in
    below_by_messages tree assigned work known (map (λ (t : Tally). t.cost) firsts) (length-map firsts (λ (t : Tally). t.cost) ∙ long ∙ behind)
    (λ g inside. cost_at (runs_in tree assigned) work chain none firsts long first g (omega (arith, inside, behind))) a (get_or below a 0) (sums a low)

pub costs_below-requires-clause-small : goal.costs_below-requires-clause-small
costs_below-requires-clause-small c =
    let tree = c.args.planned.now.case.tree.now in
    let assigned = c.args.planned.now.case.assigned.now in
    let work = work_of c.args.planned.now.plan.now.timings in
    let chain = c.args.chain.now in
    let none = c.len-none.result in
    let tallies = c.in_ok-tallies.tallies.items in
    let groups : c.as_slice.result.now ≡ map (number_or none) assigned = c.as_slice.ensures.value ∙ c.in_ok-affinities.ensures in
    let count : length tallies ≡ length tree + 1 = c.in_ok-tallies.ensures.count ∙ ap (λ n. n + 1) c.len-none.ensures.count in
    let are = tallies_by_groups tree assigned none c.as_slice.result.now c.len-none.ensures.count groups work chain tallies (sym c.args.planned.now.lengths)
    c.requires.chain.each c.in_ok-tallies.ensures.each in
    let sum = tallies_total tree assigned work chain tallies c.args.planned.now.case.known count are in
    let first = sum_by-take-le (λ (t : Tally). t.cost) tallies none in
    subst (λ (ts : List Tally). sum_by (λ (t : Tally). t.cost) (take none ts) < 18446744073709551616) (sym c.as_slice-2.ensures.value)
    (omega (arith, sum, first, c.total-total.ensures.total, c.total-total.ensures.small))

pub returns-in-Costs : goal.returns-in-Costs
returns-in-Costs c =
    let tree = c.args.planned.now.case.tree.now in
    let assigned = c.args.planned.now.case.assigned.now in
    let work = work_of c.args.planned.now.plan.now.timings in
    let start = planned_starts c.args.planned.now in
    let chain = c.args.chain.now in
    let none = c.len-none.result in
    let tallies = c.in_ok-tallies.tallies.items in
    let below = c.in_ok-below.below.items in
    let groups : c.as_slice.result.now ≡ map (number_or none) assigned = c.as_slice.ensures.value ∙ c.in_ok-affinities.ensures in
    let count : length tallies ≡ length tree + 1 = c.in_ok-tallies.ensures.count ∙ ap (λ n. n + 1) c.len-none.ensures.count in
    let are = tallies_by_groups tree assigned none c.as_slice.result.now c.len-none.ensures.count groups work chain tallies (sym c.args.planned.now.lengths)
    c.requires.chain.each c.in_ok-tallies.ensures.each in
    let rows : map (tallied_row tree tallies below) (range_with_len 0 (length tree)) ≡ map (affinity_row tree assigned work chain below) (range_with_len 0 (length tree))
    = map_range_same (tallied_row tree tallies below) (affinity_row tree assigned work chain below) 0 (length tree)
    (λ a from to. ap (λ t. tally_row (name_of tree a) (parent_field tree (parent_of tree a)) (get_or below a 0) t) (are a (omega (arith, to)))) in
    let lines = range_with_len 0 (length tree) in
    let none_of : Tally → List (List (List ℕ)) = λ t. row_where c.args.has_locks (none_row t) in
    let IsText : Columns → List ℕ → Type 0 = λ columns text. (below : List ℕ) × (parts : List PartFigures)
    × AreCostsBelow tree assigned work below × AreTheParts columns work start (runs_in tree assigned) (affinity_numbers tree) parts
    × (text ≡ text_of (affinities_lines columns c.args.has_locks tree assigned work start chain below parts)) in
    let sums = subst (λ (ts : List Tally). (a : ℕ) → a < length tree → IsSumBelow tree (map (λ (t : Tally). t.cost) (take none ts)) a (get_or below a 0)) c.as_slice-2.ensures.value
    c.in_ok-below.ensures.below in
    IfOk-weaker c.tallied_text.result _ _
    (λ text is. subst (λ cs. IsText cs (string_bytes text)) (sym c.in-Costs.is) (
      below,
      [],
      all_below tree assigned work chain tallies below none c.len-none.ensures.count c.args.planned.now.case.known (count, are) sums,
      refl,
      is ∙ ap (λ ts. text_of (affinities_header ∷ map (tallied_row tree ts c.as_slice-in-Costs-2.result.now) lines ++ none_of (get_or ts (length tree) no_tally)))
          c.as_slice-in-Costs.ensures.value
          ∙ ap (λ bs. text_of (affinities_header ∷ map (tallied_row tree tallies bs) lines ++ none_of (get_or tallies (length tree) no_tally))) c.as_slice-in-Costs-2.ensures.value
          ∙ ap (λ rs. text_of (affinities_header ∷ rs ++ none_of (get_or tallies (length tree) no_tally))) rows
          ∙ ap (λ t. text_of (affinities_header ∷ map (affinity_row tree assigned work chain below) lines ++ none_of t)) (are (length tree) (omega arith)),
    ))
    c.tallied_text.ensures

pub returns : goal.returns
returns c =
    let tree = c.args.planned.now.case.tree.now in
    let assigned = c.args.planned.now.case.assigned.now in
    let work = work_of c.args.planned.now.plan.now.timings in
    let start = planned_starts c.args.planned.now in
    let chain = c.args.chain.now in
    let none = c.len-none.result in
    let tallies = c.in_ok-tallies.tallies.items in
    let below = c.in_ok-below.below.items in
    let groups : c.as_slice.result.now ≡ map (number_or none) assigned = c.as_slice.ensures.value ∙ c.in_ok-affinities.ensures in
    let count : length tallies ≡ length tree + 1 = c.in_ok-tallies.ensures.count ∙ ap (λ n. n + 1) c.len-none.ensures.count in
    let are = tallies_by_groups tree assigned none c.as_slice.result.now c.len-none.ensures.count groups work chain tallies (sym c.args.planned.now.lengths)
    c.requires.chain.each c.in_ok-tallies.ensures.each in
    let lines = range_with_len 0 (length tree) in
    let header = affinities_header ++ part_names in
    let none_of : List PartFigures → Tally → List (List (List ℕ))
    = λ ps t. row_where c.args.has_locks (none_figures_row (length_of work start) t (get_or ps (length tree) no_part)) in
    let IsText : Columns → List ℕ → Type 0 = λ columns text. (below : List ℕ) × (parts : List PartFigures)
    × AreCostsBelow tree assigned work below × AreTheParts columns work start (runs_in tree assigned) (affinity_numbers tree) parts
    × (text ≡ text_of (affinities_lines columns c.args.has_locks tree assigned work start chain below parts)) in
    let sums = subst (λ (ts : List Tally). (a : ℕ) → a < length tree → IsSumBelow tree (map (λ (t : Tally). t.cost) (take none ts)) a (get_or below a 0)) c.as_slice-2.ensures.value
    c.in_ok-below.ensures.below in
    IfOk-weaker c.figures_text.result _ _
    (λ text told. subst (λ cs. IsText cs (string_bytes text)) (sym c.in-Figures.is) (
      below,
      told.0,
      all_below tree assigned work chain tallies below none c.len-none.ensures.count c.args.planned.now.case.known (count, are) sums,
      parts_same work start (is_in c.as_slice.result.now) (runs_in tree assigned) (affinity_numbers tree) told.0
          (λ g m is. runs_in_group tree assigned none c.as_slice.result.now c.len-none.ensures.count groups g m is.from (omega (arith, is.to, c.args.planned.now.lengths)))
          told.1,
      told.2 ∙ ap (λ ts. text_of (header ∷ map (tallied_figures_row tree (length_of work start) ts c.as_slice-in-Figures-2.result.now told.0) lines ++ none_of told.0 (get_or ts (length tree) no_tally)))
          c.as_slice-in-Figures.ensures.value
          ∙ ap (λ bs. text_of (header ∷ map (tallied_figures_row tree (length_of work start) tallies bs told.0) lines ++ none_of told.0 (get_or tallies (length tree) no_tally)))
          c.as_slice-in-Figures-2.ensures.value
          ∙ ap (λ rs. text_of (header ∷ rs ++ none_of told.0 (get_or tallies (length tree) no_tally))) (affinity_rows work start chain tallies told.0 tree assigned below are)
          ∙ ap (λ t. text_of (header ∷ map (affinity_figures_row tree assigned work start chain below told.0) lines ++ none_of told.0 t)) (are (length tree) (omega arith)),
    ))
    c.figures_text.ensures
