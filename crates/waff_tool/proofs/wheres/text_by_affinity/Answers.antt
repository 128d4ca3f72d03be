use Rattle.std.proofs.Common.{◌≡◌, ℕ, List, length, string_bytes, subst}
use Rattle.std.specs.List.{range_with_len}
use Rattle.std.proofs.lemmas.Result.{IfOk-weaker}
use Rattle.waff_assign.specs.Case.{instance_of}
use Rattle.waff_plan.specs.Instances.{work_of_instance}
use Rattle.waff_plan.specs.Planned.{planned_starts}
use Rattle.waff_plan.specs.Timing.{work_of}
use Rattle.waff_plan.specs.declared.timing.Timing.{Timing}
use Rattle.waff_plan_text.specs.Lines.{text_of}
use Rattle.waff_figures.specs.ByAffinity.{AreCostsBelow, affinities_lines, affinity_numbers, runs_in}
use Rattle.waff_figures.specs.Parts.{AreTheParts}
use Rattle.waff_figures.specs.declared.parts.PartFigures.{PartFigures}
use Rattle.waff_tool.proofs.wheres.text_by_affinity.Goals as goal

pub returns : goal.returns
returns c =
    let planned = c.args.planned.now in
    let columns = c.args.columns in
    let chain = c.args.chain.now in
    let instance = instance_of planned.case in
    let tree = instance.tree in
    let assigned = instance.assigned in
    let start = planned_starts planned in
    let work = work_of_instance instance in
    let lines = affinity_numbers tree in
    let known = planned.case.known in
    let IsText : List Timing → List ℕ → Type 0 = λ timings text. (below : List ℕ) × (parts : List PartFigures)
    × AreCostsBelow tree assigned (work_of timings) below × AreTheParts columns (work_of timings) start (runs_in tree assigned) lines parts
    × (text ≡ text_of (affinities_lines columns c.args.locks tree assigned (work_of timings) start chain below parts)) in
    IfOk-weaker c.affinities_text.result _ _
    (λ text told.
    let as_told = subst (λ ts. IsText ts (string_bytes text)) planned.timings told in
    record {
      below = as_told.0;
      parts = as_told.1;
      are_below = as_told.2;
      are_parts = as_told.3;
      costs_add_up = c.costs_add_up.ensures tree assigned work chain known;
      chain_adds_up = c.chain_adds_up.ensures tree assigned work chain known;
      waits_add_up = λ with.
          c.affinity_waits_add_up.ensures tree assigned work known start as_told.1
          (subst (λ cs. AreTheParts cs work start (runs_in tree assigned) lines as_told.1) with as_told.3);
      lines = as_told.4;
    })
    c.affinities_text.ensures
