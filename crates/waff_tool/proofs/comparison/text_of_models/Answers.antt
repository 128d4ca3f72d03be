use Rattle.std.proofs.Common.{◌≡◌, ℕ, true, List, Option, Some, string_bytes, ◌∙◌, ap, sym}
use Rattle.std.proofs.lemmas.Result.{IfOk-at_ok, IfOk-weaker}
use Rattle.waff_model.specs.declared.message.Version.{Version}
use Rattle.waff_plan.specs.Timetable.{work_of_messages}
use Rattle.waff_plan.specs.Work.{total_of}
use Rattle.waff_tool.specs.Comparison.{AreAssignedAndMeasured, IsCompared, compare_lines}
use Rattle.waff_plan_text.specs.Lines.{text_of}
use Rattle.waff_tool.proofs.ComparisonLemmas.{refined_is_no_longer, told_as_fact}
use Rattle.waff_tool.proofs.comparison.text_of_models.Goals as goal

pub refinement-refined-requires : goal.refinement-refined-requires
refinement-refined-requires c =
    let classical = c.args.models.now.classical in
    let hierarchical = c.args.models.now.hierarchical in
    let trace = c.args.trace.now in
    let coarse = IfOk-at_ok (AreAssignedAndMeasured classical trace c.args.k) c.in_ok-coarse.was c.requires.classical in
    let fine = IfOk-at_ok (AreAssignedAndMeasured hierarchical trace c.args.k) c.in_ok-fine.was c.requires.hierarchical in
    let none = c.unlocked_without_locks.ensures.unlocked in
    record {
      lengths = fine.assignment.count ∙ sym coarse.assignment.count;
      coarse_known = coarse.known;
      fine_known = fine.known;
      coarse_unlocked = λ free. none classical trace.messages c.in_ok-coarse.coarse free coarse.assignment;
      fine_unlocked = λ free. none hierarchical trace.messages c.in_ok-fine.fine free fine.assignment;
    }

pub returns : goal.returns
returns c =
    let classical = c.args.models.now.classical in
    let hierarchical = c.args.models.now.hierarchical in
    let trace = c.args.trace.now in
    let coarse = c.in_ok-coarse.coarse in
    let fine = c.in_ok-fine.fine in
    let of_classical = c.in_ok-coarse.of_classical in
    let of_hierarchical = c.in_ok-fine.of_hierarchical in
    let refined = c.refinement-refined.result in
    let told = c.refinement-refined.ensures in
    let under_classical = IfOk-at_ok (AreAssignedAndMeasured classical trace c.args.k) c.in_ok-coarse.was c.requires.classical in
    let under_hierarchical = IfOk-at_ok (AreAssignedAndMeasured hierarchical trace c.args.k) c.in_ok-fine.was c.requires.hierarchical in
    let total : of_classical.unlimited.total ≡ total_of (work_of_messages trace.messages) =
    ap (λ totals. totals.total) under_classical.measured.least.told in
    let text_for : Version → ℕ → List ℕ = λ version total. text_of
    (compare_lines version c.args.k total of_classical of_hierarchical refined) in
    IfOk-weaker c.comparison_text.result
    (λ text. string_bytes text ≡ text_for c.version.result of_classical.unlimited.total)
    (λ text. IsCompared classical hierarchical trace c.args.k (string_bytes text))
    (λ text lines. record {
      coarse = coarse;
      fine = fine;
      of_classical = of_classical;
      of_hierarchical = of_hierarchical;
      refined = refined;
      coarse_assignment = under_classical.assignment;
      fine_assignment = under_hierarchical.assignment;
      classical_measured = under_classical.measured;
      hierarchical_measured = under_hierarchical.measured;
      told = told;
      no_longer = λ without yes. refined_is_no_longer classical hierarchical coarse fine trace c.args.k of_classical
          of_hierarchical under_classical.measured under_hierarchical.measured
          (c.refined_is_no_longer.ensures hierarchical.tree classical.tree fine coarse (work_of_messages trace.messages) (told_as_fact _ _ refined told yes)) without;
      lines = lines ∙ ap (λ v. text_for v of_classical.unlimited.total) c.version.ensures
          ∙ ap (λ t. text_for trace.version t) total;
    })
    (rw c.number.ensures.number at c.comparison_text.ensures)
