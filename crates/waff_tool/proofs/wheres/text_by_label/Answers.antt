use Rattle.std.proofs.Common.{◌≡◌, ℕ, List, length, string_bytes, sym, ◌∙◌, subst}
use Rattle.std.proofs.lemmas.Result.{IfOk-weaker}
use Rattle.waff_assign.specs.Case.{instance_of}
use Rattle.waff_plan.specs.Instances.{work_of_instance}
use Rattle.waff_plan.specs.Planned.{planned_starts}
use Rattle.waff_plan.specs.Timing.{work_of}
use Rattle.waff_plan.specs.declared.timing.Timing.{Timing}
use Rattle.waff_list.proofs.TraceWork.{count_is}
use Rattle.waff_plan_text.specs.Lines.{text_of}
use Rattle.waff_figures.specs.ByName.{first_messages, has_label, label_lines, labels_of}
use Rattle.waff_figures.specs.Parts.{AreTheParts}
use Rattle.waff_figures.specs.declared.parts.PartFigures.{PartFigures}
use Rattle.waff_figures.proofs.NameLemmas.{labels_length}
use Rattle.waff_tool.proofs.wheres.text_by_label.Goals as goal

pub returns : goal.returns
returns c =
    let planned = c.args.planned.now in
    let label = c.args.label in
    let columns = c.args.columns in
    let chain = c.args.chain.now in
    let instance = instance_of planned.case in
    let messages = instance.trace.messages in
    let labels = labels_of label messages in
    let start = planned_starts planned in
    let work = work_of_instance instance in
    let named : length labels ≡ work.count = labels_length label messages ∙ sym (count_is messages) in
    let listed = rw planned.timings at c.requires.chain in
    let IsText : List Timing → List ℕ → Type 0 = λ timings text. (parts : List PartFigures)
    × AreTheParts columns (work_of timings) start (has_label labels) (first_messages labels) parts
    × (text ≡ text_of (label_lines columns label messages (work_of timings) start chain parts)) in
    IfOk-weaker c.names_text.result _ _
    (λ text told.
    let as_told = subst (λ ts. IsText ts (string_bytes text)) planned.timings told in
    record {
      parts = as_told.0;
      are_parts = as_told.1;
      names_add_up = c.names_add_up.ensures labels work chain named listed.each;
      waits_add_up = λ with.
          c.label_waits_add_up.ensures labels work named start as_told.0
          (subst (λ cs. AreTheParts cs work start (has_label labels) (first_messages labels) as_told.0) with as_told.1);
      lines = as_told.2;
    })
    c.names_text.ensures
