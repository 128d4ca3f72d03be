use Rattle.std.proofs.Common.{rules, subst, string_bytes}
use Rattle.waff_model.specs.Layout.{Hierarchy}
use Rattle.waff_read.specs.Hierarchies.{hierarchy_of}
use Rattle.waff_assign.specs.Lowest.{IsAssignment}
use Rattle.waff_inputs.specs.Inputs.{instance_under}
use Rattle.waff_inputs.proofs.SameInput.{same_ok}
use Rattle.waff_tool.proofs.ResultLemmas.{if_ok_turned}
use Rattle.waff_tool.specs.Told.{Tells}
use Rattle.waff_tool.proofs.told.made_text.Goals as goal

pub text_of-requires-clause-assignment : goal.text_of-requires-clause-assignment
text_of-requires-clause-assignment g c κs lives =
    let accepted = c.in_ok-accepted.accepted in
    let is = c.in_ok-accepted.ensures in
    let same = same_ok (hierarchy_of c.args.hierarchy.now) is.accepted.layout accepted.layout is.accepted.is_layout is.layout in
    subst (λ (l : Hierarchy). IsAssignment l accepted.trace.messages accepted.assigned) same is.accepted.assignment

pub returns : goal.returns
returns g c =
    let accepted = c.in_ok-accepted.accepted in
    let is = c.in_ok-accepted.ensures in
    let instance = instance_under accepted.layout accepted.assigned accepted.trace in
    let same = same_ok (hierarchy_of c.args.hierarchy.now) accepted.layout is.accepted.layout is.layout is.accepted.is_layout in
    record {
      made = if_ok_turned c.text_of.result c.map_err-text.result _ _ _ c.map_err-text.ensures.cases c.map_err-text.ensures.variant
          (λ text told. record {
            instance = instance;
            accepts = is.accepted;
            told = subst (λ (l : Hierarchy). Tells c.args.told.now l instance (string_bytes text)) same told;
          })
          c.text_of.ensures;
      refused = search rules;
      unwritten = search rules;
    }
