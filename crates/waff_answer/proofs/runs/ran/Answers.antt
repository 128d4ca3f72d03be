use Rattle.std.proofs.Common.{◌∙◌, ap, subst, string_bytes}
use Rattle.std.proofs.lemmas.Result.{IfErr-weaker, IfOk-weaker}
use Rattle.waff_inputs.specs.Inputs.{instance_under}
use Rattle.waff_tool.specs.Ranks.{file_at}
use Rattle.waff_answer.specs.Answers.{bytes_of, second}
use Rattle.waff_answer.specs.Runs.{IsPartText, IsRunText, RefusesRun}
use Rattle.waff_answer.proofs.Running.{assigned_under, refuses_run, some_weaker, spelled_under}
use Rattle.waff_answer.proofs.runs.ran.Goals as goal

pub returns-in-Ok : goal.returns-in-Ok
returns-in-Ok g c =
    let hierarchy = c.file-hierarchy.ensures ∙ ap (λ files. file_at (bytes_of files) 0) c.as_slice-files.ensures.value in
    let trace = c.file-trace.ensures ∙ ap (λ files. file_at (bytes_of files) 1) c.as_slice-files.ensures.value in
    let accepted = c.in-Ok.accepted in
    let is = c.in-Ok.ensures.accepted in
    let k = c.args.task.now.words.workers in
    let files = bytes_of c.args.task.now.files.items in
    let instance = instance_under accepted.layout accepted.assigned accepted.trace in
    record {
      told = IfOk-weaker c.ran_on_files-ran.result _ _
          (λ ran texts. subst (λ h. IsRunText h (second files) k c.args.task.now.words.tick (string_bytes ran.told.text) ran.told.drift) hierarchy
          (subst (λ t. IsRunText c.file-hierarchy.result.now t k c.args.task.now.words.tick (string_bytes ran.told.text) ran.told.drift) trace
          (record {
            instance = instance;
            accepts = is;
            measured = ran.told.measured.items;
            texts = texts;
          })))
          c.ran_on_files-ran.ensures.told;
      refused = IfErr-weaker c.ran_on_files-ran.result _ _
          (λ broke of. subst (λ h. RefusesRun h (second files) c.args.task.now broke.error) hierarchy
          (subst (λ t. RefusesRun c.file-hierarchy.result.now t c.args.task.now broke.error) trace
          (refuses_run c.file-hierarchy.result.now c.file-trace.result.now instance accepted.layout is c.in-Ok.ensures.layout c.args.task.now broke.error of)))
          c.ran_on_files-ran.ensures.refused;
      left = IfErr-weaker c.ran_on_files-ran.result _ _
          (λ broke. some_weaker broke.left _ _
          (λ left texts. subst (λ h. IsPartText h (second files) k c.args.task.now.words.tick (string_bytes left.told.text) left.told.drift) hierarchy
          (subst (λ t. IsPartText c.file-hierarchy.result.now t k c.args.task.now.words.tick (string_bytes left.told.text) left.told.drift) trace
          (record {
            instance = instance;
            accepts = is;
            measured = left.told.measured.items;
            texts = texts;
          }))))
          c.ran_on_files-ran.ensures.left;
      wanted = c.ran_on_files-ran.ensures.wanted;
    }

pub ran_on_files-ran-requires-clause-assigned : goal.ran_on_files-ran-requires-clause-assigned
ran_on_files-ran-requires-clause-assigned g c κs within =
    let accepted = c.in-Ok.accepted in
    assigned_under c.file-hierarchy.result.now c.file-trace.result.now accepted.layout accepted.assigned accepted.trace c.in-Ok.ensures.accepted
    c.in-Ok.ensures.layout

pub invariant_of-given : goal.invariant_of-given
invariant_of-given g c =
    let accepted = c.in-Ok.accepted in
    record {
      read = c.in-Ok.ensures.layout;
      spelled = spelled_under c.file-hierarchy.result.now c.file-trace.result.now accepted.layout accepted.assigned accepted.trace c.in-Ok.ensures.accepted
          c.in-Ok.ensures.layout;
    }
