use Rattle.std.specs.Prelude.{string_bytes}
use Rattle.waff_answer.specs.Answers.{bytes_of, first, second}
use Rattle.waff_answer.proofs.Running.{leaves_part, refuses_write}
use Rattle.waff_answer.proofs.runs.write_whole.Goals as goal

pub returns-in-Err-clause-part : goal.returns-in-Err-clause-part
returns-in-Err-clause-part g c =
    let files = bytes_of c.args.task.now.files.items in
    leaves_part (first files) (second files) c.args.task.now c.in-Err.error (string_bytes c.args.told.now.text) c.args.told.now.drift
    (g.W.Write.contents c.args.out.now) (g.W.Write.contents c.write_texts.new.out) c.requires c.in-Err.ensures.fault c.in-Err.ensures.part

pub returns-in-Err-clause-refused : goal.returns-in-Err-clause-refused
returns-in-Err-clause-refused g c =
    let files = bytes_of c.args.task.now.files.items in
    refuses_write (first files) (second files) c.args.task.now c.in-Err.error c.in-Err.ensures.fault
