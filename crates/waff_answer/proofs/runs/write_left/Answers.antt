use Rattle.std.proofs.Common.{inl, string_bytes}
use Rattle.waff_answer.specs.Answers.{bytes_of, first, second}
use Rattle.waff_answer.proofs.Running.{leaves_left}
use Rattle.waff_answer.proofs.runs.write_left.Goals as goal

pub returns-in-Err-clause-part : goal.returns-in-Err-clause-part
returns-in-Err-clause-part g c =
    let files = bytes_of c.args.task.now.files.items in
    leaves_left (first files) (second files) c.args.task.now c.args.error (string_bytes c.args.left.told.text) c.args.left.told.drift
    (g.W.Write.contents c.args.out.now) (g.W.Write.contents c.write_texts.new.out) c.requires.wanted c.requires.told c.in-Err.ensures.part

pub returns-in-Ok-clause-part : goal.returns-in-Ok-clause-part
returns-in-Ok-clause-part g c =
    inl (record {
      wanted_so = c.requires.wanted;
      text = string_bytes c.args.left.told.text;
      is_text = c.requires.told;
      written = c.in-Ok.ensures.written;
    })
