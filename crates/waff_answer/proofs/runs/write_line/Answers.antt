use Rattle.std.proofs.Common.{sym, subst}
use Rattle.waff_io.specs.Writing.{WritesOrFails}
use Rattle.waff_answer.specs.Runs.{run_message}
use Rattle.waff_answer.proofs.runs.write_line.Goals as goal

pub returns-in-Folder : goal.returns-in-Folder
returns-in-Folder g c =
    subst (λ error. WritesOrFails (g.E.ErrorStream.holds c.args.err.now) (g.E.ErrorStream.holds c.write_pieces-in-Folder.new.stream)
    (g.E.ErrorStream.failed c.write_pieces-in-Folder.new.stream) (run_message error) c.write_pieces-in-Folder.result)
    (sym c.in-Folder.is) c.write_pieces-in-Folder.ensures

pub returns-in-Foreign : goal.returns-in-Foreign
returns-in-Foreign g c =
    subst (λ error. WritesOrFails (g.E.ErrorStream.holds c.args.err.now) (g.E.ErrorStream.holds c.write_pieces-in-Foreign.new.stream)
    (g.E.ErrorStream.failed c.write_pieces-in-Foreign.new.stream) (run_message error) c.write_pieces-in-Foreign.result)
    (sym c.in-Foreign.is) (rw (c.as_str-in-Foreign.ensures.value) at c.write_pieces-in-Foreign.ensures)

pub returns-in-File : goal.returns-in-File
returns-in-File g c =
    subst (λ error. WritesOrFails (g.E.ErrorStream.holds c.args.err.now) (g.E.ErrorStream.holds c.write_pieces-in-File.new.stream)
    (g.E.ErrorStream.failed c.write_pieces-in-File.new.stream) (run_message error) c.write_pieces-in-File.result)
    (sym c.in-File.is) (rw (c.as_str-in-File.ensures.value) at c.write_pieces-in-File.ensures)
