use Rattle.waff_run.specs.Files.{numbers_of}
use Rattle.waff_run.proofs.Filing.{has_number, of_all}
use Rattle.waff_run.proofs.opening.open_cells.Goals as goal

pub returns-in-Err : goal.returns-in-Err
returns-in-Err c =
    let file = c.index-files-at.result in
    of_all c.args.layout.now.spaces c.args.places.now (numbers_of c.args.files.now) file.number c.args.is_own _
    (has_number c.args.files.now c.loop-at.at file c.loop-at-test.true c.index-files-at.is) c.in-Err.ensures
