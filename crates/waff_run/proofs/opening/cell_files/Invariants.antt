use Rattle.waff_run.specs.Files.{numbers_of}
use Rattle.waff_run.specs.Named.{cells_named}
use Rattle.waff_run.proofs.Filing.{AreFilesBelow}
use Rattle.waff_run.proofs.opening.cell_files.Given as goal

abbrev pub invariant-loop-number : goal.invariant-loop-number
invariant-loop-number l = AreFilesBelow l.places (cells_named l.trace.messages) l.number (numbers_of l.files.items)
