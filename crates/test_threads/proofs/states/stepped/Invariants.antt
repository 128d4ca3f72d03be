use Rattle.waff_model.specs.Messages.{sizes_of}
use Rattle.waff_cells.specs.Grid.{HasSizes}
use Rattle.test_threads.proofs.states.stepped.Given as goal

abbrev pub invariant-loop-n : goal.invariant-loop-n
invariant-loop-n l = HasSizes l.state (sizes_of l.layout.spaces)
