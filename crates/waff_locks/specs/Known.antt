-- Figures that are known, of what is asked of a trace and a hierarchy.
use Rattle.std.specs.Prelude.{List}
use Rattle.waff_model.specs.declared.locking.Locking.{Locking}
use Rattle.waff_locks.specs.Sets.{AreFiguresWith}
use Rattle.waff_locks.specs.Steps.{HasFigures}
use Rattle.waff_locks.specs.declared.figures.SpaceFigures.{SpaceFigures}
use Rattle.waff_locks.specs.declared.sets.Known.{Known}
use Rattle.waff_locks.specs.declared.wanted.Asked.{Asked}

-- these are those of the hierarchy with these locks
abbrev pub IsKnown : Asked → Known → Type 0
IsKnown asked known = AreFiguresWith asked.wanted.now asked.layout.now asked.trace.now known.lockings.now known.figures

-- those of a space, locked beside these locks
abbrev pub IsMade : Asked → List Locking → SpaceFigures → Type 0
IsMade asked lockings = HasFigures asked.wanted.now asked.layout.now asked.trace.now lockings
