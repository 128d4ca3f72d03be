-- What is told of locks is one thing.
use Rattle.waff_model.specs.Layout.{Hierarchy, IsLayout}
use Rattle.waff_model.specs.Messages.{Arrivals, IsTrace}
use Rattle.waff_model.specs.Unique.{AtMostOne}
use Rattle.waff_locks.specs.LocksText.{TellsLocks}
use Rattle.waff_locks.specs.Sets.{AreFiguresUnder}
use Rattle.waff_locks.specs.declared.wanted.Wanted.{Wanted}

-- a trace has one set of figures under a hierarchy
abbrev pub FiguresAreOne : Wanted → Hierarchy → Arrivals → Type 0
FiguresAreOne wanted layout trace = IsLayout layout → IsTrace trace → AtMostOne (AreFiguresUnder wanted layout trace)

-- and one text
abbrev pub TextIsOne : Wanted → Hierarchy → Arrivals → Type 0
TextIsOne wanted layout trace = IsLayout layout → IsTrace trace → AtMostOne (TellsLocks wanted layout trace)
