-- A run tells a turn of each message.
use Rattle.std.proofs.Common.{◌≡◌, ℕ, List, [], ◌∷◌, length, sym, ◌∙◌, ap}
use Rattle.std.proofs.lemmas.List.{length-map, length-replicate}
use Rattle.waff_line.specs.Machine.{Course, Runs, State, Steps, Turn as Seen, no_turn, opening}
use Rattle.waff_line.specs.Noted.{shown}
use Rattle.waff_line.specs.Turns.{AreRunTurns}
use Rattle.waff_line.specs.declared.event.Event.{Event}
use Rattle.waff_line.specs.declared.event.Event.TheVariants.{Tell, Begin, End}
use Rattle.waff_line.specs.declared.turn.Turn.{Turn}
use Rattle.waff_line.proofs.Turns.{turns_as_many}

abbrev many_of : State → ℕ
many_of s = length s.turns

as_many_after : (course : Course) (s : State) (event : Event) (t : State) → Steps course s event t → many_of t ≡ many_of s
as_many_after course s (Tell now) t is = ap many_of is
as_many_after course s (Begin x n) t is = ap many_of is.1 ∙ turns_as_many s n _
as_many_after course s (End n now) t is = ap many_of is.1 ∙ turns_as_many s n _

as_many_in : (course : Course) (s : State) (events : List Event) (t : State) → Runs course s events t → many_of t ≡ many_of s
as_many_in course s [] t same = ap many_of (sym same)
as_many_in course s (event ∷ events) t runs = as_many_in course runs.0 events t runs.2 ∙ as_many_after course s event runs.0 runs.1

pub turns_of_all : (course : Course) (turns : List Turn) → AreRunTurns course turns → length turns ≡ course.work.count
turns_of_all course turns ran =
    sym (length-map turns shown) ∙ (ap length ran.shown
    ∙ (as_many_in course (opening course) ran.events ran.state ran.run ∙ length-replicate {A = Seen} course.work.count no_turn))
