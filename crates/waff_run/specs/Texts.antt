-- The texts that a run gives out.
use Rattle.std.specs.Prelude.{ℕ, Bool, List, Option, String, if◌then◌else◌, map, string_bytes}
use Rattle.std.specs.List.{list_any}
use Rattle.std.specs.Str.{bytes_eq}
use Rattle.waff_model.specs.Messages.{Arrivals}
use Rattle.waff_model.specs.declared.message.Message.{Message}
use Rattle.waff_assign.specs.Instance.{Instance}
use Rattle.waff_line.specs.Turns.{AreReached, AreRunTurns, course_by}
use Rattle.waff_line.specs.declared.turn.Turn.{Turn}
use Rattle.waff_record.specs.Left.{TellLeft}
use Rattle.waff_record.specs.Runs.{AreRunTexts}
use Rattle.waff_run.specs.Hands.{Asking, asking_of}
use Rattle.waff_run.specs.Places.{Placing}
use Rattle.waff_run.specs.declared.running.Settings.{Settings}
use Rattle.waff_run.specs.declared.syncing.Syncs.{Syncs}
use Rattle.waff_run.specs.declared.syncing.Syncs.TheVariants as syncs

-- texts tell a run of an instance by so many workers, where a tick is so many nanoseconds: events of the machine left turns,
-- and these are told, with their drift
pub record TellRun (hierarchy_file : List ℕ) (instance : Instance) (workers tick : ℕ)
    (measured_file text : List ℕ) (drift : Option ℕ) : Type 0 where
  pub turns : List Turn
  pub ran : AreRunTurns (course_by instance workers tick) turns
  pub texts : AreRunTexts hierarchy_file instance workers tick turns measured_file text drift

-- texts tell what is left of a run of an instance by so many workers that broke off: events of the machine led to turns, and
-- of these the messages are told that had ended
pub record TellPart (hierarchy_file : List ℕ) (instance : Instance) (workers tick : ℕ)
    (measured_file text : List ℕ) (drift : Option ℕ) : Type 0 where
  pub turns : List Turn
  pub reached : AreReached (course_by instance workers tick) turns
  pub left : TellLeft hierarchy_file instance workers tick turns measured_file text drift

-- the message has one of these names
abbrev pub is_named : {A : Type 0} → List (String A) → Message → Bool
is_named names message =
    list_any (λ name. bytes_eq (string_bytes name) message.name) names

-- which files are synced at the end of a message: all of its cells, where it has one of the names for which that is asked, else
-- those that it has written, where that is asked for, else none
abbrev pub syncs_by : Settings → Message → Syncs
syncs_by settings message =
    if is_named settings.syncs.now message then syncs.All
    else (if settings.sync_writes then syncs.Written else syncs.None)

-- what a run of this trace asks for
abbrev pub asking_by : Placing → Arrivals → Settings → Asking
asking_by placing trace settings =
    asking_of placing trace.messages (map (syncs_by settings) trace.messages)
