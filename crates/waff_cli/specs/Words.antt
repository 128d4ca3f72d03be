-- What the words of a command ask for, by what the parser found of them.
use Rattle.std.specs.Prelude.{◌≡◌, ◌==◌, ◌+◌, ◌*◌, ◌-◌, ◌^◌, ℕ, Bool, true, false, List, [], Option, Some, None}
use Rattle.std.specs.Prelude.{codes, if◌then◌else◌, length, map, option_and_then, option_map, string_bytes, unwrap_or}
use Rattle.std.specs.List.{after_first, before_first}
use Rattle.std.specs.Option.{option_map_or}
use Rattle.std.specs.Str.{bytes_eq}
use Rattle.std.specs.Str.Parse.{digits_value, without_leading_plus}
use Rattle.clap.specs.Words.{Row, all_of, first_of, found_of, one_of, rows_of}
use Rattle.clap.specs.declared.parser.matches.ArgMatches.{ArgMatches}
use Rattle.waff_draw.specs.declared.parts.Part.{Part}
use Rattle.waff_figures.specs.declared.grouping.Columns.{Columns}
use Rattle.waff_figures.specs.declared.grouping.Columns.TheVariants as columns
use Rattle.waff_figures.specs.declared.grouping.Grouping.{Grouping}
use Rattle.waff_figures.specs.declared.grouping.Grouping.TheVariants as grouping
use Rattle.waff_figures.specs.declared.grouping.Label.{Label}
use Rattle.waff_figures.specs.declared.grouping.Label.TheVariants as label
use Rattle.waff_figures.specs.declared.told.Told.{Told}
use Rattle.waff_figures.specs.declared.told.Told.TheVariants as told
use Rattle.waff_list.specs.declared.rule.Rule.{Rule}
use Rattle.waff_list.specs.declared.rule.Rule.TheVariants as rule
use Rattle.waff_model.specs.declared.locking.Locking.{Locking}
use Rattle.waff_model.specs.declared.locking.Locking.TheVariants as locking
use Rattle.waff_cli.specs.declared.commands.TheConstants.{STEPS}
use Rattle.waff_cli.specs.declared.run_words.RunWords.{RunWords}
use Rattle.waff_cli.specs.declared.run_words.TheConstants.{CELL}
use Rattle.waff_cli.specs.declared.tick.TheConstants.{TICK}
use Rattle.waff_cli.specs.declared.words.Asked.{Asked}
use Rattle.waff_cli.specs.declared.words.Asked.TheVariants as asked
use Rattle.waff_draw.specs.declared.picture.Picture.{Picture}
use Rattle.waff_draw.specs.declared.picture.Picture.TheVariants as picture

-- what was found of the words of one command: for each option and file its words
abbrev pub rows_in : ArgMatches → List Row
rows_in matches = rows_of (found_of matches)

-- the rule that a word names
abbrev pub rule_named : List ℕ → Option Rule
rule_named word =
    if bytes_eq word (codes "arrival") then Some rule.Arrival
    else (if bytes_eq word (codes "longest") then Some rule.Longest else None)

-- the picture that a word names
abbrev pub picture_named : List ℕ → Option Picture
picture_named word =
    if bytes_eq word (codes "svg") then Some picture.Svg
    else (if bytes_eq word (codes "events") then Some picture.Events else None)

-- the label of messages, by whether `--names` is given and whether `--clients` is
abbrev pub label_for : Bool → Bool → Option Label
label_for true clients = Some label.Name
label_for false true = Some label.Client
label_for false false = None

-- what the messages of one row have in common, by whether `--names` is given
abbrev pub grouping_for : Bool → Grouping
grouping_for true = grouping.Name
grouping_for false = grouping.Affinity

-- which columns a line has, by whether `--figures` is given
abbrev pub columns_for : Bool → Columns
columns_for true = columns.Figures
columns_for false = columns.Costs

-- the number that a word spells in decimal digits, behind a plus or not
abbrev pub number_of : List ℕ → ℕ
number_of word = digits_value 10 (without_leading_plus word)

-- the number that the word of an option spells, where it is given
abbrev pub number_in : List Row → List ℕ → Option ℕ
number_in rows id = option_map number_of (one_of id rows)

abbrev pub workers_in : List Row → Option ℕ
workers_in rows = number_in rows (codes "workers")

-- each of the words of `--workers` is a number
abbrev pub swept_in : List Row → Option (List ℕ)
swept_in rows = option_map (map number_of) (all_of (codes "workers") rows)

-- an option without a word is given
abbrev pub is_set : List Row → List ℕ → Bool
is_set rows id = option_map_or (λ word. bytes_eq word (codes "true")) (first_of id rows) false

abbrev pub rule_in : List Row → Option Rule
rule_in rows = option_and_then rule_named (first_of (codes "rule") rows)

abbrev pub picture_in : List Row → Option Picture
picture_in rows = option_and_then picture_named (first_of (codes "as") rows)

abbrev pub label_in : List Row → Option Label
label_in rows = label_for (is_set rows (codes "names")) (is_set rows (codes "clients"))

abbrev pub grouping_in : List Row → Grouping
grouping_in rows = grouping_for (is_set rows (codes "names"))

-- the kind of locks, by whether `--shared` is given
abbrev pub locking_for : Bool → Locking
locking_for true = locking.Shared
locking_for false = locking.Exclusive

abbrev pub locking_in : List Row → Locking
locking_in rows = locking_for (is_set rows (codes "shared"))

abbrev pub steps_in : List Row → ℕ
steps_in rows = unwrap_or (number_in rows (codes "steps")) STEPS

abbrev pub columns_in : List Row → Columns
columns_in rows = columns_for (is_set rows (codes "figures"))

pub record IsPartGiven (rows : List Row) (part : Part) : Type 0 where
  pub begins : Some part.from ≡ number_in rows (codes "from")
  pub ends : part.to ≡ number_in rows (codes "to")

-- the words of this command ask what is told of a trace under a hierarchy
abbrev pub IsToldAsked : List ℕ → List Row → Told → Type 0
IsToldAsked command rows told.Assign = command ≡ codes "assign"
IsToldAsked command rows (told.Plan workers rule) =
    (command ≡ codes "plan") × (workers ≡ workers_in rows) × (rule_in rows ≡ Some rule)
IsToldAsked command rows told.Needs = command ≡ codes "needs"
IsToldAsked command rows (told.Sweep given rule) =
    (command ≡ codes "sweep") × (option_map (λ numbers. numbers.items) given ≡ swept_in rows)
    × (rule_in rows ≡ Some rule)
IsToldAsked command rows (told.Limits given rule) =
    (command ≡ codes "limits") × (option_map (λ numbers. numbers.items) given ≡ swept_in rows)
    × (rule_in rows ≡ Some rule)
IsToldAsked command rows (told.Where workers rule label columns) =
    (command ≡ codes "where") × (workers ≡ workers_in rows) × (rule_in rows ≡ Some rule)
    × (label ≡ label_in rows) × (columns ≡ columns_in rows)
IsToldAsked command rows (told.Waits workers rule grouping) =
    (command ≡ codes "waits") × (workers ≡ workers_in rows) × (rule_in rows ≡ Some rule)
    × (number_in rows (codes "worst") ≡ None) × (grouping ≡ grouping_in rows)
IsToldAsked command rows (told.Worst workers rule most) =
    (command ≡ codes "waits") × (workers ≡ workers_in rows) × (rule_in rows ≡ Some rule)
    × (number_in rows (codes "worst") ≡ Some most) × (grouping_in rows ≡ grouping.Affinity)
IsToldAsked command rows (told.Why grouping) =
    (command ≡ codes "why") × (grouping ≡ grouping_in rows)
IsToldAsked command rows (told.Locks workers rule kind steps) =
    (command ≡ codes "locks") × (workers ≡ workers_in rows) × (rule_in rows ≡ Some rule)
    × (kind ≡ locking_in rows) × (steps ≡ steps_in rows)

-- the words of this command ask for this
abbrev pub IsAsked : List ℕ → List Row → Asked → Type 0
IsAsked command rows asked.PlanOfInput = ⊥
IsAsked command rows (asked.Told told) = IsToldAsked command rows told
IsAsked command rows asked.Check = command ≡ codes "check"
IsAsked command rows (asked.Replay workers) =
    (command ≡ codes "replay") × (workers ≡ workers_in rows)
IsAsked command rows (asked.Compare k) =
    (command ≡ codes "compare") × (Some k ≡ workers_in rows)
IsAsked command rows asked.Rate = command ≡ codes "rate"
IsAsked command rows (asked.Draw picture part) =
    (command ≡ codes "draw") × (picture_in rows ≡ Some picture) × IsPartGiven rows part
IsAsked command rows (asked.Rank k rule) =
    (command ≡ codes "rank") × (Some k ≡ workers_in rows) × (rule_in rows ≡ Some rule)
IsAsked command rows asked.Explain = command ≡ codes "explain"

-- this is asked by what was found of all words: by a command, or without one
abbrev pub IsAskedBy : Option (List ℕ × List Row) → Asked → Type 0
IsAskedBy None what = what ≡ asked.PlanOfInput
IsAskedBy (Some command) what = IsAsked command.0 command.1 what

-- the nanoseconds of a number of microseconds, by what stands before its point and behind it
abbrev pub nanoseconds_of : List ℕ → List ℕ → ℕ
nanoseconds_of whole part = number_of whole * 1000 + number_of part * 10 ^ (3 - length part)

-- the nanoseconds of microseconds, which a word spells with a point or without one
abbrev pub tick_of : List ℕ → ℕ
tick_of word =
    nanoseconds_of (before_first (λ byte. byte == 46) word) (after_first (λ byte. byte == 46) word)

-- the words of `run` say that messages are run so
pub record IsRunGiven (rows : List Row) (words : RunWords) : Type 0 where
  pub folder : Some (string_bytes words.folder) ≡ first_of (codes "DIR") rows
  pub trace : option_map string_bytes words.trace ≡ first_of (codes "trace") rows
  pub workers : Some words.workers ≡ workers_in rows
  pub cell : words.cell ≡ unwrap_or (number_in rows (codes "cell")) CELL
  pub tick : words.tick ≡ option_map_or tick_of (first_of (codes "tick") rows) TICK
  pub over : words.over ≡ is_set rows (codes "over")
  pub fill : words.fill ≡ is_set rows (codes "fill")
  pub sync_writes : words.sync_writes ≡ is_set rows (codes "sync-writes")
  pub syncs : map string_bytes words.syncs.items ≡ unwrap_or (all_of (codes "sync") rows) []
  pub partial : words.partial ≡ is_set rows (codes "partial")

-- messages are to be run so, by what was found of all words
abbrev pub IsRunBy : Option (List ℕ × List Row) → RunWords → Type 0
IsRunBy None words = ⊥
IsRunBy (Some command) words = (command.0 ≡ codes "run") × IsRunGiven command.1 words
