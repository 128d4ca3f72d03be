-- What was found of the words asks for one thing, or says of one way how messages are to be run.
use Rattle.std.specs.Prelude.{◌≡◌, ℕ, List, Option, map, option_map, string_bytes}
use Rattle.clap.specs.Words.{Row}
use Rattle.waff_figures.specs.declared.told.Told.{Told}
use Rattle.waff_figures.specs.declared.told.Told.TheVariants as told
use Rattle.waff_cli.specs.Words.{IsAskedBy, IsRunBy}
use Rattle.waff_cli.specs.declared.run_words.RunWords.{RunWords}
use Rattle.waff_cli.specs.declared.words.Asked.{Asked}
use Rattle.waff_cli.specs.declared.words.Asked.TheVariants as asked

-- the same is told: of several numbers of workers each one is the same
abbrev pub IsSameTold : Told → Told → Type 0
IsSameTold (told.Sweep given rule) (told.Sweep other by) =
    (option_map (λ numbers. numbers.items) given ≡ option_map (λ numbers. numbers.items) other)
    × (rule ≡ by)
IsSameTold (told.Limits given rule) (told.Limits other by) =
    (option_map (λ numbers. numbers.items) given ≡ option_map (λ numbers. numbers.items) other)
    × (rule ≡ by)
IsSameTold what other = what ≡ other

-- the same is asked
abbrev pub IsSameAsked : Asked → Asked → Type 0
IsSameAsked (asked.Told what) (asked.Told other) = IsSameTold what other
IsSameAsked (asked.Draw picture part) (asked.Draw other some) =
    (picture ≡ other) × (part.from ≡ some.from) × (part.to ≡ some.to)
IsSameAsked what other = what ≡ other

-- what was found asks for the same each time
abbrev pub AskedIsOne : Option (List ℕ × List Row) → Type 0
AskedIsOne found = (what other : Asked) → IsAskedBy found what → IsAskedBy found other → IsSameAsked what other

-- messages are to be run in the same way
pub record IsSameRun (words other : RunWords) : Type 0 where
  pub folder : string_bytes words.folder ≡ string_bytes other.folder
  pub trace : option_map string_bytes words.trace ≡ option_map string_bytes other.trace
  pub workers : words.workers ≡ other.workers
  pub cell : words.cell ≡ other.cell
  pub tick : words.tick ≡ other.tick
  pub over : words.over ≡ other.over
  pub fill : words.fill ≡ other.fill
  pub sync_writes : words.sync_writes ≡ other.sync_writes
  pub syncs : map string_bytes words.syncs.items ≡ map string_bytes other.syncs.items
  pub partial : words.partial ≡ other.partial

-- what was found says of one way how messages are to be run
abbrev pub RunIsOne : Option (List ℕ × List Row) → Type 0
RunIsOne found =
    (words other : RunWords) → IsRunBy found words → IsRunBy found other → IsSameRun words other
