-- What the words of the command line ask for.
use Rattle.std.specs.Prelude.{◌≤◌, ◌+◌, ℕ, IfSome}
use Rattle.waff_core.specs.Seats.{IsSeats}
use Rattle.waff_figures.specs.declared.told.Told.TheVariants as told
use Rattle.waff_inputs.specs.declared.inputs.TheConstants.{MAX_RANKED}
use Rattle.waff_cli.specs.declared.commands.TheConstants.{MAX_STEPS, MAX_WORST}
use Rattle.waff_cli.specs.declared.words.Asked.{Asked}
use Rattle.waff_cli.specs.declared.words.Asked.TheVariants as asked

-- where a replay is asked for for a number of threads, that number is within the limits; of messages
-- of the greatest latency there is one at least; steps are within theirs. Numbers of workers are so by their type
abbrev pub IsWithinLimits : Asked → Type 0
IsWithinLimits (asked.Told (told.Worst workers rule most)) = (1 ≤ most) × (most ≤ MAX_WORST)
IsWithinLimits (asked.Told (told.Locks workers rule kind steps)) = steps ≤ MAX_STEPS
IsWithinLimits (asked.Replay workers) = IfSome workers IsSeats
IsWithinLimits asked = Unit {0}

-- the fewest and the most files that a command takes: where hierarchies are ranked, a trace and all
-- that can be ranked at most
abbrev pub files_taken : Asked → ℕ × ℕ
files_taken asked.PlanOfInput = (1, 1)
files_taken asked.Explain = (1, 3)
files_taken asked.Check = (3, 3)
files_taken asked.Rate = (3, 3)
files_taken (asked.Draw picture part) = (3, 3)
files_taken (asked.Compare k) = (3, 3)
files_taken (asked.Rank k rule) = (2, 1 + MAX_RANKED)
files_taken asked = (2, 2)

-- what is asked for takes so many files
pub record TakesFiles (asked : Asked) (files : ℕ) : Type 0 where
  pub least : (files_taken asked).0 ≤ files
  pub most : files ≤ (files_taken asked).1
