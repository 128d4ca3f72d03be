-- What is to be done, by what the parser found of the words.
use Rattle.std.specs.Prelude.{ℕ, List, Option}
use Rattle.clap.specs.Words.{HasMatchesOf, IsParsedFrom, Row, app_of, subcommand_rows_of}
use Rattle.clap.specs.declared.builder.command.Command.{Command}
use Rattle.clap.specs.declared.parser.matches.ArgMatches.{ArgMatches}
use Rattle.waff_cli.specs.Words.{IsAskedBy, IsRunBy}
use Rattle.waff_cli.specs.declared.requests.Wanted.{Wanted}
use Rattle.waff_cli.specs.declared.requests.Wanted.TheVariants as wanted
use Rattle.waff_cli.specs.declared.task.Task.{Task}
use Rattle.waff_cli.specs.declared.task.Task.TheVariants as task

-- this is wanted by the words, before the files are read that they name
abbrev pub IsWanted : Option (List ℕ × List Row) → Wanted → Type 0
IsWanted found (wanted.Answer request) = IsAskedBy found request.asked
IsWanted found (wanted.Run request) = IsRunBy found request.words

-- the words say that this is to be done
abbrev pub IsTask : Option (List ℕ × List Row) → Task → Type 0
IsTask found (task.Question question) = IsAskedBy found question.asked
IsTask found (task.Run run) = IsRunBy found run.words

-- a parser finds this of words, the program's own name first
pub record IsFound (words : List (List ℕ)) (found : ArgMatches) : Type 0 where
  pub parser : Command
  pub parsed : IsParsedFrom parser found
  pub matches : HasMatchesOf (app_of parser) words found

-- these words say that this is to be done, by what a parser finds of them
pub record IsTaskOfWords (words : List (List ℕ)) (what : Task) : Type 0 where
  pub found : ArgMatches
  pub is_found : IsFound words found
  pub is_task : IsTask (subcommand_rows_of found) what
