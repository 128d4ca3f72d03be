-- What is told at a terminal.
use Rattle.std.specs.Prelude.{ℕ, List, [], string_bytes}
use Rattle.waff_cli.specs.declared.advice.Advice.{Advice}
use Rattle.waff_cli.specs.declared.advice.Advice.TheVariants as advice

-- the text of it
abbrev pub advice_text : Advice → List ℕ
advice_text advice.Nothing = []
advice_text (advice.Line line) = line.now
advice_text (advice.Text text) = string_bytes text
