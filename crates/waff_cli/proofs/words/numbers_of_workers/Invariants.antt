use Rattle.std.proofs.Common.{◌≡◌, map, take}
use Rattle.waff_cli.specs.Words.{number_of}
use Rattle.waff_cli.proofs.words.numbers_of_workers.Given as goal

abbrev pub invariant-loop-word : goal.invariant-loop-word
invariant-loop-word l =
    l.numbers.items ≡ map number_of (map (λ word. word.now) (take l.word-index l.words))
