use Rattle.std.proofs.Common.{◌≡◌, ◌∙◌, ◌++◌, ◌∷◌, ℕ, List, [], Bor, ap, map, sym, subst, take}
use Rattle.std.proofs.lemmas.List.{take_all}
use Rattle.waff_cli.specs.Words.{number_of}
use Rattle.waff_cli.proofs.Numbers.{read_further}
use Rattle.waff_cli.proofs.words.numbers_of_workers.Goals as goal

abbrev none : Bor (List ℕ)
none = record { ref_ptr = (0, 0); now = [] }

pub loop-word-preserved : goal.loop-word-preserved
loop-word-preserved c =
    let words = c.args.words.now in
    let n = c.loop-word.word-index in
    c.in_ok-push.ensures.items ∙ ap (λ some. some ++ c.in_ok-number.number ∷ []) c.loop-word.invariant
    ∙ ap (λ k. map number_of (map (λ word. word.now) (take n words)) ++ k ∷ []) c.in_ok-number.ensures
    ∙ sym (read_further words n none c.loop-word-test.true)

pub returns : goal.returns
returns c = subst (λ some. c.loop-word.numbers.items ≡ map number_of (map (λ word. word.now) some))
    (take_all c.loop-word.word-index c.args.words.now c.loop-word-test.false) c.loop-word.invariant
