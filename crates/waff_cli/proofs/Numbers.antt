-- The numbers of the words of an option.
use Rattle.std.proofs.Common.{◌≡◌, ◌∙◌, ◌+◌, ◌<◌, ℕ, suc, List, [], ◌∷◌, ◌++◌, length, map, take, get_or, Bor, ap, arith}
use Rattle.std.proofs.Math.Seq.{take-suc}
use Rattle.std.proofs.lemmas.List.{map-append}
use Rattle.waff_cli.specs.Words.{number_of}

-- the numbers of the first words and of the next one
pub read_further : (words : List (Bor (List ℕ))) (n : ℕ) (d : Bor (List ℕ)) → n < length words
    → map number_of (map (λ word. word.now) (take (n + 1) words))
    ≡ map number_of (map (λ word. word.now) (take n words)) ++ number_of (get_or words n d).now ∷ []
read_further words n d inside =
    let next : n + 1 ≡ suc n = omega arith in
    ap (λ k. map number_of (map (λ word. word.now) (take k words))) next
    ∙ ap (λ some. map number_of (map (λ word. word.now) some)) (take-suc words n d inside)
    ∙ ap (map number_of) (map-append (λ word. word.now) (take n words) (get_or words n d ∷ []))
    ∙ map-append number_of (map (λ word. word.now) (take n words)) ((get_or words n d).now ∷ [])

-- the first words and the next one
pub copied_further : (words : List (Bor (List ℕ))) (n : ℕ) (d : Bor (List ℕ)) → n < length words
    → map (λ word. word.now) (take (n + 1) words) ≡ map (λ word. word.now) (take n words) ++ (get_or words n d).now ∷ []
copied_further words n d inside =
    let next : n + 1 ≡ suc n = omega arith in
    ap (λ k. map (λ word. word.now) (take k words)) next
    ∙ ap (map (λ word. word.now)) (take-suc words n d inside)
    ∙ map-append (λ word. word.now) (take n words) (get_or words n d ∷ [])
