-- The text of lines in its parts.
use Rattle.std.proofs.Common.{◌≡◌, ℕ, List, [], ◌∷◌, ◌++◌, sym, ◌∙◌, ap}
use Rattle.std.proofs.lemmas.Grind.{flat_map-append}
use Rattle.std.proofs.lemmas.List.{append-nil}
use Rattle.waff_plan_text.specs.Lines.{line_text, text_of}

-- two lines, rows, more rows, and a line
pub five_parts : (first second last : List (List ℕ)) (rows more : List (List (List ℕ))) (one two three four five : List ℕ) → one ≡ line_text first
    → two ≡ one ++ line_text second → three ≡ two ++ text_of rows → four ≡ three ++ text_of more → five ≡ four ++ line_text last
    → five ≡ text_of (first ∷ second ∷ rows ++ more ++ last ∷ [])
five_parts first second last rows more one two three four five h k l m n =
    let x = line_text first in
    let y = line_text second in
    let head : two ≡ text_of (first ∷ second ∷ [])
    = k ∙ ap (λ t. t ++ y) h ∙ ap (λ t. x ++ t) (sym (append-nil y)) in
    let front : three ≡ text_of (first ∷ second ∷ rows)
    = l ∙ ap (λ t. t ++ text_of rows) head ∙ sym (flat_map-append line_text (first ∷ second ∷ []) rows) in
    let middle : four ≡ text_of ((first ∷ second ∷ rows) ++ more)
    = m ∙ ap (λ t. t ++ text_of more) front ∙ sym (flat_map-append line_text (first ∷ second ∷ rows) more) in
    n ∙ ap (λ t. t ++ line_text last) middle
    ∙ ap (λ t. text_of ((first ∷ second ∷ rows) ++ more) ++ t) (sym (append-nil (line_text last)))
    ∙ sym (flat_map-append line_text ((first ∷ second ∷ rows) ++ more) (last ∷ []))
