-- Texts line by line.
use Rattle.std.proofs.Common.{◌≡◌, ℕ, ◌+◌, ◌-◌, ◌≤◌, List, ◌∷◌, ◌++◌, map, sym, ◌∙◌, ap, arith, append_assoc}
use Rattle.std.specs.List.{range_with_len}
use Rattle.std.proofs.lemmas.List.{flat_map_more}
use Rattle.std.proofs.lemmas.Grind.{flat_map-append}
use Rattle.std.proofs.lemmas.List.FromFn.{map-range_with_len_more}
use Rattle.waff_plan_text.specs.Lines.{line_text, text_of}

-- what stood before, the rows before m, and that of m
pub rows_further : (row : ℕ → List (List ℕ)) (m : ℕ) (before so_far now : List ℕ) → 1 ≤ m
    → so_far ≡ before ++ text_of (map row (range_with_len 1 (m - 1))) → now ≡ so_far ++ line_text (row m)
    → now ≡ before ++ text_of (map row (range_with_len 1 (m + 1 - 1)))
rows_further row m before so_far now from h k =
    let rows : List (List (List ℕ)) = map row (range_with_len 1 (m - 1)) in
    let one_more : m - 1 + 1 ≡ m + 1 - 1 = omega arith in
    k ∙ ap (λ bs. bs ++ line_text (row m)) h ∙ flat_map_more line_text before rows (row m)
    ∙ ap (λ ls. before ++ text_of ls) (sym (map-range_with_len_more row 1 (m - 1) m (omega arith)))
    ∙ ap (λ n. before ++ text_of (map row (range_with_len 1 n))) one_more

-- a text made in three parts: a first line, rows, and an end
pub three_parts : (first : List (List ℕ)) (rows end : List (List (List ℕ))) (one two three : List ℕ)
    → one ≡ line_text first → two ≡ one ++ text_of rows → three ≡ two ++ text_of end
    → three ≡ text_of (first ∷ rows ++ end)
three_parts first rows end one two three h k l =
    l ∙ ap (λ bs. bs ++ text_of end) (k ∙ ap (λ bs. bs ++ text_of rows) h)
    ∙ append_assoc (line_text first) (text_of rows) (text_of end)
    ∙ ap (λ bs. line_text first ++ bs) (sym (flat_map-append line_text rows end))
