-- Texts line by line.
use Rattle.std.proofs.Common.{◌≡◌, ℕ, ◌+◌, List, [], ◌∷◌, ◌++◌, map, sym, ◌∙◌, ap, arith, refl, append_assoc}
use Rattle.std.specs.List.{join_with_byte, range_with_len}
use Rattle.std.proofs.lemmas.Grind.{flat_map-append}
use Rattle.std.proofs.lemmas.List.{flat_map_more}
use Rattle.std.proofs.lemmas.List.FromFn.{map-range_with_len_more}
use Rattle.waff_plan_text.specs.Lines.{line_text, text_of}
use Rattle.waff_figures.specs.WorstText.{fields_text}

-- what stood before, the rows up to m, and that of m
pub rows_from_zero : (row : ℕ → List (List ℕ)) (m : ℕ) (before so_far now : List ℕ)
    → so_far ≡ before ++ text_of (map row (range_with_len 0 m)) → now ≡ so_far ++ line_text (row m)
    → now ≡ before ++ text_of (map row (range_with_len 0 (m + 1)))
rows_from_zero row m before so_far now h k =
    k ∙ ap (λ bs. bs ++ line_text (row m)) h ∙ flat_map_more line_text before (map row (range_with_len 0 m)) (row m)
    ∙ ap (λ ls. before ++ text_of ls) (sym (map-range_with_len_more row 0 m m (omega arith)))

-- a first line, and rows
pub two_parts : (first : List (List ℕ)) (rows : List (List (List ℕ))) (one two : List ℕ)
    → one ≡ line_text first → two ≡ one ++ text_of rows → two ≡ text_of (first ∷ rows)
two_parts first rows one two h k = k ∙ ap (λ bs. bs ++ text_of rows) h

-- a first line, rows, and a last line
pub three_parts : (first : List (List ℕ)) (rows : List (List (List ℕ))) (last : List (List ℕ)) (one two three : List ℕ)
    → one ≡ line_text first → two ≡ one ++ text_of rows → three ≡ two ++ line_text last
    → three ≡ text_of (first ∷ rows ++ last ∷ [])
three_parts first rows last one two three h k l =
    l ∙ ap (λ bs. bs ++ line_text last) (k ∙ ap (λ bs. bs ++ text_of rows) h)
    ∙ flat_map_more line_text (line_text first) rows last

-- a first line, rows, and more rows
pub first_and_rows : (first : List (List ℕ)) (rows more : List (List (List ℕ))) (one two three : List ℕ)
    → one ≡ line_text first → two ≡ one ++ text_of rows → three ≡ two ++ text_of more
    → three ≡ text_of (first ∷ rows ++ more)
first_and_rows first rows more one two three h k l =
    l ∙ ap (λ bs. bs ++ text_of more) (k ∙ ap (λ bs. bs ++ text_of rows) h)
    ∙ append_assoc (line_text first) (text_of rows) (text_of more)
    ∙ ap (λ bs. line_text first ++ bs) (sym (flat_map-append line_text rows more))

-- a line whose first field stands before others
field_first : (x y : List ℕ) (ys : List (List ℕ)) → line_text (x ∷ y ∷ ys) ≡ (x ++ 44 ∷ []) ++ line_text (y ∷ ys)
field_first x y ys =
    let rest = join_with_byte 44 (y ∷ ys) in
    append_assoc x (44 ∷ rest) (10 ∷ []) ∙ sym (append_assoc x (44 ∷ []) (rest ++ 10 ∷ []))

field_before : (x y : List ℕ) (xs ys : List (List ℕ)) → line_text (x ∷ (xs ++ y ∷ ys)) ≡ (x ++ 44 ∷ []) ++ line_text (xs ++ y ∷ ys)
field_before x y [] ys = field_first x y ys
field_before x y (z ∷ zs) ys = field_first x z (zs ++ y ∷ ys)

-- fields with their commas, and the rest of a line
fields_before : (xs : List (List ℕ)) (y : List ℕ) (ys : List (List ℕ)) → fields_text xs ++ line_text (y ∷ ys) ≡ line_text (xs ++ y ∷ ys)
fields_before [] y ys = refl
fields_before (x ∷ xs) y ys =
    append_assoc (x ++ 44 ∷ []) (fields_text xs) (line_text (y ∷ ys)) ∙ ap (λ bs. (x ++ 44 ∷ []) ++ bs) (fields_before xs y ys) ∙ sym (field_before x y xs ys)

-- a line in three pieces
pub line_of_pieces : (xs : List (List ℕ)) (y : List ℕ) (ys : List (List ℕ)) (z : List ℕ) (zs : List (List ℕ)) (text one two three : List ℕ)
    → one ≡ text ++ fields_text xs → two ≡ one ++ fields_text (y ∷ ys) → three ≡ two ++ line_text (z ∷ zs)
    → three ≡ text ++ line_text (xs ++ y ∷ (ys ++ z ∷ zs))
line_of_pieces xs y ys z zs text one two three h k l =
    l ∙ ap (λ bs. bs ++ line_text (z ∷ zs)) k ∙ append_assoc one (fields_text (y ∷ ys)) (line_text (z ∷ zs))
    ∙ ap (λ bs. one ++ bs) (fields_before (y ∷ ys) z zs) ∙ ap (λ bs. bs ++ line_text (y ∷ (ys ++ z ∷ zs))) h
    ∙ append_assoc text (fields_text xs) (line_text (y ∷ (ys ++ z ∷ zs))) ∙ ap (λ bs. text ++ bs) (fields_before xs y (ys ++ z ∷ zs))
