-- Lines of a text, one field after another.
use Rattle.std.proofs.Common.{◌≡◌, ℕ, List, [], ◌∷◌, ◌++◌, append_assoc, ◌∙◌, ap}
use Rattle.waff_plan_text.specs.Lines.{line_text}

-- a field and its comma, and then the rest of the line
pub first_field : (before with_field now field next : List ℕ) (rest : List (List ℕ)) → with_field ≡ before ++ (field ++ 44 ∷ [])
    → now ≡ with_field ++ line_text (next ∷ rest) → now ≡ before ++ line_text (field ∷ next ∷ rest)
first_field before with_field now field next rest first others =
    others ∙ ap (λ bs. bs ++ line_text (next ∷ rest)) first ∙ append_assoc before (field ++ 44 ∷ []) (line_text (next ∷ rest))
    ∙ ap (λ bs. before ++ bs) (one_line field next rest)
  where
    one_line : (field next : List ℕ) (rest : List (List ℕ)) → (field ++ 44 ∷ []) ++ line_text (next ∷ rest) ≡ line_text (field ∷ next ∷ rest)
    one_line field next rest = simp append_assoc
