-- The lines of an explanation below its first line.
use Rattle.std.specs.Prelude.{◌≡◌, ◌≢◌, ℕ, List, [], ◌∷◌, ◌++◌, ◌==◌, All, count_by, codes}
use Rattle.std.specs.List.{concat}
use Rattle.std.specs.Fmt.{decimal}
use Rattle.waff_explain.specs.declared.words.Head.{Head}
use Rattle.waff_explain.specs.declared.words.Head.TheVariants as head

-- what a line begins with
abbrev pub head_text : Head → List ℕ
head_text head.Where = codes "where: "
head_text (head.Message n) = codes "message " ++ decimal n ++ codes ": "
head_text head.Found = codes "found: "
head_text head.Why = codes "why: "
head_text head.Wanted = codes "wanted: "
head_text head.Affinities = codes "affinities: "

-- a line that begins with one of the heads and ends with a line feed, and there is none before its
-- end
pub record IsHeadedLine (line : List ℕ) : Type 0 where
  pub head : Head
  pub said : List ℕ
  pub one_line : All (λ byte. byte ≢ 10) said
  pub whole : line ≡ head_text head ++ (said ++ 10 ∷ [])

-- a text of such lines, one after the other
pub record AreHeadedLines (text : List ℕ) : Type 0 where
  pub lines : List (List ℕ)
  pub headed : All IsHeadedLine lines
  pub whole : concat lines ≡ text

-- a text is parted into such lines in one way, so no line holds what reads as another
abbrev pub LinesAreOne : Type 0
LinesAreOne = (text : List ℕ) (one other : AreHeadedLines text) → one.lines ≡ other.lines

-- at how many places of a format a value stands: one for each `{`
abbrev pub places : List ℕ → ℕ
places format = count_by (λ byte. byte == 123) format
