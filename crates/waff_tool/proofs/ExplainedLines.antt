-- No line of an explanation below its first one is a first line, and more lines may stand below.
use Rattle.std.proofs.Common.{◌≡◌, ◌∙◌, ℕ, ◌+◌, ◌*◌, List, [], ◌∷◌, ◌++◌, Bool, true, false, Option, true≢false, refl, sym, ap, codes, append_assoc}
use Rattle.std.specs.Prelude.{◌==◌, ◌&&◌, ◌||◌, slice_index}
use Rattle.std.specs.List.{concat}
use Rattle.std.proofs.lemmas.List.Elements.{All-append}
use Rattle.std.proofs.lemmas.List.Folds.{concat-append}
use Rattle.waff_explain.specs.Lines.{AreHeadedLines, IsHeadedLine, head_text}
use Rattle.waff_explain.specs.declared.words.Head.{Head}
use Rattle.waff_explain.specs.declared.words.Head.TheVariants as head
use Rattle.waff_check.specs.declared.verdict.Verdict.TheVariants as verdict
use Rattle.waff_inputs.specs.declared.fault.ToolError.TheVariants as tool
use Rattle.waff_tool.specs.Explanations.{first_line, IsExplanation, IsToldBelow, LinesAreNoFirstLines}
use Rattle.waff_tool.specs.declared.explains.Explained.{Explained}
use Rattle.waff_tool.specs.declared.explains.Explained.TheVariants as explained

-- the first three bytes of a text, as one number
abbrev three : List ℕ → ℕ
three text = slice_index text 0 * 65536 + slice_index text 1 * 256 + slice_index text 2

-- whether a text begins as a head does; `affinities` and `affinity` part at their eighth byte
abbrev begins : List ℕ → Bool
begins text =
    (three text == three (codes "where: "))
    || ((three text == three (codes "message "))
    || ((three text == three (codes "found: "))
    || ((three text == three (codes "why: "))
    || ((three text == three (codes "wanted: "))
    || ((three text == three (codes "affinities: ")) && (slice_index text 7 == 105))))))

head_begins : (h : Head) (rest : List ℕ) → begins (head_text h ++ rest) ≡ true
head_begins head.Where rest = refl
head_begins (head.Message n) rest = refl
head_begins head.Found rest = refl
head_begins head.Why rest = refl
head_begins head.Wanted rest = refl
head_begins head.Affinities rest = refl

first_begins : (e : Explained) → begins (first_line e) ≡ false
first_begins explained.Well = refl
first_begins (explained.Fault (tool.Hier file fault)) = refl
first_begins (explained.Fault (tool.Trace fault)) = refl
first_begins (explained.Fault (tool.PlanText fault)) = refl
first_begins (explained.Fault tool.SpacesDiffer) = refl
first_begins (explained.Fault tool.ModelsSame) = refl
first_begins (explained.Fault tool.Write) = refl
first_begins (explained.Fault tool.Memory) = refl
first_begins (explained.Fault tool.TooManyCells) = refl
first_begins (explained.Verdict (verdict.Overlap first second)) = refl
first_begins (explained.Verdict (verdict.TooManyAt tick)) = refl
first_begins (explained.Verdict (verdict.Worker message)) = refl
first_begins (explained.Verdict (verdict.Affinity message)) = refl
first_begins (explained.Verdict (verdict.Finish message)) = refl
first_begins (explained.Verdict verdict.Totals) = refl
first_begins (explained.Verdict (verdict.NotAChain place)) = refl
first_begins (explained.Verdict (verdict.Early message)) = refl
first_begins (explained.Verdict (verdict.Client message)) = refl
first_begins (explained.Verdict (verdict.After message awaited)) = refl
first_begins (explained.Verdict verdict.Obeys) = refl
first_begins (explained.Verdict verdict.Shortest) = refl
first_begins (explained.Verdict verdict.Tight) = refl
first_begins (explained.Verdict verdict.WithinBound) = refl

pub lines_are_no_first_lines : LinesAreNoFirstLines
lines_are_no_first_lines line e is same =
    true≢false (sym (head_begins is.head (is.said ++ 10 ∷ [])) ∙ (ap begins (sym is.whole ∙ same) ∙ first_begins e))

-- lines, and lines behind them
lines_join : (text more : List ℕ) → AreHeadedLines text → AreHeadedLines more → AreHeadedLines (text ++ more)
lines_join text more are others = record {
  lines = are.lines ++ others.lines;
  headed = All-append IsHeadedLine are.lines others.lines are.headed others.headed;
  whole =
      concat-append are.lines others.lines
      ∙ (ap (λ t. t ++ concat others.lines) are.whole ∙ ap (λ t. text ++ t) others.whole);
}

below_more : (line text more : List ℕ) → IsToldBelow line text → AreHeadedLines more → IsToldBelow line (text ++ more)
below_more line text more told are = record {
  words = told.words ++ more;
  headed = lines_join told.words more told.headed are;
  whole = ap (λ t. t ++ more) told.whole ∙ append_assoc line told.words more;
}

-- an explanation with more lines below it
pub explanation_more : (hierarchy : List ℕ) (trace plan : Option (List ℕ)) (e : Explained) (text more : List ℕ)
    → IsExplanation hierarchy trace plan e text → AreHeadedLines more
    → IsExplanation hierarchy trace plan e (text ++ more)
explanation_more hierarchy trace plan e text more is are = record {
  is_explained = is.is_explained;
  told = below_more (first_line e) text more is.told are;
}
