-- Lines without a line feed before their end, and texts of them.
use Rattle.std.proofs.Common.{◌≡◌, ◌∙◌, ℕ, zero, suc, ◌+◌, ◌/◌, ◌%◌, List, [], ◌∷◌, ◌++◌, length, Bool, true, false, cond, arith, refl, subst, sym, ap, codes, append_assoc}
use Rattle.std.specs.Prelude.{◌==◌, ◌≢◌, if◌then◌else◌, nat_lt}
use Rattle.std.specs.Fmt.{decimal, digit_glyph, digits, digits_onto}
use Rattle.std.specs.List.{All, concat, onto_first}
use Rattle.std.proofs.lemmas.Bool.{eqb-false, ne_eqb}
use Rattle.std.proofs.lemmas.List.{append-nil}
use Rattle.std.proofs.lemmas.List.Elements.{All-append, All-cons, All-head, All-nil, All-push, All-tail, All-weaker}
use Rattle.std.proofs.lemmas.List.Folds.{concat-append}
use Rattle.std.proofs.lemmas.List.Splits.{length-slice_split, slice_split_at}
use Rattle.waff_parse.specs.Texts.{parts}
use Rattle.waff_explain.specs.Lines.{AreHeadedLines, IsHeadedLine, LinesAreOne, head_text}
use Rattle.waff_explain.specs.declared.words.Head.{Head}
use Rattle.waff_explain.specs.declared.words.Head.TheVariants as head

-- the first of some parts
abbrev first_of : List (List ℕ) → List ℕ
first_of [] = []
first_of (part ∷ others) = part

-- the others
abbrev rest_of : List (List ℕ) → List (List ℕ)
rest_of [] = []
rest_of (part ∷ others) = others

-- the first part of a text has none of the bytes at which the text is cut
first-free : (c : ℕ) (text : List ℕ) → All (λ b. b ≢ c) (first_of (parts c text))
first-free c [] = All-nil (λ b. b ≢ c)
first-free c (b ∷ bs) = by (b == c) refl (parts c bs) (first-free c bs)
  where
    by : (here : Bool) → (b == c) ≡ here → (ps : List (List ℕ)) → All (λ x. x ≢ c) (first_of ps)
        → All (λ x. x ≢ c) (first_of (cond here ([] ∷ ps) (onto_first b ps)))
    by true is ps h = All-nil (λ x. x ≢ c)
    by false is [] h = All-cons (λ x. x ≢ c) b [] (eqb-false b c is) h
    by false is (p ∷ ps) h = All-cons (λ x. x ≢ c) b p (eqb-false b c is) h

pub parts-free : (c : ℕ) (text first : List ℕ) (others : List (List ℕ)) → parts c text ≡ first ∷ others → All (λ b. b ≢ c) first
parts-free c text first others is = subst (λ p. All (λ b. b ≢ c) p) (ap first_of is) (first-free c text)

-- a text of lines, and one line more if there was room for it
pub lines-push : (fits : Bool) (text line : List ℕ) → AreHeadedLines text → IsHeadedLine line
    → AreHeadedLines (if fits then text ++ line else text)
lines-push false text line are is = are
lines-push true text line are is = record {
  lines = are.lines ++ line ∷ [];
  headed = All-push IsHeadedLine are.lines line are.headed is;
  whole = concat-append are.lines (line ∷ []) ∙ (ap (λ t. t ++ (line ++ [])) are.whole ∙ ap (λ l. text ++ l) (append-nil line));
}

-- a number in decimal has no line feed
glyph_free : (d : ℕ) → digit_glyph false d ≢ 10
glyph_free d = by (nat_lt d 10)
  where
    by : (small : Bool) → cond small (48 + d) (87 + d) ≢ 10
    by true is = omega (arith, is)
    by false is = omega (arith, is)

digits_free : (k n : ℕ) (text : List ℕ) → All (λ b. b ≢ 10) text → All (λ b. b ≢ 10) (digits_onto k 10 false n text)
digits_free zero n text free = free
digits_free (suc k) n text free =
    let more : All (λ b. b ≢ 10) (digit_glyph false (n % 10) ∷ text) = All-cons (λ b. b ≢ 10) (digit_glyph false (n % 10)) text (glyph_free (n % 10)) free in
    by (n / 10 == 0) more (digits_free k (n / 10) (digit_glyph false (n % 10) ∷ text) more)
  where
    by : (last : Bool) → All (λ b. b ≢ 10) (digit_glyph false (n % 10) ∷ text)
        → All (λ b. b ≢ 10) (digits_onto k 10 false (n / 10) (digit_glyph false (n % 10) ∷ text))
        → All (λ b. b ≢ 10) (cond last (digit_glyph false (n % 10) ∷ text) (digits_onto k 10 false (n / 10) (digit_glyph false (n % 10) ∷ text)))
    by true last more = last
    by false last more = more

decimal_free : (n : ℕ) → All (λ b. b ≢ 10) (decimal n)
unfolding digits
decimal_free n = digits_free 64 n [] (All-nil (λ b. b ≢ 10))

-- nor has a head
head_free : (h : Head) → All (λ b. b ≢ 10) (head_text h)
head_free head.Where = parts-free 10 (codes "where: ") _ [] refl
head_free (head.Message n) =
    All-append (λ b. b ≢ 10) (codes "message ") (decimal n ++ codes ": ") (parts-free 10 (codes "message ") _ [] refl)
    (All-append (λ b. b ≢ 10) (decimal n) (codes ": ") (decimal_free n) (parts-free 10 (codes ": ") _ [] refl))
head_free head.Found = parts-free 10 (codes "found: ") _ [] refl
head_free head.Why = parts-free 10 (codes "why: ") _ [] refl
head_free head.Wanted = parts-free 10 (codes "wanted: ") _ [] refl
head_free head.Affinities = parts-free 10 (codes "affinities: ") _ [] refl

-- the first part of a text that begins with a line is the line up to its line feed
line_parts : (line rest : List ℕ) (is : IsHeadedLine line) → parts 10 (line ++ rest) ≡ (head_text is.head ++ is.said) ∷ parts 10 rest
line_parts line rest is =
    let front : List ℕ = head_text is.head ++ is.said in
    let free : All (λ b. b ≢ 10) front = All-append (λ b. b ≢ 10) (head_text is.head) is.said (head_free is.head) is.one_line in
    let whole : line ++ rest ≡ front ++ 10 ∷ rest =
    ap (λ l. l ++ rest) is.whole ∙ append_assoc (head_text is.head) (is.said ++ 10 ∷ []) rest
    ∙ ap (λ t. head_text is.head ++ t) (append_assoc is.said (10 ∷ []) rest)
    ∙ sym (append_assoc (head_text is.head) is.said (10 ∷ rest)) in
    ap (parts 10) whole
    ∙ slice_split_at (λ b. b == 10) front 10 rest (All-weaker (λ b. b ≢ 10) (λ b. (b == 10) ≡ false) (λ b. ne_eqb b 10) front free) refl

-- a line is its first part and a line feed
line_is : (line : List ℕ) (is : IsHeadedLine line) → line ≡ (head_text is.head ++ is.said) ++ 10 ∷ []
line_is line is = is.whole ∙ sym (append_assoc (head_text is.head) is.said (10 ∷ []))

-- texts with the same parts have the same lines
lines_same : (one other : List (List ℕ)) → All IsHeadedLine one → All IsHeadedLine other
    → parts 10 (concat one) ≡ parts 10 (concat other) → one ≡ other
lines_same [] [] is also same = refl
lines_same [] (line ∷ lines) is also same =
    let more = line_parts line (concat lines) (All-head IsHeadedLine line lines also) in
    absurd (omega (arith, ap length (same ∙ more), length-slice_split (λ b. b == 10) (concat lines)))
lines_same (line ∷ lines) [] is also same =
    let more = line_parts line (concat lines) (All-head IsHeadedLine line lines is) in
    absurd (omega (arith, ap length (sym same ∙ more), length-slice_split (λ b. b == 10) (concat lines)))
lines_same (line ∷ lines) (next ∷ others) is also same =
    let first = All-head IsHeadedLine line lines is in
    let second = All-head IsHeadedLine next others also in
    let both = sym (line_parts line (concat lines) first) ∙ same ∙ line_parts next (concat others) second in
    let fronts = ap first_of both in
    let ends = lines_same lines others (All-tail IsHeadedLine line lines is) (All-tail IsHeadedLine next others also) (ap rest_of both) in
    let equal : line ≡ next = line_is line first ∙ ap (λ t. t ++ 10 ∷ []) fronts ∙ sym (line_is next second) in
    ap (λ l. l ∷ lines) equal ∙ ap (λ ls. next ∷ ls) ends

pub lines_are_one : LinesAreOne
lines_are_one text one other =
    lines_same one.lines other.lines one.headed other.headed (ap (parts 10) (one.whole ∙ sym other.whole))
