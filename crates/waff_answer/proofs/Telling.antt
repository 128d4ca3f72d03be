-- A line on the error stream, and what stands behind it.
use Rattle.std.proofs.Common.{◌≡◌, ◌∙◌, ◌⊎◌, ◌++◌, ◌+◌, ◌<◌, ℕ, List, [], length, take, Option, Some, None, Result, Ok, Err, ap, append_assoc, arith, inl, inr, subst, sym}
use Rattle.std.proofs.Math.Seq.{take-append-add}
use Rattle.std.proofs.lemmas.List.{append-nil, length-append, take-append-le}
use Rattle.std.specs.Io.KnownBytes.{Appends}
use Rattle.waff_io.specs.Writing.{AppendsPart, Tells, WritesOrFails}
use Rattle.waff_io.specs.declared.writing.WriteFault.{WriteFault}

appends_behind : (old mid new : Option (List ℕ)) (line advice : List ℕ) → Appends old mid line → Appends mid new advice
    → Appends old new (line ++ advice)
appends_behind None mid new line advice first then = tt
appends_behind (Some a) None new line advice first then = absurd first
appends_behind (Some a) (Some b) None line advice first then = absurd then
appends_behind (Some a) (Some b) (Some c) line advice first then = then ∙ ap (λ l. l ++ advice) first ∙ append_assoc a line advice

-- the line was written, and then what stands behind it
pub tells_behind : (old mid new : Option (List ℕ)) (failed : Type 0) (line advice : List ℕ) → Appends old mid line
    → Tells mid new failed advice → Tells old new failed (line ++ advice)
tells_behind old mid new failed line advice first (inl whole) = inl (appends_behind old mid new line advice first whole)
tells_behind old mid new failed line advice first (inr part) =
    let n = part.0.0 in
    let same : take (length line + n) (line ++ advice) ≡ line ++ take n advice = take-append-add line advice n in
    let inside : length line + n < length (line ++ advice) = omega (arith, part.0.1, length-append line advice) in
    inr ((length line + n, inside, subst (Appends old new) (sym same) (appends_behind old mid new line (take n advice) first part.0.2)), part.1)

-- the line was not written whole
pub tells_part : (old new : Option (List ℕ)) (failed : Type 0) (line advice : List ℕ) → AppendsPart old new line × failed
    → Tells old new failed (line ++ advice)
tells_part old new failed line advice part =
    let n = part.0.0 in
    let same : take n (line ++ advice) ≡ take n line = take-append-le n line advice (omega (arith, part.0.1)) in
    inr ((n, omega (arith, part.0.1, length-append line advice), subst (Appends old new) (sym same) part.0.2), part.1)
