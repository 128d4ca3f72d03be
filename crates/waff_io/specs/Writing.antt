-- What a text that was not written whole leaves at a writer.
use Rattle.std.specs.Prelude.{ℕ, ◌<◌, ◌⊎◌, List, length, take, MatchResult, Option, Result}
use Rattle.std.specs.Io.KnownBytes.{Appends}
use Rattle.waff_io.specs.declared.writing.WriteFault.{WriteFault}

-- the writer has more by a part of the text from its front on, and not by all of it
abbrev pub AppendsPart : Option (List ℕ) → Option (List ℕ) → List ℕ → Type 0
AppendsPart old new text = (n : ℕ) × (n < length text) × Appends old new (take n text)

-- a text was written whole; or a write failed, which the stream knows, and it has a part of the text
abbrev pub WritesOrFails : {A : Type 0} → Option (List ℕ) → Option (List ℕ) → Type 0 → List ℕ
    → Result A WriteFault → Type 0
WritesOrFails old new failed text written =
    MatchResult written (λ _. Appends old new text) (λ _. AppendsPart old new text × failed)

-- the same, where nobody is told which of both it was
abbrev pub Tells : Option (List ℕ) → Option (List ℕ) → Type 0 → List ℕ → Type 0
Tells old new failed text = Appends old new text ⊎ (AppendsPart old new text × failed)
