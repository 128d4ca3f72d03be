-- Texts of lines. A line is its fields; here a field is its bytes.
use Rattle.std.specs.Prelude.{◌≡◌, ℕ, List, [], ◌∷◌, ◌++◌, String, string_bytes}
use Rattle.std.specs.List.{flat_map, join_with_byte}

-- the fields joined by commas, and a line feed
abbrev pub line_text : List (List ℕ) → List ℕ
line_text fields = join_with_byte 44 fields ++ 10 ∷ []

-- the lines one after the other
abbrev pub text_of : List (List (List ℕ)) → List ℕ
text_of lines = flat_map line_text lines

-- a text has grown by a piece
abbrev pub Adds : {A : Type 0} → String A → String A → List ℕ → Type 0
Adds text more piece = string_bytes more ≡ string_bytes text ++ piece
