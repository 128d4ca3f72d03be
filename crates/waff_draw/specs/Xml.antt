-- Text in a document of markup, between tags, where quotes stay as they are.
use Rattle.std.specs.Prelude.{ℕ, ◌==◌, List, if◌then◌else◌, codes, encode_utf8}
use Rattle.std.specs.List.{flat_map}
use Rattle.std.specs.Str.{chars}

-- a character, by its entity where it is one of markup
abbrev pub xml_char : ℕ → List ℕ
xml_char c =
    if c == 38 then codes "&amp;" else
    if c == 60 then codes "&lt;" else
    if c == 62 then codes "&gt;" else encode_utf8 c

-- the characters of a text, each so
abbrev pub xml_text : List ℕ → List ℕ
xml_text text = flat_map xml_char (chars text)
