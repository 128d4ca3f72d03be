-- Parts of texts, and numbers.
use Rattle.std.specs.Prelude.{ℕ, ◌^◌, List, [], length, slice_index, Bool, not}
use Rattle.std.specs.Prelude.{◌==◌, ◌&&◌, false, nat_le, nat_lt, if◌then◌else◌, Option, Some, None}
use Rattle.std.specs.Prelude.{option_and_then}
use Rattle.std.specs.Char.{is_ascii_digit}
use Rattle.std.specs.List.{slice_split, list_all}
use Rattle.std.specs.Str.Parse.{digits_value}

-- the bytes that part texts
abbrev pub blank : ℕ
blank = 32

abbrev pub colon : ℕ
colon = 58

abbrev pub semicolon : ℕ
semicolon = 59

abbrev pub hyphen : ℕ
hyphen = 45

-- the parts of a text between the bytes c
abbrev pub parts : ℕ → List ℕ → List (List ℕ)
parts c text = slice_split (λ b. b == c) text

-- the parts of the text that comes after the first part, if there is one
abbrev pub parts_after : ℕ → Option (List ℕ) → List (List ℕ)
parts_after c None = []
parts_after c (Some others) = parts c others

-- more than one byte, the first of them the digit 0
abbrev pub has_leading_zero : List ℕ → Bool
has_leading_zero text = nat_lt 1 (length text) && (slice_index text 0 == 48)

-- a number: one digit or more, without a leading zero unless it is 0 itself
abbrev pub is_number : List ℕ → Bool
is_number text =
    not (length text == 0) && (not (has_leading_zero text) && list_all is_ascii_digit text)

-- the number that a text writes, of any length
abbrev pub number_of : List ℕ → Option ℕ
number_of text = if is_number text then Some (digits_value 10 text) else None

-- a number that fits 64 bits
abbrev pub small : ℕ → Option ℕ
small n = if nat_lt n (2 ^ 64) then Some n else None

-- a number from low to high
abbrev pub within : ℕ → ℕ → ℕ → Option ℕ
within low high n = if nat_lt n low then None else if nat_lt high n then None else Some n

-- the number from low to high that a text writes, if it does
abbrev pub number_within : ℕ → ℕ → List ℕ → Option ℕ
number_within low high text = option_and_then (within low high) (number_of text)

-- two numbers, the first at most the second
abbrev pub rising : Option ℕ → Option ℕ → Bool
rising None last = false
rising (Some first) None = false
rising (Some first) (Some last) = nat_le first last

-- both texts write numbers, the first at most the second
abbrev pub are_rising : List ℕ → List ℕ → Bool
are_rising first last = rising (number_of first) (number_of last)
