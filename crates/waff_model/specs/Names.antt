-- Names of affinities, spaces and messages.
use Rattle.std.specs.Prelude.{◌==◌, ◌&&◌, ◌||◌, ℕ, Bool, List, length, nat_le}
use Rattle.std.specs.List.{list_all}
use Rattle.std.specs.Char.{is_ascii_alphanumeric}
use Rattle.waff_model.specs.declared.limits.TheConstants.{MAX_NAME}

-- a byte that a name may have: a letter, a digit, `.`, `_` or `-`
abbrev pub is_name_byte : ℕ → Bool
is_name_byte byte = is_ascii_alphanumeric byte || (byte == 46 || byte == 95 || byte == 45)

-- a name is 1 to 32 such bytes
abbrev pub is_name : List ℕ → Bool
is_name text =
    (nat_le 1 (length text) && nat_le (length text) MAX_NAME) && list_all is_name_byte text
