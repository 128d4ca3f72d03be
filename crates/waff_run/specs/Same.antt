-- Which files are one, whatever their names.
use Rattle.std.specs.Prelude.{◌≡◌, ◌==◌, ◌&&◌, ℕ, Bool, true, false, ◌<◌, List, Option, Some, None, slice_index_or, length, string_bytes}
use Rattle.std.specs.Str.{bytes_eq}
use Rattle.waff_run.specs.declared.same.Identity.{Identity}

-- two names are those of one file: they have one device and one number there, and where the file is not there yet one name in one folder
abbrev pub is_same_file : Identity → Identity → Bool
is_same_file one other =
    (one.device == other.device)
    && ((one.inode == other.inode) && bytes_eq (string_bytes one.name) (string_bytes other.name))

-- a file that cannot be told is no other one
abbrev pub are_one_file : Option Identity → Option Identity → Bool
are_one_file (Some one) (Some other) = is_same_file one other
are_one_file one other = false

-- the file at this place comes again behind it
pub record ComesAgain (files : List (Option Identity)) (at : ℕ) : Type 0 where
  pub again : ℕ
  pub behind : at < again
  pub within : again < length files
  pub same : (d : Option Identity)
      → are_one_file (slice_index_or files at d) (slice_index_or files again d) ≡ true

-- the first of these files that is another one of them too, where there is one. It comes again behind it: what is before it is
-- none of them
abbrev pub IsFirstOfTwo : List (Option Identity) → Option ℕ → Type 0
IsFirstOfTwo files (Some at) =
    ComesAgain files at × ((before : ℕ) → before < at → ¬ ComesAgain files before)
IsFirstOfTwo files None = (at : ℕ) → ¬ ComesAgain files at
