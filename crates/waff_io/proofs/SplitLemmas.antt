-- The first mark of an input.
use Rattle.std.proofs.Common.{◌≡◌, ℕ, ◌+◌, ◌-◌, ◌≤◌, ◌<◌, List, [], length, take, drop, true, false, Some, None, refl, ap, sym, ◌∙◌, arith}
use Rattle.std.specs.List.{position_or_len, range_with_len}
use Rattle.std.proofs.lemmas.Bool.Decides.{nat_tests}
use Rattle.std.proofs.lemmas.List.{take_rest}
use Rattle.std.proofs.lemmas.List.FromFn.{get_or-range_with_len, length-range_with_len}
use Rattle.std.proofs.lemmas.List.Sums.{position_or_len_is}
use Rattle.waff_io.specs.Split.{after_mark, before_mark, begins_line, behind_mark, is_mark, mark_of}

-- no mark stands before this place
abbrev pub NoneBefore : List ℕ → ℕ → Type 0
NoneBefore input place = (k : ℕ) → k < place → is_mark input k ≡ false

first_is : (input : List ℕ) (place : ℕ) → place ≤ length input → NoneBefore input place → (place < length input → is_mark input place ≡ true)
    → position_or_len (is_mark input) (range_with_len 0 (length input)) ≡ place
first_is input place within none here =
    let count = length-range_with_len 0 (length input) in
    let zero : (k : ℕ) → 0 + k ≡ k = λ k. omega arith in
    position_or_len_is (is_mark input) (range_with_len 0 (length input)) place 0 (omega (arith, count, within))
    (λ k before. ap (is_mark input) (get_or-range_with_len 0 (length input) k 0 (omega (arith, before, within)) ∙ zero k) ∙ none k before)
    (λ inside. ap (is_mark input) (get_or-range_with_len 0 (length input) place 0 (omega (arith, count, inside)) ∙ zero place) ∙ here (omega (arith, count, inside)))

pub at_mark : (input rest : List ℕ) (place : ℕ) → place < length input → NoneBefore input place → begins_line input place ≡ true
    → Some rest ≡ behind_mark (take (length input - place) (drop place input)) → (take place input ≡ before_mark input) × (rest ≡ after_mark input)
at_mark input rest place inside none begins found =
    let behind : behind_mark (drop place input) ≡ Some rest = sym (rw (take_rest input place) at found) in
    let count = length-range_with_len 0 (length input) in
    let first = first_is input place (omega (arith, inside)) none (λ _. rw (begins, behind) refl) in
    let mark : mark_of input ≡ Some place = grind (arith, nat_tests, first, count, inside) in
    (rw mark refl, rw (mark, behind) refl)

pub without_mark : (input : List ℕ) → NoneBefore input (length input) → (input ≡ before_mark input) × ([] ≡ after_mark input)
without_mark input none =
    let count = length-range_with_len 0 (length input) in
    let first = first_is input (length input) (omega arith) none (λ inside. absurd (omega (arith, inside))) in
    let mark : mark_of input ≡ None = grind (arith, nat_tests, first, count) in
    (rw mark refl, rw mark refl)
