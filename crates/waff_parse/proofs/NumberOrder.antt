-- Numbers in order: of as many digits the first that differ tell, else the longer one is greater.
use Rattle.std.proofs.Common.{◌≡◌, ◌≢◌, inl, inr, ℕ, zero, suc, ◌+◌, ◌*◌, ◌<◌, ◌≤◌, List, [], ◌∷◌, length, take, get_or, true, sym, arith}
use Rattle.std.specs.Prelude.{nat_le, nat_lt, not, ◌==◌, ◌&&◌}
use Rattle.std.specs.Char.{digit_value, is_ascii_digit}
use Rattle.std.specs.Int.{IsInRange}
use Rattle.std.specs.List.{list_all}
use Rattle.std.specs.Str.Parse.{digits_value, digits_value_after}
use Rattle.std.proofs.lemmas.Bool.{and_parts, cases_lt}
use Rattle.std.proofs.lemmas.Bool.Decides.{nat_tests}
use Rattle.waff_parse.specs.Texts.{has_leading_zero, is_number}
use Rattle.waff_parse.proofs.TextLaws.{value_of_digit}

abbrev AreDigits : List ℕ → Type 0
AreDigits ds = list_all is_ascii_digit ds ≡ true

digit_range : (d : ℕ) → is_ascii_digit d ≡ true → IsInRange 48 57 d
digit_range d e = grind (arith, nat_tests)

-- what follows adds
after-more : (n : ℕ) (es : List ℕ) → n ≤ digits_value_after 10 n es
after-more n [] = omega arith
after-more n (e ∷ es) = omega (arith, after-more (n * 10 + digit_value e) es)

-- a number that is less stays less with more digits, where the other gets as many
after-less : (m n : ℕ) (ds es : List ℕ) → AreDigits ds → length ds ≤ length es → m < n → digits_value_after 10 m ds < digits_value_after 10 n es
after-less m n [] es digits long less = omega (arith, after-more n es)
after-less m n (d ∷ ds) [] digits long less = absurd (omega arith)
after-less m n (d ∷ ds) (e ∷ es) digits long less =
    let both = and_parts (is_ascii_digit d) (list_all is_ascii_digit ds) digits in
    let range = digit_range d both.0 in
    after-less (m * 10 + digit_value d) (n * 10 + digit_value e) ds es both.1 (omega arith) (omega (arith, value_of_digit d both.0, range, less))

-- the first digits that differ tell
pub first_differ : (n i : ℕ) (xs ys : List ℕ) → AreDigits xs → AreDigits ys → length xs ≡ length ys → take i xs ≡ take i ys → i < length xs
    → get_or xs i 0 < get_or ys i 0 → digits_value_after 10 n xs < digits_value_after 10 n ys
first_differ n i [] ys dx dy same front within less = absurd (omega arith)
first_differ n i (x ∷ xs) [] dx dy same front within less = absurd (omega (arith, same))
first_differ n zero (x ∷ xs) (y ∷ ys) dx dy same front within less =
    let here = and_parts (is_ascii_digit x) (list_all is_ascii_digit xs) dx in
    let there = and_parts (is_ascii_digit y) (list_all is_ascii_digit ys) dy in
    after-less (n * 10 + digit_value x) (n * 10 + digit_value y) xs ys here.1 (omega (arith, same))
    (omega (arith, value_of_digit x here.0, value_of_digit y there.0, digit_range x here.0, less))
first_differ n (suc i) (x ∷ xs) (y ∷ ys) dx dy same front within less =
    let here = and_parts (is_ascii_digit x) (list_all is_ascii_digit xs) dx in
    let there = and_parts (is_ascii_digit y) (list_all is_ascii_digit ys) dy in
    let one : x ≡ y = cc in
    let rest : take i xs ≡ take i ys = cc in
    rw one (first_differ (n * 10 + digit_value y) i xs ys here.1 there.1 (omega (arith, same)) rest (omega (arith, within)) less)

-- so they tell whether one number is at most the other
pub differ_tell : (xs ys : List ℕ) (i : ℕ) → AreDigits xs → AreDigits ys → length xs ≡ length ys → take i xs ≡ take i ys → i < length xs
    → get_or xs i 0 ≢ get_or ys i 0 → nat_lt (get_or xs i 0) (get_or ys i 0) ≡ nat_le (digits_value 10 xs) (digits_value 10 ys)
differ_tell xs ys i dx dy same front within differ = elim (cases_lt (get_or xs i 0) (get_or ys i 0)) [
  | inl less ↦
      let below : digits_value 10 xs < digits_value 10 ys = first_differ 0 i xs ys dx dy same front within less in
      grind (arith, nat_tests, less, below)
  | inr more ↦
      let above : digits_value 10 ys < digits_value 10 xs =
      first_differ 0 i ys xs dy dx (sym same) (sym front) (omega (arith, same, within)) (omega (arith, more, differ)) in
      grind (arith, nat_tests, more, above)
]

pub digits_of : (text : List ℕ) → is_number text ≡ true → AreDigits text
digits_of text number =
    (and_parts (not (has_leading_zero text)) (list_all is_ascii_digit text) (and_parts (not (length text == 0)) (not (has_leading_zero text) && list_all is_ascii_digit text) number).1).1

-- a longer number is greater
pub longer_greater : (first second : List ℕ) → is_number first ≡ true → is_number second ≡ true → length first < length second
    → digits_value 10 first < digits_value 10 second
longer_greater first [] a b longer = absurd (omega arith)
longer_greater [] (d ∷ ds) a b longer = absurd (cc a)
longer_greater (x ∷ xs) (d ∷ ds) a b longer =
    let digits = digits_of (d ∷ ds) b in
    let shaped = (and_parts (not (length (d ∷ ds) == 0)) (not (has_leading_zero (d ∷ ds)) && list_all is_ascii_digit (d ∷ ds)) b).1 in
    let lead = (and_parts (not (has_leading_zero (d ∷ ds))) (list_all is_ascii_digit (d ∷ ds)) shaped).0 in
    let here = (and_parts (is_ascii_digit d) (list_all is_ascii_digit ds) digits).0 in
    let some : 48 < d = grind (arith, nat_tests, lead, longer, digit_range d here) in
    after-less 0 (0 * 10 + digit_value d) (x ∷ xs) ds (digits_of (x ∷ xs) a) (omega arith) (omega (arith, value_of_digit d here, some))

-- the lengths of two numbers tell, where they differ
pub lengths_tell : (first second : List ℕ) → is_number first ≡ true → is_number second ≡ true → length first ≢ length second
    → nat_lt (length first) (length second) ≡ nat_le (digits_value 10 first) (digits_value 10 second)
lengths_tell first second a b differ = elim (cases_lt (length first) (length second)) [
  | inl less ↦
      let below : digits_value 10 first < digits_value 10 second = longer_greater first second a b less in
      grind (arith, nat_tests, less, below)
  | inr more ↦
      let above : digits_value 10 second < digits_value 10 first = longer_greater second first b a (omega (arith, more, differ)) in
      grind (arith, nat_tests, more, above)
]
