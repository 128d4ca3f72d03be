-- Laws of the parts of a text, and of numbers.
use Rattle.std.proofs.Common.{◌≡◌, ℕ, ◌+◌, ◌-◌, ◌*◌, ◌^◌, ◌<◌, ◌≤◌, ◌⊎◌, inl, inr, List, [], ◌∷◌, length, take, drop, get_or, Bool, true, false, cond, Some, None, position, refl, sym, ap, ◌∙◌, arith}
use Rattle.std.specs.Prelude.{◌==◌, nat_lt, if◌then◌else◌}
use Rattle.std.specs.Char.{digit_value, is_ascii_digit}
use Rattle.std.specs.Int.{IsInRange}
use Rattle.std.specs.Str.Parse.{digits_value}
use Rattle.std.proofs.lemmas.Int.Digits.{digits_value_more}
use Rattle.std.specs.List.{onto_first, position_or_len}
use Rattle.std.proofs.lemmas.Bool.{cases_lt, eqb-true, le-ltb, lt-ltb}
use Rattle.std.proofs.lemmas.Bool.Decides.{nat_tests}
use Rattle.std.proofs.lemmas.List.Splits.{slice_split_none, slice_split_first}
use Rattle.std.proofs.lemmas.List.Quantifiers.{position-Some}
use Rattle.std.proofs.lemmas.List.Sums.{fails_before_first, position_or_len_is}
use Rattle.std.proofs.lemmas.Str.{digit_value_digit}
use Rattle.waff_parse.specs.Fields.{two_of}
use Rattle.waff_parse.specs.Texts.{parts, small}

-- the first place of a byte
pub record IsPlaceOf (c : ℕ) (text : List ℕ) (i : ℕ) : Type 0 where
  pub within : i < length text
  pub here : get_or text i 0 ≡ c
  pub parted : parts c text ≡ take i text ∷ parts c (drop (i + 1) text)

-- a text is parted at the first place of the byte
pub parts-place : (c : ℕ) (text : List ℕ) (i : ℕ) → Some i ≡ position (λ b. b == c) text → IsPlaceOf c text i
parts-place c text i is =
    let found = position-Some (λ b. b == c) text i 0 (sym is) in
    let first : position_or_len (λ b. b == c) text ≡ i =
    position_or_len_is (λ b. b == c) text i 0 (omega (arith, found.0)) found.2 (λ _. found.1) in
    record {
      within = found.0;
      here = eqb-true (get_or text i 0) c found.1;
      parted = rw (← first) (slice_split_first (λ b. b == c) text 0 (rw first found.0));
    }

-- a text without the byte is one part
pub parts-no_place : (c : ℕ) (text : List ℕ) → None ≡ position (λ b. b == c) text → parts c text ≡ text ∷ []
parts-no_place c text is =
    let past : length text ≤ position_or_len (λ b. b == c) text = grind (arith, nat_tests, is) in
    slice_split_none (λ b. b == c) text (λ k d in_text. fails_before_first (λ b. b == c) text k d (omega arith))

-- the value of a digit
pub value_of_digit : (c : ℕ) → is_ascii_digit c ≡ true → digit_value c ≡ c - 48
value_of_digit c h =
    let value = digit_value_digit c (digit_range c h) in
    omega (arith, value)
  where
    digit_range : (d : ℕ) → is_ascii_digit d ≡ true → IsInRange 48 57 d
    digit_range d e = grind (arith, nat_tests)

-- what small tells
pub small_is_value : (n value : ℕ) → small n ≡ Some value → value ≡ n
small_is_value n value e = by (nat_lt n (2 ^ 64)) e
  where
    by : (fits : Bool) → (if fits then Some n else None) ≡ Some value → value ≡ n
    by true is = sym (cc is)
    by false is = absurd (cc is)

-- what is more than a number that is not small is not small
pub large_is_none : (m n : ℕ) → small m ≡ None → m ≤ n → small n ≡ None
large_is_none m n e more = by (cases_lt m (2 ^ 64))
  where
    by : (m < 2 ^ 64) ⊎ (2 ^ 64 ≤ m) → small n ≡ None
    by (inl fits) =
        let some : small m ≡ Some m = rw (lt-ltb m (2 ^ 64) fits) refl in
        absurd (cc (sym e ∙ some))
    by (inr past) = rw (le-ltb n (2 ^ 64) (omega arith)) refl

-- a digit more
pub digit_more : (bytes : List ℕ) (i value : ℕ) → i < length bytes → is_ascii_digit (get_or bytes i 0) ≡ true → value ≡ digits_value 10 (take i bytes)
    → value * 10 + (get_or bytes i 0 - 48) ≡ digits_value 10 (take (i + 1) bytes)
digit_more bytes i value inside digit is =
    rw is (ap (λ (d : ℕ). digits_value 10 (take i bytes) * 10 + d) (sym (value_of_digit (get_or bytes i 0) digit)) ∙ sym (digits_value_more 10 bytes i inside))

-- a text has a first part
pub parts-cons : (c : ℕ) (text : List ℕ) → (first : List ℕ) × (others : List (List ℕ)) × (parts c text ≡ first ∷ others)
parts-cons c [] = ([], [], refl)
parts-cons c (b ∷ bs) = by (b == c) (parts-cons c bs)
  where
    by : (here : Bool) → (first : List ℕ) × (others : List (List ℕ)) × (parts c bs ≡ first ∷ others)
        → (first : List ℕ) × (others : List (List ℕ)) × (cond here ([] ∷ parts c bs) (onto_first b (parts c bs)) ≡ first ∷ others)
    by true p = ([], parts c bs, refl)
    by false p = (b ∷ p.0, p.1, ap (λ ps. onto_first b ps) p.2)

-- more than two parts are not two
pub parts-not-two : (c : ℕ) (text first others second more : List ℕ) → parts c text ≡ first ∷ parts c others → parts c others ≡ second ∷ parts c more
    → None ≡ two_of (parts c text)
parts-not-two c text first others second more one two =
    let some = parts-cons c more in
    rw (one, two, some.2) refl
