-- A ratio in hundredths, by its whole part and what is left over.
use Rattle.std.proofs.Common.{◌≡◌, ℕ, zero, suc, ◌+◌, ◌*◌, ◌/◌, ◌%◌, ◌<◌, ◌≤◌, [], ◌∷◌, ◌++◌, length, min, decimal, codes, arith, refl, sym, ◌∙◌, ap, subst}
use Rattle.std.proofs.Math.Nat.{div-lt_iff_lt-mul, mod-lt, mul-add-div_right, mul-suc, mul_comm, mul_right_comm}
use Rattle.std.proofs.lemmas.Fmt.{decimal_digit, decimal_injective}
use Rattle.std.proofs.lemmas.Grind.{div_ceil_times}
use Rattle.std.proofs.lemmas.List.{append_assoc, length-append, same_from_push}
use Rattle.std.proofs.lemmas.Nat.{div-add-mod'}
use Rattle.waff_plan_text.specs.Ratio.{HundredthsAreOne, RatioUpIsUpperBound, hundredths_field, hundredths_up, ratio_field}

-- the whole part, and the hundredths of what is left over
hundredths_by_parts : (sum count : ℕ) → 0 < count → sum * 100 / count ≡ sum / count * 100 + sum % count * 100 / count
hundredths_by_parts sum count some =
    let parts : sum / count * count + sum % count ≡ sum = div-add-mod' sum count in
    let turned : sum / count * count * 100 ≡ sum / count * 100 * count = mul_right_comm (sum / count) count 100 in
    let more : sum * 100 ≡ sum / count * 100 * count + sum % count * 100 = omega (arith, parts, turned) in
    ap (λ n. n / count) more ∙ mul-add-div_right some (sum / count * 100) (sum % count * 100)

-- and these are fewer than 100
part_is_small : (sum count : ℕ) → 0 < count → sum % count * 100 / count < 100
part_is_small sum count some =
    let left : sum % count < count = mod-lt sum some in
    let turned : 100 * count ≡ count * 100 = mul_comm 100 count in
    (div-lt_iff_lt-mul some).1 (omega (arith, left, turned))

-- so the digits are those of these parts
digits_by_parts : (n whole part : ℕ) → n ≡ whole * 100 + part → part < 100
    → (n / 100 ≡ whole) × (n / 10 % 10 ≡ part / 10) × (n % 10 ≡ part % 10)
digits_by_parts n whole part is small = (omega (arith, is, small), omega (arith, is, small), omega (arith, is, small))

pub mean_field : (sum one count : ℕ) → one ≡ count → 0 < count
    → decimal (sum / one) ++ (46 ∷ (decimal (sum % one * 100 / one / 10) ++ decimal (sum % one * 100 / one % 10))) ≡ ratio_field sum count
mean_field sum one zero is some = absurd (omega arith)
mean_field sum one (suc q) is some =
    let digits = digits_by_parts (sum * 100 / suc q) (sum / suc q) (sum % suc q * 100 / suc q) (hundredths_by_parts sum (suc q) some) (part_is_small sum (suc q) some) in
    let whole = decimal (sum / suc q) in
    let tenth = decimal (sum % suc q * 100 / suc q / 10) in
    let hundredth = decimal (sum % suc q * 100 / suc q % 10) in
    rw (is, digits.0, digits.1, digits.2) (sym (append_assoc (whole ++ 46 ∷ []) tenth hundredth ∙ append_assoc whole (46 ∷ []) (tenth ++ hundredth)))

-- the whole part, the point and the two digits
digits_of_hundredths : (n : ℕ)
    → hundredths_field n ≡ ((decimal (n / 100) ++ 46 ∷ []) ++ (48 + n / 10 % 10) ∷ []) ++ (48 + n % 10) ∷ []
digits_of_hundredths n =
    let tenth = decimal_digit (n / 10 % 10) (omega arith) in
    let hundredth = decimal_digit (n % 10) (omega arith) in
    ap (λ ds. ((decimal (n / 100) ++ 46 ∷ []) ++ ds) ++ decimal (n % 10)) tenth
    ∙ ap (λ ds. ((decimal (n / 100) ++ 46 ∷ []) ++ (48 + n / 10 % 10) ∷ []) ++ ds) hundredth

pub hundredths_are_one : HundredthsAreOne
hundredths_are_one m n small fits same =
    let texts = sym (digits_of_hundredths m) ∙ same ∙ digits_of_hundredths n in
    let last = same_from_push ((decimal (m / 100) ++ 46 ∷ []) ++ (48 + m / 10 % 10) ∷ []) ((decimal (n / 100) ++ 46 ∷ []) ++ (48 + n / 10 % 10) ∷ [])
    (48 + m % 10) (48 + n % 10) texts in
    let tenth = same_from_push (decimal (m / 100) ++ 46 ∷ []) (decimal (n / 100) ++ 46 ∷ []) (48 + m / 10 % 10) (48 + n / 10 % 10) last.0 in
    let point = same_from_push (decimal (m / 100)) (decimal (n / 100)) 46 46 tenth.0 in
    let whole : m / 100 ≡ n / 100 = decimal_injective (m / 100) (n / 100) small fits point.0 in
    let tenths : 48 + m / 10 % 10 ≡ 48 + n / 10 % 10 = tenth.1 in
    let hundredths : 48 + m % 10 ≡ 48 + n % 10 = last.1 in
    omega (arith, whole, tenths, hundredths)

-- rounded up it is at least the ratio, and its whole part is at most p
up_is_at_least : (p q : ℕ) → 100 * p ≤ hundredths_up p (suc q) * suc q
up_is_at_least p q =
    let up : p * 100 ≤ hundredths_up p (suc q) * suc q = (div_ceil_times (p * 100) (suc q) (omega arith)).0 in
    omega (arith, up)

up_is_small : (p q : ℕ) → hundredths_up p (suc q) ≤ p * 100
up_is_small p q =
    let whole : p * 100 / suc q * suc q + p * 100 % suc q ≡ p * 100 = div-add-mod' (p * 100) (suc q) in
    let once : p * 100 / suc q * suc q ≡ p * 100 / suc q * q + p * 100 / suc q = mul-suc (p * 100 / suc q) q in
    let up : hundredths_up p (suc q) ≡ p * 100 / suc q + min 1 (p * 100 % suc q) = refl in
    let part : min 1 (p * 100 % suc q) ≤ p * 100 % suc q = grind arith in
    omega (arith, whole, once, up, part)

pub ratio_up_is_upper_bound : RatioUpIsUpperBound
ratio_up_is_upper_bound p zero n small fits same =
    let long : length (codes "-") ≡ 1 = refl in
    let longer : length (hundredths_field n) ≡ length ((decimal (n / 100) ++ 46 ∷ []) ++ (48 + n / 10 % 10) ∷ []) + 1
    = ap length (digits_of_hundredths n) ∙ length-append ((decimal (n / 100) ++ 46 ∷ []) ++ (48 + n / 10 % 10) ∷ []) ((48 + n % 10) ∷ []) in
    let shorter = length-append (decimal (n / 100) ++ 46 ∷ []) ((48 + n / 10 % 10) ∷ []) in
    let equal : 1 ≡ length (hundredths_field n) = ap length same in
    absurd (omega (arith, longer, shorter, equal))
ratio_up_is_upper_bound p (suc q) n small fits same =
    let number : hundredths_up p (suc q) ≡ n
    = hundredths_are_one (hundredths_up p (suc q)) n (omega (arith, small, up_is_small p q)) fits same in
    subst (λ h. 100 * p ≤ h * suc q) number (up_is_at_least p q)
