-- How a ratio is printed (own).
use Rattle.std.specs.Prelude.{◌≡◌, ℕ, zero, suc, ◌*◌, ◌/◌, ◌%◌, ◌^◌, ◌<◌, ◌≤◌, List, ◌++◌, codes, decimal}
use Rattle.std.specs.Int.{div_ceil}

-- a number of hundredths, with two digits after the point
abbrev pub hundredths_field : ℕ → List ℕ
hundredths_field n = decimal (n / 100) ++ codes "." ++ decimal (n / 10 % 10) ++ decimal (n % 10)

-- p / q, rounded down to hundredths; `-` where q is 0
abbrev pub ratio_field : ℕ → ℕ → List ℕ
ratio_field p zero = codes "-"
ratio_field p (suc q) = hundredths_field (p * 100 / suc q)

-- p / q in hundredths, rounded up
abbrev pub hundredths_up : ℕ → ℕ → ℕ
hundredths_up p q = div_ceil (p * 100) q

-- p / q, rounded up to hundredths; `-` where q is 0
abbrev pub ratio_up_field : ℕ → ℕ → List ℕ
ratio_up_field p zero = codes "-"
ratio_up_field p (suc q) = hundredths_field (hundredths_up p (suc q))

-- what is printed as a number of hundredths whose whole part fits into 64 bits is one number
abbrev pub HundredthsAreOne : Type 0
HundredthsAreOne =
    (m n : ℕ) → m / 100 < 2 ^ 64 → n / 100 < 2 ^ 64 → hundredths_field m ≡ hundredths_field n
    → m ≡ n

-- where p / q is printed so, rounded up, it is at most this number of hundredths
abbrev pub RatioUpIsUpperBound : Type 0
RatioUpIsUpperBound =
    (p q n : ℕ) → p < 2 ^ 64 → n / 100 < 2 ^ 64 → ratio_up_field p q ≡ hundredths_field n
    → 100 * p ≤ n * q
