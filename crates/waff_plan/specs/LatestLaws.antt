-- That the latest of some messages is the same in whatever order they come.
use Rattle.std.proofs.Common.{◌≡◌, ℕ, Bool, true, false, Option, Some, None}
use Rattle.std.proofs.Common.{arith, refl, sym, ◌∙◌, ap}
use Rattle.std.proofs.lemmas.Bool.{false≢true}
use Rattle.std.proofs.lemmas.Bool.Decides.{nat_tests}
use Rattle.waff_model.specs.Later.{IsMonoid}
use Rattle.waff_plan.specs.Latest.{is_later, later_of, latest_order}
use Rattle.waff_plan.specs.declared.latest.Latest.{Latest}

-- the other message is the later one, or it is not
abbrev Is : Bool → Latest → Latest → Type 0
Is answer one other = is_later one other ≡ answer

later_join : (one other third : Latest) → Is true one other → Is true other third
    → Is true one third
later_join one other third first second = grind (arith, nat_tests)

earlier_join : (one other third : Latest) → Is false one other → Is false other third
    → Is false one third
earlier_join one other third first second = grind (arith, nat_tests)

not_both : (one other : Latest) → Is true one other → Is false other one
not_both one other later = grind (arith, nat_tests)

same_finish : (one other : Latest) → Is false one other → Is false other one
    → one.finish ≡ other.finish
same_finish one other first second = grind (arith, nat_tests)

same_number : (one other : Latest) → Is false one other → Is false other one
    → one.number ≡ other.number
same_number one other first second = grind (arith, nat_tests)

abbrev with : ℕ → ℕ → Latest
with f m = record { finish = f; number = m }

latest_is : (f g m n : ℕ) → f ≡ g → m ≡ n → with f m ≡ with g n
latest_is f g m n finish number = cc

same : (one other : Latest) → Is false one other → Is false other one → one ≡ other
same one other first second =
    latest_is one.finish other.finish one.number other.number
    (same_finish one other first second) (same_number one other first second)

swaps : (one other : Latest) (first second : Bool) → Is first one other → Is second other one
    → later_of (Some one) (Some other) ≡ later_of (Some other) (Some one)
swaps one other true true first second =
    absurd (false≢true (sym (not_both one other first) ∙ second))
swaps one other true false first second = rw (first, second) refl
swaps one other false true first second = rw (first, second) refl
swaps one other false false first second =
    rw (first, second) (ap Some (same one other first second))

later_none : (one : Option Latest) → later_of one None ≡ one
later_none None = refl
later_none (Some one) = refl

-- of a first, a second and a third message
joined : (one other third : Latest) (first second : Bool)
    → Is first one other → Is second other third
    → later_of (Some one) (later_of (Some other) (Some third))
    ≡ later_of (later_of (Some one) (Some other)) (Some third)
joined one other third true true first second =
    rw (first, second, later_join one other third first second) refl
joined one other third true false first second = rw (first, second, first) refl
joined one other third false true first second = rw (first, second) refl
joined one other third false false first second =
    rw (first, second, first, earlier_join one other third first second) refl

-- of a first, a second and a third, where there are some
all_joined : (one other third : Option Latest)
    → later_of one (later_of other third) ≡ later_of (later_of one other) third
all_joined None other third = refl
all_joined (Some one) None third = refl
all_joined (Some one) (Some other) None = sym (later_none (later_of (Some one) (Some other)))
all_joined (Some one) (Some other) (Some third) =
    joined one other third (is_later one other) (is_later other third) refl refl

all_swaps : (one other : Option Latest) → later_of one other ≡ later_of other one
all_swaps None other = sym (later_none other)
all_swaps (Some one) None = refl
all_swaps (Some one) (Some other) =
    swaps one other (is_later one other) (is_later other one) refl refl

pub latest_laws : IsMonoid latest_order
latest_laws = record { unit = λ x. refl; associates = all_joined; commutes = all_swaps }
