-- Where nothing is refused, no check holds.
use Rattle.std.proofs.Common.{◌≡◌, Bool, true, false, List, [], ◌∷◌, Option, Some, None, cond, refl}
use Rattle.waff_model.specs.Refusals.{first_refusal}

-- each check fails
abbrev pub NoneHolds : {E : Type 0} → List (Bool × E) → Type 0
NoneHolds [] = Unit {0}
NoneHolds (check ∷ more) = (check.0 ≡ false) × NoneHolds more

fails_first : {E : Type 0} (b : Bool) (e : E) (rest : Option E) → cond b (Some e) rest ≡ None → (b ≡ false) × (rest ≡ None)
fails_first true e rest none = absurd (cc)
fails_first false e rest none = (refl, none)

pub none_holds : {E : Type 0} (checks : List (Bool × E)) → first_refusal checks ≡ None → NoneHolds checks
none_holds [] none = tt
none_holds (check ∷ more) none =
    let first = fails_first check.0 check.1 (first_refusal more) none in
    (first.0, none_holds more first.1)
