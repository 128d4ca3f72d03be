-- Names in a set, by their bytes.
use Rattle.std.proofs.Common.{◌≡◌, ◌≤◌, Bool, false, cond, List, [], ◌∷◌, ◌++◌, length, None, position, ap, arith}
use Rattle.std.specs.Prelude.{String}
use Rattle.std.specs.List.{position_or_len, list_any}
use Rattle.std.proofs.lemmas.List.Folds.{list_any_none}
use Rattle.std.proofs.lemmas.List.Sums.{fails_before_first}
use Rattle.std.proofs.lemmas.Bool.Decides.{nat_tests}
use Rattle.indexmap.specs.IndexSet.{insert_key}

-- where no place is found, no element passes
none_passes : {X : Type 0} (p : X → Bool) (xs : List X) → position p xs ≡ None → list_any p xs ≡ false
none_passes p xs none =
    let past : length xs ≤ position_or_len p xs = grind (arith, nat_tests) in
    list_any_none p xs (λ k d inside. fails_before_first p xs k d (omega arith))

module _ {A : Type 0} where
  -- a name that is not there goes last
  pub insert_key-new : (eq : String A → String A → Bool) (keys : List (String A)) (key : String A) → position (λ k. eq key k) keys ≡ None → insert_key eq keys key ≡ keys ++ key ∷ []
  insert_key-new eq keys key none = ap (λ b. cond b keys (keys ++ key ∷ [])) (none_passes (eq key) keys none)
