-- Results whose errors are turned into those of commands.
use Rattle.std.proofs.Common.{◌≡◌, Result, Ok, Err, IfOk, sym, subst}
use Rattle.std.specs.Result.{MatchResult, is_ok}

-- what holds of the answer holds still
pub if_ok_turned : {T E D : Type 0} (made : Result T E) (told : Result T D) (P Q : T → Type 0) (B : E → Type 0)
    → MatchResult made (λ x. told ≡ Ok x) B → is_ok told ≡ is_ok made → ((x : T) → P x → Q x) → IfOk made P → IfOk told Q
if_ok_turned (Ok x) told P Q B same variant weaker holds = subst (λ r. IfOk r Q) (sym same) (weaker x holds)
if_ok_turned (Err e) (Ok x) P Q B same variant weaker holds = absurd (cc variant)
if_ok_turned (Err e) (Err d) P Q B same variant weaker holds = tt
