-- One thing each: the verdict on a given plan.
use Rattle.std.specs.Prelude.{◌≡◌}
use Rattle.waff_check.specs.Verdicts.{Claim, IsVerdict}
use Rattle.waff_check.specs.declared.verdict.Verdict.{Verdict}

-- two verdicts on one plan are equal
abbrev pub VerdictIsOne : Claim → Type 0
VerdictIsOne claim =
    (one other : Verdict) → IsVerdict claim one → IsVerdict claim other → one ≡ other
