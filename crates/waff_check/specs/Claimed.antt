-- A plan that is given, with the case that it is given for.
use Rattle.std.specs.Prelude.{List}
use Rattle.waff_model.specs.Messages.{Arrivals}
use Rattle.waff_model.specs.Tree.{Node}
use Rattle.waff_assign.specs.Case.{instance_of}
use Rattle.waff_plan_text.specs.Given.{Given}
use Rattle.waff_check.specs.Verdicts.{Claim, claim_of}
use Rattle.waff_check.specs.declared.claim.Claim as declared
use Rattle.waff_assign.specs.Held.{Held}

abbrev pub claimed : declared.Claim → Claim
claimed claim = claim_of (instance_of claim.planned.case) claim.given.now

-- a plan that is given for messages that hold this under a tree
abbrev pub claim_under : List Node → List Held → Arrivals → Given → Claim
claim_under tree assigned trace plan =
    claim_of (record { tree = tree; assigned = assigned; trace = trace }) plan
