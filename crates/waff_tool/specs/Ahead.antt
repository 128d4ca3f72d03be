-- A plan text that is read beside the files that it is for.
use Rattle.std.specs.Prelude.{◌≡◌, ℕ, List, IfOk, length}
use Rattle.waff_plan_text.specs.PlanTexts.{GivesPlan, plan_of}
use Rattle.waff_tool.specs.declared.ahead.ReadAhead.{ReadAhead}

-- what the bytes are read as, for a trace of some version with some number of messages
pub record IsReadOf (plan_file : List ℕ) (ahead : ReadAhead) : Type 0 where
  pub exact : GivesPlan ahead.given (plan_of ahead.version ahead.messages plan_file)
  pub version : IfOk ahead.given (λ plan. plan.version ≡ ahead.version)
  pub messages : IfOk ahead.given (λ plan. length plan.rows ≡ ahead.messages)
