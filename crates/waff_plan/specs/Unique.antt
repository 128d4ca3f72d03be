-- One thing each: the least plan, and the printed chain of a plan.
use Rattle.std.specs.Prelude.{◌≡◌, ℕ, List}
use Rattle.waff_model.specs.Tree.{Node}
use Rattle.waff_model.specs.declared.message.Version.{Version}
use Rattle.waff_assign.specs.Order.{Relation}
use Rattle.waff_plan.specs.Work.{Work, IsNumber}
use Rattle.waff_plan.specs.Obeys.{IsLeast}
use Rattle.waff_plan.specs.Serving.{served_before}
use Rattle.waff_plan.specs.Chain.{IsPrinted}
use Rattle.waff_assign.specs.Held.{Held}

-- two maps from messages have the same number at each message of the work
abbrev pub AreSame : Work → (ℕ → ℕ) → (ℕ → ℕ) → Type 0
AreSame work one other = (m : ℕ) → IsNumber work m → one m ≡ other m

-- two least plans start each message at the same tick
abbrev pub LeastIsOne : Relation → Work → Type 0
LeastIsOne before work =
    (start other : ℕ → ℕ) → IsLeast before work start
    → IsLeast before work other → AreSame work start other

-- so do two plans each of which is least in the order in which it is to serve messages itself
abbrev pub LeastServedIsOne : Version → List Node → List Held → Work → Type 0
LeastServedIsOne version tree assigned work =
    (start other : ℕ → ℕ) → IsLeast (served_before version tree assigned work start) work start
    → IsLeast (served_before version tree assigned work other) work other
    → AreSame work start other

-- where two plans start each message at the same tick, their printed chains are equal
abbrev pub PrintedIsOne : Relation → Work → Type 0
PrintedIsOne before work =
    (start other : ℕ → ℕ) (chain other_chain : List ℕ) → AreSame work start other
    → IsPrinted before work start chain → IsPrinted before work other other_chain
    → chain ≡ other_chain
