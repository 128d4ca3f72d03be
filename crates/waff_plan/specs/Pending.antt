-- Messages that are issued and have no start yet, with their issues.
use Rattle.std.specs.Prelude.{◌≡◌, ℕ, ◌≤◌, ◌==◌, List, [], Contains, count_by}
use Rattle.waff_plan.specs.Order.{Key}
use Rattle.waff_plan.specs.Work.{Work, IsNumber}

-- the tick of an issue, and the number of the message
abbrev pub Issue : Type 0
Issue = ℕ × ℕ

-- the messages that await none, with their keys, which no start changes, each once
pub record AreFirst (work : Work) (key : Key) (first : List Issue) : Type 0 where
  pub number : (x : Issue) → Contains first x → IsNumber work x.1
  pub key_is : (start : ℕ → ℕ) (x : Issue) → Contains first x → x.0 ≡ key start x.1
  pub alone : (x : Issue) → Contains first x → work.awaits x.1 ≡ []
  pub all : (start : ℕ → ℕ) (m : ℕ) → IsNumber work m → work.awaits m ≡ []
      → Contains first (key start m, m)
  pub once : (m : ℕ) → count_by (λ x. x.1 == m) first ≤ 1
