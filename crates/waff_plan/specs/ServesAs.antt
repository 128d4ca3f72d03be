-- Plans that obey in whatever order, and plans that serve as another does.
use Rattle.std.specs.Prelude.{ℕ, ◌<◌, ◌↔◌, List}
use Rattle.waff_model.specs.Tree.{Node}
use Rattle.waff_assign.specs.Order.{IsOrdered}
use Rattle.waff_plan.specs.Apart.{AreApart}
use Rattle.waff_plan.specs.Obeys.{StartsIssued}
use Rattle.waff_plan.specs.Work.{Work}
use Rattle.waff_assign.specs.Held.{Held}

-- no message starts before it is issued, and no two that exclude each other run at a common tick
pub record ObeysApart (tree : List Node) (assigned : List Held) (work : Work) (start : ℕ → ℕ)
    : Type 0 where
  pub issued : StartsIssued work start
  pub apart : AreApart (IsOrdered tree assigned) work start

-- one plan serves as another: both obey, and each two messages that exclude each other start in the same
-- order in both
pub record ServesAs (tree : List Node) (assigned : List Held) (work : Work) (start other : ℕ → ℕ)
    : Type 0 where
  pub obeys : ObeysApart tree assigned work start
  pub other_obeys : ObeysApart tree assigned work other
  pub same : (i j : ℕ) → IsOrdered tree assigned i j → (start i < start j) ↔ (other i < other j)
