-- The tail of a message: the ticks of work that hang on it, along the costliest chain that begins
-- with it.
use Rattle.std.specs.Prelude.{◌≡◌, ℕ, ◌+◌, ◌-◌, ◌≤◌, ◌⊎◌, ◌↔◌, List, ◌∷◌, length}
use Rattle.std.specs.Prelude.{slice_index}
use Rattle.waff_assign.specs.Order.{Relation}
use Rattle.waff_plan.specs.Work.{Work, IsNumber}
use Rattle.waff_plan.specs.Chain.{IsChain, chain_cost}
use Rattle.waff_plan.specs.Unique.{AreSame}
use Rattle.waff_list.specs.ListRule.{HaveSamePaths}

-- the tail of message n, from 1
abbrev pub tail_of : List ℕ → ℕ → ℕ
tail_of tails n = slice_index tails (n - 1)

-- message m is before no other
abbrev pub IsBeforeNone : Relation → ℕ → Type 0
IsBeforeNone before m = (later : ℕ) → before m later → ⊥

-- the tail of each message: its cost and the greatest tail of those that it is before, its cost
-- alone where it is before none
pub record AreTails (before : Relation) (work : Work) (tail : ℕ → ℕ) : Type 0 where
  pub each : (m later : ℕ) → before m later → work.cost m + tail later ≤ tail m
  pub one : (m : ℕ) → IsNumber work m → (IsBeforeNone before m × (tail m ≡ work.cost m))
      ⊎ ((later : ℕ) × before m later × (tail m ≡ work.cost m + tail later))

-- each message has one tail
abbrev pub TailsAreOne : Relation → Work → Type 0
TailsAreOne before work =
    (tail other : ℕ → ℕ) → AreTails before work tail
    → AreTails before work other → AreSame work tail other

-- the greatest cost of a chain that begins with message m
pub record IsGreatestCost (before : Relation) (work : Work) (m cost : ℕ) : Type 0 where
  pub each : (rest : List ℕ) → IsChain before work (m ∷ rest) → chain_cost work (m ∷ rest) ≤ cost
  pub one : (rest : List ℕ)
      × IsChain before work (m ∷ rest) × (chain_cost work (m ∷ rest) ≡ cost)

-- the tail of a message is the greatest cost of a chain that begins with it
abbrev pub TailIsGreatestChain : Relation → Work → Type 0
TailIsGreatestChain before work =
    (tail : ℕ → ℕ) (m : ℕ) → AreTails before work tail → IsNumber work m
    → IsGreatestCost before work m (tail m)

-- two sets of pairs with the same paths have the same tails
abbrev pub TailsAreShared : Relation → Relation → Work → Type 0
TailsAreShared near before work =
    HaveSamePaths near before → (tail : ℕ → ℕ) → AreTails near work tail ↔ AreTails before work tail

-- the tail of each message that is held back is raised to its gap and this tail at least; what has changed
-- is that
pub record AreRaised (old : List ℕ) (IsHeld : ℕ → Type 0) (gap : ℕ → ℕ) (tail : ℕ) (new : List ℕ)
    : Type 0 where
  pub count : length new ≡ length old
  pub each : (m : ℕ) → IsHeld m → gap m + tail ≤ tail_of new m
  pub kept : (m : ℕ) → tail_of old m ≤ tail_of new m
  pub one : (m : ℕ) → 1 ≤ m → (tail_of new m ≡ tail_of old m)
      ⊎ (IsHeld m × (tail_of new m ≡ gap m + tail))
