-- Chains of messages, each of which holds back the next, and the chain that is printed with a plan.
use Rattle.std.specs.Prelude.{◌≡◌, ℕ, ◌+◌, ◌<◌, ◌≤◌, List, [], ◌∷◌, length, All, sum_by}
use Rattle.waff_assign.specs.Order.{Relation}
pub use Rattle.waff_plan.specs.Work.{IsAmongFirst}
use Rattle.waff_plan.specs.Work.{Work, IsNumber, finish_of, gap_of, holds_until}
use Rattle.waff_plan.specs.Obeys.{IsLinked}

-- m holds back the first message of the list, that one the second, and so on
abbrev pub LinksOn : Relation → Work → ℕ → List ℕ → Type 0
LinksOn before work m [] = IsNumber work m
LinksOn before work m (next ∷ rest) =
    IsNumber work m × IsLinked before work m next × LinksOn before work next rest

-- a chain: a list of messages each of which holds back the next
abbrev pub IsChain : Relation → Work → List ℕ → Type 0
IsChain before work [] = Unit {0}
IsChain before work (m ∷ rest) = LinksOn before work m rest

-- numbers of messages, of which there are this many, and at most as many numbers
pub record IsListed (messages : ℕ) (chain : List ℕ) : Type 0 where
  pub each : All (IsAmongFirst messages) chain
  pub few : length chain ≤ messages

-- the cost of a chain: the sum of its messages' costs
abbrev pub chain_cost : Work → List ℕ → ℕ
chain_cost work chain = sum_by work.cost chain

-- the gaps between m and the first message of the list, between that one and the second, and so on
abbrev pub gaps_after : Work → ℕ → List ℕ → ℕ
gaps_after work m [] = 0
gaps_after work m (next ∷ rest) = gap_of work m next + gaps_after work next rest

-- the gaps of a chain
abbrev pub gaps_in : Work → List ℕ → ℕ
gaps_in work [] = 0
gaps_in work (m ∷ rest) = gaps_after work m rest

-- the release of a chain: that of its first message and its gaps, the ticks in which nothing of it
-- runs; 0 where it is empty
abbrev pub chain_release : Work → List ℕ → ℕ
chain_release work [] = 0
chain_release work (m ∷ rest) = work.floor m + gaps_after work m rest

-- m is the latest of those that Is holds of: none of them is done later, and none that is done at the
-- same tick has a lower number
pub record IsLatest (Is : ℕ → Type 0) (finish : ℕ → ℕ) (m : ℕ) : Type 0 where
  pub one : Is m
  pub latest : (other : ℕ) → Is other → finish other ≤ finish m
  pub lowest : (other : ℕ) → Is other → finish other ≡ finish m → m ≤ other

-- from m, of what holds back each next message that which does so longest, on to the latest of all
-- messages; none behind m waited for its release instead
abbrev pub LeadsToEnd : Relation → Work → (ℕ → ℕ) → ℕ → List ℕ → Type 0
LeadsToEnd before work start m [] = IsLatest (IsNumber work) (finish_of work start) m
LeadsToEnd before work start m (next ∷ rest) =
    IsLatest (λ i. IsLinked before work i next) (holds_until work start next) m
    × (work.floor next < holds_until work start next m)
    × LeadsToEnd before work start next rest

-- the printed chain of a plan: it begins with a message that nothing holds back longer than its
-- release, and is empty where there is no message
abbrev pub IsPrinted : Relation → Work → (ℕ → ℕ) → List ℕ → Type 0
IsPrinted before work start [] = work.count ≡ 0
IsPrinted before work start (m ∷ rest) =
    ((i : ℕ) → IsLinked before work i m → holds_until work start m i ≤ work.floor m)
    × LeadsToEnd before work start m rest
