-- The links of a plan, one message after another, and the chain that they make from its end.
use Rattle.std.proofs.Common.{ℕ, ◌+◌, ◌≤◌, List, [], ◌∷◌, length, Option, Some, None, MatchOption, All, arith}
use Rattle.std.proofs.lemmas.List.Elements.{All-nil, All-cons}
use Rattle.waff_assign.specs.Order.{Relation}
use Rattle.waff_plan.specs.Work.{Work, IsNumber}
use Rattle.waff_plan.specs.Obeys.{IsForward}
use Rattle.waff_plan.specs.Chain.{LinksOn, IsChain, LeadsToEnd, IsPrinted}
use Rattle.waff_plan.specs.Links.{IsLink}
use Rattle.waff_plan.proofs.Chains.{first_is_number}

-- where the walk from the end stands: at a message that leads to the end, or at the whole chain
abbrev pub IsWalked : Relation → Work → (ℕ → ℕ) → Option ℕ → List ℕ → Type 0
IsWalked before work start next walked =
    MatchOption next (IsPrinted before work start walked) (λ m. IsNumber work m × LeadsToEnd before work start m walked)

-- one step of the walk
pub walked_more : (before : Relation) (work : Work) (start : ℕ → ℕ) → IsForward before work → (m : ℕ) (walked : List ℕ) (link : Option ℕ)
    → IsNumber work m × LeadsToEnd before work start m walked → IsLink before work start m link → IsWalked before work start link (m ∷ walked)
walked_more before work start forward m walked None h released = (released, h.1)
walked_more before work start forward m walked (Some i) h is_link =
    (forward.first i m is_link.0.one, (is_link.0, is_link.1, h.1))

-- the messages of a chain are messages
links_are_numbers : (before : Relation) (work : Work) (m : ℕ) (rest : List ℕ) → LinksOn before work m rest → All (IsNumber work) (m ∷ rest)
links_are_numbers before work m [] h = All-cons (IsNumber work) m [] h (All-nil (IsNumber work))
links_are_numbers before work m (next ∷ rest) h =
    All-cons (IsNumber work) m (next ∷ rest) h.0 (links_are_numbers before work next rest h.2)

pub chain_is_numbers : (before : Relation) (work : Work) (chain : List ℕ) → IsChain before work chain → All (IsNumber work) chain
chain_is_numbers before work [] h = All-nil (IsNumber work)
chain_is_numbers before work (m ∷ rest) h = links_are_numbers before work m rest h

-- the places of a chain rise, so it is no longer than the list of all messages
links_are_few : (before : Relation) (work : Work) → (forward : IsForward before work) → (m : ℕ) (rest : List ℕ) → LinksOn before work m rest
    → length (m ∷ rest) + forward.place m ≤ work.count + 1
links_are_few before work forward m [] h = omega (arith, forward.to m h)
links_are_few before work forward m (next ∷ rest) h =
    omega (arith, links_are_few before work forward next rest h.2, forward.earlier m next h.1)

pub chain_is_few : (before : Relation) (work : Work) → IsForward before work → (chain : List ℕ) → IsChain before work chain
    → length chain ≤ work.count
chain_is_few before work forward [] h = omega arith
chain_is_few before work forward (m ∷ rest) h =
    omega (arith, links_are_few before work forward m rest h, forward.from m (first_is_number before work m rest h))
