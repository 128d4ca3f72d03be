-- Tails of messages: each message has one, the greatest cost of a chain that begins with it, and pairs with the same paths have the
-- same tails.
use Rattle.std.proofs.Common.{◌≡◌, ℕ, zero, suc, ◌+◌, ◌<◌, ◌≤◌, ◌↔◌, inl, inr, List, [], ◌∷◌, length, arith, sym}
use Rattle.std.proofs.lemmas.List.Sums.{sum_by-cons}
use Rattle.waff_model.specs.Tree.{Node}
use Rattle.waff_assign.specs.Order.{Relation, IsOrdered, PathBy, Path}
use Rattle.waff_plan.specs.Work.{Work, IsNumber}
use Rattle.waff_plan.specs.Obeys.{IsForward, AwaitsNone}
use Rattle.waff_plan.specs.Chain.{LinksOn, IsChain, chain_cost}
use Rattle.waff_order.specs.Needs.{IsNeed, AreNeeds}
use Rattle.waff_plan.proofs.NoClients.{linked_before}
use Rattle.waff_order.proofs.NeedLemmas.{path_one}
use Rattle.waff_list.specs.ListRule.{HaveSamePaths}
use Rattle.waff_list.proofs.PathPlans.{paths_of_needs}
use Rattle.waff_list.specs.Tails.{AreTails, TailsAreOne, TailIsGreatestChain, TailsAreShared}
use Rattle.waff_assign.specs.Held.{Held}

-- what is before another message has an earlier place
pub record IsAhead (before : Relation) (work : Work) : Type 0 where
  pub place : ℕ → ℕ
  pub to : (m : ℕ) → IsNumber work m → place m ≤ work.count
  pub second : (i j : ℕ) → before i j → IsNumber work j
  pub earlier : (i j : ℕ) → before i j → place i < place j

pub ahead_of : (before : Relation) (work : Work) → IsForward before work → IsAhead before work
ahead_of before work forward = record {
  place = forward.place;
  to = forward.to;
  second = λ i j pair. forward.second i j (inl pair);
  earlier = λ i j pair. forward.earlier i j (inl pair);
}

-- so are ordered pairs
pub ordered_ahead : (tree : List Node) (assigned : List Held) (work : Work) → length assigned ≡ work.count → IsAhead (IsOrdered tree assigned) work
ordered_ahead tree assigned work same = record {
  place = λ m. m;
  to = λ m number. number.to;
  second = λ i j pair. record { from = omega (arith, pair.from, pair.earlier); to = omega (arith, same, pair.to) };
  earlier = λ i j pair. pair.earlier;
}

-- where the tails of later messages are the same, so is the tail of a message
tail_le : (before : Relation) (work : Work) (tail other : ℕ → ℕ) → AreTails before work tail → AreTails before work other → (m : ℕ) → IsNumber work m
    → ((later : ℕ) → before m later → tail later ≡ other later) → tail m ≤ other m
tail_le before work tail other tails others m number same = elim (tails.one m number) [
  | inl (none, is) ↦ elim (others.one m number) [
    | inl (_, other_is) ↦ omega arith
    | inr (later, pair, _) ↦ absurd (none later pair)
  ]
  | inr (later, pair, is) ↦
      omega (arith, is, others.each m later pair, same later pair)
]

-- the last n messages have one tail each
same_from : (before : Relation) (work : Work) (ahead : IsAhead before work) (tail other : ℕ → ℕ) → AreTails before work tail → AreTails before work other
    → (n m : ℕ) → IsNumber work m → work.count < ahead.place m + n → tail m ≡ other m
same_from before work ahead tail other tails others zero m number last = absurd (omega (arith, last, ahead.to m number))
same_from before work ahead tail other tails others (suc n) m number last =
    let rest : (later : ℕ) → before m later → tail later ≡ other later = λ later pair.
    same_from before work ahead tail other tails others n later (ahead.second m later pair) (omega (arith, last, ahead.earlier m later pair)) in
    let back = tail_le before work other tail others tails m number (λ later pair. sym (rest later pair)) in
    omega (arith, tail_le before work tail other tails others m number rest, back)

pub tails_are_one : (before : Relation) (work : Work) → IsAhead before work → TailsAreOne before work
tails_are_one before work ahead tail other tails others m number =
    same_from before work ahead tail other tails others (work.count + 1) m number (omega arith)

-- no chain from a message costs more than its tail
chain_within : (before : Relation) (work : Work) → AwaitsNone work → (tail : ℕ → ℕ) → AreTails before work tail → (m : ℕ) (rest : List ℕ) → LinksOn before work m rest
    → chain_cost work (m ∷ rest) ≤ tail m
chain_within before work none tail tails m [] number = elim (tails.one m number) [
  | inl (_, is) ↦ omega (arith, sum_by-cons work.cost m [])
  | inr (later, _, is) ↦ omega (arith, sum_by-cons work.cost m [])
]
chain_within before work none tail tails m (next ∷ rest) h =
    omega (arith, chain_within before work none tail tails next rest h.2, tails.each m next (linked_before work none before m next h.1), sum_by-cons work.cost m (next ∷ rest))

-- one costs as much
chain_from : (before : Relation) (work : Work) (ahead : IsAhead before work) (tail : ℕ → ℕ) → AreTails before work tail → (n m : ℕ) → IsNumber work m
    → work.count < ahead.place m + n → (rest : List ℕ) × IsChain before work (m ∷ rest) × (chain_cost work (m ∷ rest) ≡ tail m)
chain_from before work ahead tail tails zero m number last = absurd (omega (arith, last, ahead.to m number))
chain_from before work ahead tail tails (suc n) m number last = elim (tails.one m number) [
  | inl (_, is) ↦ ([], number, omega (arith, sum_by-cons work.cost m []))
  | inr (later, pair, is) ↦
      let chain = chain_from before work ahead tail tails n later (ahead.second m later pair) (omega (arith, last, ahead.earlier m later pair)) in
      (later ∷ chain.0, (number, inl pair, chain.1), omega (arith, is, chain.2, sum_by-cons work.cost m (later ∷ chain.0)))
]

pub tail_is_greatest_chain : (before : Relation) (work : Work) → IsAhead before work → AwaitsNone work → TailIsGreatestChain before work
tail_is_greatest_chain before work ahead none tail m tails number = record {
  each = λ rest chain. chain_within before work none tail tails m rest chain;
  one = chain_from before work ahead tail tails (work.count + 1) m number (omega arith);
}

-- along a path the tails fall by the cost of its first message or more
path_by_falls : (before : Relation) (work : Work) (tail : ℕ → ℕ) → ((i j : ℕ) → before i j → work.cost i + tail j ≤ tail i) → (n i j : ℕ)
    → PathBy before n i j → work.cost i + tail j ≤ tail i
path_by_falls before work tail falls zero i j pair = falls i j pair
path_by_falls before work tail falls (suc n) i j (m, first, rest) =
    omega (arith, falls i m first, path_by_falls before work tail falls n m j rest)

-- a path begins with a pair
path_by_first : (before : Relation) (n i j : ℕ) → PathBy before n i j → (m : ℕ) × before i m
path_by_first before zero i j pair = (j, pair)
path_by_first before (suc n) i j (m, first, rest) = (m, first)

-- where the tail of a message goes on along a path, it goes on with the path's first pair
path_by_one : (before : Relation) (work : Work) (tail : ℕ → ℕ) → ((i j : ℕ) → before i j → work.cost i + tail j ≤ tail i) → (n i j : ℕ)
    → PathBy before n i j → tail i ≡ work.cost i + tail j → (later : ℕ) × before i later × (tail i ≡ work.cost i + tail later)
path_by_one before work tail falls zero i j pair is = (j, pair, is)
path_by_one before work tail falls (suc n) i j (m, first, rest) is =
    (m, first, omega (arith, is, falls i m first, path_by_falls before work tail falls n m j rest))

pub same_paths_same_tails : (near before : Relation) (work : Work) → HaveSamePaths near before
    → (tail : ℕ → ℕ) → AreTails near work tail → AreTails before work tail
same_paths_same_tails near before work same tail tails = record {
  each = falls;
  one = λ m number. elim (tails.one m number) [
    | inl (none, is) ↦ inl ((λ later pair. let path = same.to m later pair in let first = path_by_first near path.0 m later path.1 in none first.0 first.1), is)
    | inr (later, pair, is) ↦ let path = same.from m later pair in inr (path_by_one before work tail falls path.0 m later path.1 is)
  ];
}
  where
    falls : (i j : ℕ) → before i j → work.cost i + tail j ≤ tail i
    falls i j pair = let path = same.to i j pair in path_by_falls near work tail tails.each path.0 i j path.1

pub tails_are_shared : (near before : Relation) (work : Work) → TailsAreShared near before work
tails_are_shared near before work same tail =
    (same_paths_same_tails near before work same tail, same_paths_same_tails before near work (record { to = same.from; from = same.to }) tail)

-- pairs and the paths through them
pub tails_over_paths : (near : Relation) (work : Work) (tail : ℕ → ℕ) → AreTails near work tail → AreTails (Path near) work tail
tails_over_paths near work tail =
    same_paths_same_tails near (Path near) work (record { to = λ i j path. path; from = λ i j pair. path_one (Path near) i j (path_one near i j pair) }) tail

module _ (tree : List Node) (assigned : List Held) (needs : List (List ℕ)) (work : Work) (tail : ℕ → ℕ) (are : AreNeeds tree assigned needs) where
  -- needs and the ordered pairs
  pub needs_share_tails : AreTails (IsNeed needs) work tail ↔ AreTails (IsOrdered tree assigned) work tail
  needs_share_tails =
      tails_are_shared (IsNeed needs) (IsOrdered tree assigned) work
      (record { to = are.paths; from = λ i j need. path_one (IsOrdered tree assigned) i j (are.ordered i j need) }) tail

  -- paths through needs and the ordered pairs
  pub paths_share_tails : AreTails (Path (IsNeed needs)) work tail ↔ AreTails (IsOrdered tree assigned) work tail
  paths_share_tails =
      tails_are_shared (Path (IsNeed needs)) (IsOrdered tree assigned) work (paths_of_needs tree assigned needs are) tail
