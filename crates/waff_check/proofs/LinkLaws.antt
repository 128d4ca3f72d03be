-- Chains whose neighbours are linked.
use Rattle.std.proofs.Common.{◌≡◌, ℕ, zero, suc, ◌+◌, ◌-◌, ◌<◌, ◌≤◌, List, [], ◌∷◌, length, All, false, true, arith, inl, inr, refl, subst, sym}
use Rattle.std.proofs.lemmas.Bool.{cases_eq, cases_lt}
use Rattle.waff_model.specs.Tree.{Node}
use Rattle.waff_model.specs.Versions.{has_clients}
use Rattle.waff_model.specs.declared.message.Version.{Version}
use Rattle.waff_model.specs.declared.message.Version.TheVariants.{V1, V2, V3, V4}
use Rattle.waff_assign.specs.Order.{IsOrdered, Relation}
use Rattle.waff_plan.specs.Chain.{IsChain, LinksOn}
use Rattle.waff_plan.specs.Obeys.{IsLinked}
use Rattle.waff_plan.specs.Serving.{IsStartedBefore, started_before}
use Rattle.waff_plan.specs.Work.{IsNumber, Work}
use Rattle.waff_check.specs.Faults.{AreLinked, IsBroken, link_at}
use Rattle.waff_check.proofs.FirstLaws.{NoneBelow}
use Rattle.waff_assign.specs.Held.{Held}

-- what holds of each message holds of the first, and of each of the others
All-first : (P : ℕ → Type 0) (xs more : List ℕ) (x : ℕ) → xs ≡ x ∷ more → All P xs → P x
All-first P xs more x e h = let all : All P (x ∷ more) = rw e at h in all zero x (omega arith)

All-others : (P : ℕ → Type 0) (xs more : List ℕ) (x : ℕ) → xs ≡ x ∷ more → All P xs → All P more
All-others P xs more x e h = λ k d lt. let all : All P (x ∷ more) = rw e at h in all (suc k) d (omega arith)

module _ (link : Relation) where
  -- the neighbours at the places below n
  abbrev pub LinkedBelow : List ℕ → ℕ → Type 0
  LinkedBelow chain n = (place : ℕ) → 2 ≤ place → place < n → link (link_at chain (place - 1)) (link_at chain place)

  pub none-broken : (chain : List ℕ) (n : ℕ) → LinkedBelow chain n → NoneBelow (IsBroken link chain) n
  none-broken chain n linked m lt h = h.broken (linked m h.from lt)

  pub linked-more : (chain : List ℕ) (n : ℕ) → LinkedBelow chain n → link (link_at chain (n - 1)) (link_at chain n) → LinkedBelow chain (n + 1)
  linked-more chain n linked here place from lt = elim (cases_lt place n) [
    | inl less ↦ linked place from less
    | inr more ↦ (let e : n ≡ place = omega arith in subst (λ p. link (link_at chain (p - 1)) (link_at chain p)) e here)
  ]

  pub all-linked : (chain : List ℕ) (n : ℕ) → length chain < n → LinkedBelow chain n → AreLinked link chain
  all-linked chain n all linked place from to = linked place from (omega arith)

  -- a place of a longer chain
  link-more : (m : ℕ) (xs : List ℕ) (p q : ℕ) → 1 ≤ p → q ≡ p + 1 → link_at (m ∷ xs) q ≡ link_at xs p
  link-more m xs p q from is = let e : q - 1 ≡ suc (p - 1) = omega arith in rw e refl

  others-linked : (m : ℕ) (xs : List ℕ) → AreLinked link (m ∷ xs) → AreLinked link xs
  others-linked m xs linked place from to =
      let pair = linked (place + 1) (omega arith) (omega arith) in
      let one = link-more m xs (place - 1) (place + 1 - 1) (omega arith) (omega arith) in
      let two = link-more m xs place (place + 1) (omega arith) refl in
      rw (one, two) at pair

-- messages whose neighbours are linked are a chain
module _ (before : Relation) (work : Work) where
  pub is-chain : (chain : List ℕ) → AreLinked (IsLinked before work) chain → All (IsNumber work) chain → IsChain before work chain
  is-chain [] linked numbers = tt
  is-chain (m ∷ rest) linked numbers = on m rest linked numbers
    where
      on : (m : ℕ) (rest : List ℕ) → AreLinked (IsLinked before work) (m ∷ rest) → All (IsNumber work) (m ∷ rest) → LinksOn before work m rest
      on m [] linked numbers = All-first (IsNumber work) (m ∷ []) [] m refl numbers
      on m (next ∷ rest) linked numbers = (
        All-first (IsNumber work) (m ∷ next ∷ rest) (next ∷ rest) m refl numbers,
        linked 2 (omega arith) (omega arith),
        on next rest (others-linked (IsLinked before work) m (next ∷ rest) linked) (All-others (IsNumber work) (m ∷ next ∷ rest) (next ∷ rest) m refl numbers),
      )

  -- the neighbours in a chain are linked
  pub chain-linked : (chain : List ℕ) → IsChain before work chain → AreLinked (IsLinked before work) chain
  chain-linked [] h = λ place from to. absurd (omega arith)
  chain-linked (m ∷ rest) h = on m rest h
    where
      on : (m : ℕ) (rest : List ℕ) → LinksOn before work m rest → AreLinked (IsLinked before work) (m ∷ rest)
      on m [] h place from to = absurd (omega arith)
      on m (next ∷ rest) h place from to = elim (cases_eq place 2) [
        | inl same ↦
            subst (λ p. IsLinked before work (link_at (m ∷ next ∷ rest) (p - 1)) (link_at (m ∷ next ∷ rest) p)) (sym same) h.1
        | inr other ↦
            let pair = on next rest h.2 (place - 1) (omega (arith, other)) (omega arith) in
            let one = link-more (IsLinked before work) m (next ∷ rest) (place - 1 - 1) (place - 1) (omega (arith, other)) (omega (arith, other)) in
            let two = link-more (IsLinked before work) m (next ∷ rest) (place - 1) place (omega arith) (omega arith) in
            rw (one, two) pair
      ]

-- a chain of one order is one of another that has its links
pub chain-of-more : (before more : Relation) (work : Work) → ((i j : ℕ) → before i j → more i j) → (chain : List ℕ) → IsChain before work chain → IsChain more work chain
chain-of-more before more work wider [] h = tt
chain-of-more before more work wider (m ∷ rest) h = on m rest h
  where
    linked : (i j : ℕ) → IsLinked before work i j → IsLinked more work i j
    linked i j (inl pair) = inl (wider i j pair)
    linked i j (inr awaited) = inr awaited

    on : (m : ℕ) (rest : List ℕ) → LinksOn before work m rest → LinksOn more work m rest
    on m [] h = h
    on m (next ∷ rest) h = (h.0, linked m next h.1, on next rest h.2)

-- what a plan serves before what, by whether messages have clients
pub in_turn : (version : Version) (tree : List Node) (assigned : List Held) (start : ℕ → ℕ) → has_clients version ≡ false
    → started_before version tree assigned start ≡ IsOrdered tree assigned
in_turn V1 tree assigned start none = refl
in_turn V2 tree assigned start none = refl
in_turn V3 tree assigned start none = absurd (cc)
in_turn V4 tree assigned start none = absurd (cc)

pub by_starts : (version : Version) (tree : List Node) (assigned : List Held) (start : ℕ → ℕ) → has_clients version ≡ true
    → started_before version tree assigned start ≡ IsStartedBefore tree assigned start
by_starts V1 tree assigned start some = absurd (cc)
by_starts V2 tree assigned start some = absurd (cc)
by_starts V3 tree assigned start some = refl
by_starts V4 tree assigned start some = refl
