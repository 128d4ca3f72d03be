-- Chains bound the length from below, and the printed chain of the least plan reaches it.
use Rattle.std.proofs.Common.{◌≡◌, ℕ, ◌+◌, ◌≤◌, ◌≢◌, List, [], ◌∷◌, sum_by, cond, eqb, arith, refl, ap, inl, inr}
use Rattle.std.proofs.lemmas.List.Sums.{sum_by-cons}
use Rattle.std.proofs.lemmas.Bool.{cases_lt, cases_eq, eq-eqb, ne_eqb, cond-true, cond-false}
use Rattle.waff_assign.specs.Order.{Relation}
use Rattle.waff_plan.specs.Work.{Work, IsNumber, length_of, holds_until}
use Rattle.waff_plan.specs.Obeys.{IsLinked, IsForward, Obeys, IsLeast}
use Rattle.waff_plan.specs.Chain.{LinksOn, LeadsToEnd, gaps_after}
use Rattle.waff_plan.specs.Laws.{ChainsAreWithinLength, LeastIsShortest, PrintedIsChain, PrintedIsAsLong, LeastIsNoLonger}
use Rattle.waff_plan.proofs.Holding.{released, held_until, obeys_held, holds-le, holds-same}
use Rattle.waff_plan.proofs.Longest.{finish_of-le-length_of, length_of-le}

-- the first message of a chain is a message
pub first_is_number : (before : Relation) (work : Work) (m : ℕ) (rest : List ℕ) → LinksOn before work m rest → IsNumber work m
first_is_number before work m [] h = h
first_is_number before work m (next ∷ rest) h = h.0

-- from m on, the costs and the gaps of a chain fit between the start of m and the length
links_fit : (before : Relation) (work : Work) (start : ℕ → ℕ) → Obeys before work start → (m : ℕ) (rest : List ℕ)
    → LinksOn before work m rest → start m + gaps_after work m rest + sum_by work.cost (m ∷ rest) ≤ length_of work start
links_fit before work start obeys m [] h =
    omega (arith, finish_of-le-length_of work start m h, sum_by-cons work.cost m [])
links_fit before work start obeys m (next ∷ rest) h =
    omega (
      arith,
      links_fit before work start obeys next rest h.2,
      sum_by-cons work.cost m (next ∷ rest),
      held_until before work start obeys m next (first_is_number before work next rest h.2) h.1,
    )

pub chains_are_within_length : (before : Relation) (work : Work) → ChainsAreWithinLength before work
chains_are_within_length before work [] start h obeys = omega arith
chains_are_within_length before work (m ∷ rest) start h obeys =
    omega (arith, released before work start obeys m (first_is_number before work m rest h), links_fit before work start obeys m rest h)

-- the least plan is the least at each finish, so it is shortest
pub least_is_shortest : (before : Relation) (work : Work) → LeastIsShortest before work
least_is_shortest before work start other least obeys =
    length_of-le work start (length_of work other) (λ m h. omega (arith, least.least other obeys m h, finish_of-le-length_of work other m h))

-- an order with fewer pairs leaves the least plan no longer
pub fewer_pairs_are_no_longer : (fewer more : Relation) (work : Work) → ((i j : ℕ) → fewer i j → more i j) → LeastIsNoLonger fewer more work
fewer_pairs_are_no_longer fewer more work weaker start other least most =
    least_is_shortest fewer work start other least
    (record { issued = most.obeys.issued; ordered = λ i j h. most.obeys.ordered i j (weaker i j h) })

-- a plan in which one message starts at another tick
abbrev moved_to : (ℕ → ℕ) → ℕ → ℕ → ℕ → ℕ
moved_to start m t n = cond (eqb n m) t (start n)

moved_to_same : (start : ℕ → ℕ) (m t : ℕ) → moved_to start m t m ≡ t
moved_to_same start m t = cond-true (eqb m m) t (start m) (eq-eqb m m refl)

moved_to_other : (start : ℕ → ℕ) (m t n : ℕ) → n ≢ m → moved_to start m t n ≡ start n
moved_to_other start m t n h = cond-false (eqb n m) t (start n) (ne_eqb n m h)

moved_to-le : (start : ℕ → ℕ) (m t n : ℕ) → t ≤ start m → moved_to start m t n ≤ start n
moved_to-le start m t n sooner = elim (cases_eq n m) [
  | inl here ↦ rw (here, moved_to_same start m t) sooner
  | inr other ↦ omega (arith, moved_to_other start m t n other)
]

-- a plan that obeys still does when one message starts earlier, where nothing keeps it from that
moved_obeys : (before : Relation) (work : Work) (start : ℕ → ℕ) → IsForward before work → Obeys before work start
    → (m : ℕ) (t : ℕ) → t ≤ start m → work.floor m ≤ t → ((i : ℕ) → IsLinked before work i m → holds_until work start m i ≤ t)
    → Obeys before work (moved_to start m t)
moved_obeys before work start forward obeys m t sooner free after =
    let moved = moved_to start m t in
    let same = moved_to_same start m t in
    obeys_held before work moved
    (λ n number. elim (cases_eq n m) [
      | inl here ↦ rw (here, same) free
      | inr other ↦ rw (moved_to_other start m t n other) (released before work start obeys n number)
    ])
    (λ i n linked. forward.second i n linked)
    (λ i n linked. elim (cases_eq n m) [
      | inl here ↦
          let link : IsLinked before work i m = rw here at linked in
          let other = moved_to_other start m t i (λ i_here. let earlier = forward.earlier i m link in omega (arith, earlier, ap forward.place i_here)) in
          rw (here, same) (omega (arith, after i link, holds-same work moved start i m other))
      | inr other ↦
          rw (moved_to_other start m t n other)
          (omega (arith, holds-le work moved start i n (moved_to-le start m t i sooner), held_until before work start obeys i n (forward.second i n linked) linked))
    ])

-- in the least plan no message starts later than it has to
pub least_is_earliest : (before : Relation) (work : Work) (start : ℕ → ℕ) → IsForward before work → IsLeast before work start
    → (m : ℕ) → IsNumber work m → (t : ℕ) → work.floor m ≤ t → ((i : ℕ) → IsLinked before work i m → holds_until work start m i ≤ t) → start m ≤ t
least_is_earliest before work start forward least m number t free after =
    elim (cases_lt t (start m)) [
      | inl early ↦
          let moved = moved_obeys before work start forward least.obeys m t (omega arith) free after in
          omega (arith, moved_to_same start m t, least.least (moved_to start m t) moved m number)
      | inr late ↦ late
    ]

-- a printed chain is a chain
links_from_leads : (before : Relation) (work : Work) → IsForward before work → (start : ℕ → ℕ) (m : ℕ) (rest : List ℕ)
    → LeadsToEnd before work start m rest → LinksOn before work m rest
links_from_leads before work forward start m [] h = h.one
links_from_leads before work forward start m (next ∷ rest) h =
    (forward.first m next h.0.one, h.0.one, links_from_leads before work forward start next rest h.2)

pub printed_is_chain : (before : Relation) (work : Work) → IsForward before work → PrintedIsChain before work
printed_is_chain before work forward start [] h = tt
printed_is_chain before work forward start (m ∷ rest) h = links_from_leads before work forward start m rest h.1

-- in the least plan the messages of a printed chain follow one another with no tick between them but
-- the gaps, up to the length
leads_fill : (before : Relation) (work : Work) → IsForward before work → (start : ℕ → ℕ) → IsLeast before work start
    → (m : ℕ) (rest : List ℕ) → LeadsToEnd before work start m rest
    → start m + gaps_after work m rest + sum_by work.cost (m ∷ rest) ≡ length_of work start
leads_fill before work forward start least m [] h =
    omega (arith, finish_of-le-length_of work start m h.one, length_of-le work start (start m + work.cost m) h.latest, sum_by-cons work.cost m [])
leads_fill before work forward start least m (next ∷ rest) h =
    let later = leads_fill before work forward start least next rest h.2 in
    let linked = h.0.one in
    let number = forward.second m next linked in
    let at_once = least_is_earliest before work start forward least next number (holds_until work start next m) (omega (arith, h.1)) h.0.latest in
    omega (arith, later, at_once, held_until before work start least.obeys m next number linked, sum_by-cons work.cost m (next ∷ rest))

pub printed_is_as_long : (before : Relation) (work : Work) → IsForward before work → PrintedIsAsLong before work
printed_is_as_long before work forward start [] least none =
    omega (arith, length_of-le work start 0 (λ m h. absurd (omega (arith, none, h.from, h.to))))
printed_is_as_long before work forward start (m ∷ rest) least h =
    let number = first_is_number before work m rest (links_from_leads before work forward start m rest h.1) in
    let at_once = least_is_earliest before work start forward least m number (work.floor m) (omega arith) h.0 in
    omega (arith, released before work start least.obeys m number, at_once, leads_fill before work forward start least m rest h.1)
