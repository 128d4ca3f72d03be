-- The least plan is one, and so is the printed chain of a plan.
use Rattle.std.proofs.Common.{◌≡◌, ℕ, ◌+◌, ◌*◌, ◌≤◌, ◌⊎◌, inl, inr, List, [], ◌∷◌, Option, Some, None, arith, refl, sym, ap, subst, ◌∙◌}
use Rattle.waff_assign.specs.Order.{Relation}
use Rattle.waff_plan.specs.Work.{Work, IsNumber, finish_of, holds_until, length_of, total_of}
use Rattle.waff_plan.specs.Bound.{right_side}
use Rattle.waff_plan.specs.IssueLaws.{IsLawful}
use Rattle.waff_plan.specs.Obeys.{IsLinked, IsForward}
use Rattle.waff_plan.specs.Chain.{IsLatest, LeadsToEnd, IsPrinted, chain_cost, chain_release}
use Rattle.waff_plan.specs.Totals.{totals_of}
use Rattle.waff_plan.specs.declared.totals.Totals.{Totals}
use Rattle.waff_plan.specs.Unique.{AreSame, LeastIsOne, PrintedIsOne}
use Rattle.waff_plan.proofs.Chains.{chains_are_within_length, least_is_shortest, printed_is_as_long, printed_is_chain}
use Rattle.waff_plan.proofs.Holding.{holds-same}
use Rattle.waff_plan.proofs.Longest.{finish_of-le-length_of, length_of-le}
use Rattle.waff_plan.proofs.Ratios.{bound_is_within_ratio, bound_is_within_twice}
use Rattle.waff_plan.proofs.Shares.{none_is_shorter}
use Rattle.waff_plan.proofs.Ticks.{total_is_within_workers}

pub least_is_one : (before : Relation) (work : Work) → LeastIsOne before work
least_is_one before work start other first second m number =
    omega (arith, first.least other second.obeys m number, second.least start first.obeys m number)

no_longer : (work : Work) (start other : ℕ → ℕ) → AreSame work start other → length_of work start ≤ length_of work other
no_longer work start other same =
    length_of-le work start (length_of work other) (λ m number. omega (arith, same m number, finish_of-le-length_of work other m number))

-- plans with the same starts have the same length
pub same_length : (work : Work) (start other : ℕ → ℕ) → AreSame work start other → length_of work start ≡ length_of work other
same_length work start other same =
    omega (arith, no_longer work start other same, no_longer work other start (λ m number. sym (same m number)))

-- the totals of plans with the same starts are equal
pub totals_same : (workers : Option ℕ) (work : Work) (start other : ℕ → ℕ) (chain : List ℕ) → AreSame work start other
    → totals_of workers work start chain ≡ totals_of workers work other chain
totals_same None work start other chain same =
    let totals : ℕ → Totals = λ n. record {
      total = total_of work;
      length = n;
      release = chain_release work chain;
      cost = chain_cost work chain;
      left = n;
      right = chain_release work chain + chain_cost work chain;
    } in
    ap totals (same_length work start other same)
totals_same (Some k) work start other chain same =
    let totals : ℕ → Totals = λ n. record {
      total = total_of work;
      length = n;
      release = chain_release work chain;
      cost = chain_cost work chain;
      left = k * n;
      right = right_side work k chain;
    } in
    ap totals (same_length work start other same)

-- the latest of messages is one
latest_is_one : (Is : ℕ → Type 0) (finish : ℕ → ℕ) (a b : ℕ) → IsLatest Is finish a → IsLatest Is finish b → a ≡ b
latest_is_one Is finish a b first second =
    let same : finish a ≡ finish b = omega (arith, second.latest a first.one, first.latest b second.one) in
    omega (arith, first.lowest b second.one (sym same), second.lowest a first.one same)

-- m and what follows it are the end of another chain
abbrev IsEnd : ℕ → List ℕ → ℕ → List ℕ → Type 0
IsEnd m rest other [] = (m ≡ other) × (rest ≡ [])
IsEnd m rest other (next ∷ others) = ((m ≡ other) × (rest ≡ next ∷ others)) ⊎ IsEnd m rest next others

whole_is_end : (m : ℕ) (rest : List ℕ) → IsEnd m rest m rest
whole_is_end m [] = (refl, refl)
whole_is_end m (next ∷ rest) = inl (refl, refl)

module _ (before : Relation) (work : Work) (start : ℕ → ℕ) where
  -- the latest of all messages alone is the end of each chain
  last_is_end : (m other : ℕ) (others : List ℕ) → IsLatest (IsNumber work) (finish_of work start) m → LeadsToEnd before work start other others
      → IsEnd m [] other others
  last_is_end m other [] last leads = (latest_is_one (IsNumber work) (finish_of work start) m other last leads, refl)
  last_is_end m other (next ∷ others) last leads = inr (last_is_end m next others last leads.2)

  -- what stands before an end is the latest message before it
  longer_end : (m next : ℕ) (rest : List ℕ) (other : ℕ) (others : List ℕ) → IsLatest (λ i. IsLinked before work i next) (holds_until work start next) m
      → LeadsToEnd before work start other others → IsEnd next rest other others
      → ((next ≡ other) × (rest ≡ others)) ⊎ IsEnd m (next ∷ rest) other others
  longer_end m next rest other [] latest leads (same, none) = inl (same, none)
  longer_end m next rest other (after ∷ others) latest leads (inl whole) = inl whole
  longer_end m next rest other (after ∷ others) latest leads (inr end) =
      elim (longer_end m next rest after others latest leads.2 end) [
        | inl (same, equal) ↦
            let first : m ≡ other = latest_is_one (λ i. IsLinked before work i next) (holds_until work start next) m other latest
            (subst (λ x. IsLatest (λ i. IsLinked before work i x) (holds_until work start x) other) (sym same) leads.0) in
            let tail : next ∷ rest ≡ after ∷ others = cc in
            inr (inl (first, tail))
        | inr more ↦ inr (inr more)
      ]

  -- of two chains one is the end of the other
  ends : (m : ℕ) (rest : List ℕ) (other : ℕ) (others : List ℕ) → LeadsToEnd before work start m rest → LeadsToEnd before work start other others
      → IsEnd m rest other others ⊎ IsEnd other others m rest
  ends m [] other others leads leads_other = inl (last_is_end m other others leads leads_other)
  ends m (next ∷ rest) other others leads leads_other = elim (ends next rest other others leads.2 leads_other) [
    | inl end ↦ elim (longer_end m next rest other others leads.0 leads_other end) [
      | inl (same, equal) ↦
          inr (inr (subst (λ x. IsEnd x others next rest) same (subst (λ xs. IsEnd next xs next rest) equal (whole_is_end next rest))))
      | inr longer ↦ inl longer
    ]
    | inr end ↦ inr (inr end)
  ]

  -- an end that waited for no message is the whole chain
  whole : (m : ℕ) (rest : List ℕ) (other : ℕ) (others : List ℕ) → ((i : ℕ) → IsLinked before work i m → holds_until work start m i ≤ work.floor m)
      → LeadsToEnd before work start other others → IsEnd m rest other others → (m ≡ other) × (rest ≡ others)
  whole m rest other [] free leads end = end
  whole m rest other (next ∷ others) free leads (inl same) = same
  whole m rest other (next ∷ others) free leads (inr end) =
      let shorter = whole m rest next others free leads.2 end in
      let free_here : holds_until work start next other ≤ work.floor next
      = subst (λ x. holds_until work start x other ≤ work.floor x) shorter.0 (free other (subst (λ x. IsLinked before work other x) (sym shorter.0) leads.0.one)) in
      absurd (omega (arith, leads.1, free_here))

  number_of_leads : IsForward before work → (m : ℕ) (rest : List ℕ) → LeadsToEnd before work start m rest → IsNumber work m
  number_of_leads forward m [] leads = leads.one
  number_of_leads forward m (next ∷ rest) leads = forward.first m next leads.0.one

  -- a plan has one printed chain
  one_chain : IsForward before work → (chain other : List ℕ) → IsPrinted before work start chain → IsPrinted before work start other → chain ≡ other
  one_chain forward [] [] none nothing = refl
  one_chain forward [] (m ∷ rest) none printed =
      let number = number_of_leads forward m rest printed.1 in
      absurd (omega (arith, none, number.from, number.to))
  one_chain forward (m ∷ rest) [] printed none =
      let number = number_of_leads forward m rest printed.1 in
      absurd (omega (arith, none, number.from, number.to))
  one_chain forward (m ∷ rest) (other ∷ others) printed printed_other = elim (ends m rest other others printed.1 printed_other.1) [
    | inl end ↦ let same = whole m rest other others printed.0 printed_other.1 end in cc (same.0, same.1)
    | inr end ↦ let same = whole other others m rest printed_other.0 printed.1 end in cc (same.0, same.1)
  ]

-- the latest of messages that finish at the same ticks in another plan
latest_of_same : (Is : ℕ → Type 0) (finish other : ℕ → ℕ) (m : ℕ) → ((i : ℕ) → Is i → finish i ≡ other i) → IsLatest Is finish m → IsLatest Is other m
latest_of_same Is finish other m same latest = record {
  one = latest.one;
  latest = λ i is. rw (same i is, same m latest.one) at (latest.latest i is);
  lowest = λ i is equal. latest.lowest i is (same i is ∙ equal ∙ sym (same m latest.one));
}

module _ (before : Relation) (work : Work) (start other : ℕ → ℕ) (forward : IsForward before work) (same : AreSame work start other) where
  same_finish : (i : ℕ) → IsNumber work i → finish_of work start i ≡ finish_of work other i
  same_finish i number = ap (λ s. s + work.cost i) (same i number)

  same_hold : (i m : ℕ) → IsLinked before work i m → holds_until work start m i ≡ holds_until work other m i
  same_hold i m linked = holds-same work start other i m (same i (forward.first i m linked))

  leads_of_same : (m : ℕ) (rest : List ℕ) → LeadsToEnd before work start m rest → LeadsToEnd before work other m rest
  leads_of_same m [] leads = latest_of_same (IsNumber work) (finish_of work start) (finish_of work other) m same_finish leads
  leads_of_same m (next ∷ rest) leads =
      let at : holds_until work start next m ≡ holds_until work other next m = same_hold m next leads.0.one in (
        latest_of_same (λ i. IsLinked before work i next) (holds_until work start next) (holds_until work other next) m (λ i linked. same_hold i next linked) leads.0,
        omega (arith, at, leads.1),
        leads_of_same next rest leads.2,
      )

  -- the printed chain of a plan with the same starts
  pub printed_of_same : (chain : List ℕ) → IsPrinted before work start chain → IsPrinted before work other chain
  printed_of_same [] none = none
  printed_of_same (m ∷ rest) printed =
      (λ i linked. omega (arith, same_hold i m linked, printed.0 i linked), leads_of_same m rest printed.1)

pub printed_is_one : (before : Relation) (work : Work) → IsForward before work → PrintedIsOne before work
printed_is_one before work forward start other chain other_chain same printed printed_other =
    one_chain before work other forward chain other_chain (printed_of_same before work start other forward same chain printed) printed_other

-- the laws of plans hold in each order that goes forward
pub lawful : (before : Relation) (work : Work) → IsForward before work → IsLawful before work
lawful before work forward = record {
  chains = chains_are_within_length before work;
  shortest = least_is_shortest before work;
  is_chain = printed_is_chain before work forward;
  as_long = printed_is_as_long before work forward;
  total = total_is_within_workers before work;
  none_shorter = none_is_shorter before work;
  twice = bound_is_within_twice before work;
  ratio = bound_is_within_ratio before work;
  one_least = least_is_one before work;
  one_printed = printed_is_one before work forward;
}
