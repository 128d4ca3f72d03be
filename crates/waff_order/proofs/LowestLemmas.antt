-- The lowest affinities that are noted, and one more.
use Rattle.std.proofs.Common.{◌≡◌, ℕ, ◌+◌, ◌<◌, ◌≤◌, ◌⊎◌, List, length, get_or, set, take, replicate, Option, Some, None, IfSome, arith, refl, sym, ◌∙◌, ap, subst, inl, inr}
use Rattle.std.proofs.lemmas.Bool.{cases_eq, cases_lt, cases_order}
use Rattle.std.proofs.lemmas.List.{get_or-set_same, get_or-set_other, get_or_past}
use Rattle.std.proofs.lemmas.List.Elements.{All-get_or, All-take, All-replicate}
use Rattle.waff_model.specs.Tree.{Node, AtOrAbove, Excludes, IsTree}
use Rattle.waff_model.specs.declared.tree.AffinityId.{AffinityId}
use Rattle.waff_model.proofs.TreeLemmas.{reflexive, transitive, comparable}
use Rattle.waff_assign.specs.Order.{affinity_of, Refines}
use Rattle.waff_order.specs.Lowests.{IsLowestOf, IsLowestNoted, IsLower, IsCoarseOf, AreLowests, Agree}
use Rattle.waff_assign.specs.Held.{AreKnown, AreUnlocked, Held}
use Rattle.waff_assign.specs.Order.{held_of}
use Rattle.waff_assign.proofs.Holding.{affinities_do, affinity_known, affinity_unlocked, excludes_from, excludes_sym, uses_none}

-- a table of nothing has nothing at each place
pub none_noted : (none : Option AffinityId) (count n a : ℕ) → get_or (take count (replicate n none)) a none ≡ none
none_noted none count n a =
    let table = take count (replicate n none) in
    elim (cases_lt a (length table)) [
      | inl within ↦ All-get_or (λ x. x ≡ none) table a none within
          (All-take (λ x. x ≡ none) count (replicate n none) (All-replicate (λ x. x ≡ none) n none refl))
      | inr past ↦ get_or_past table a none past
    ]

-- what two options hold is one where they are equal
one_of : {x y : ℕ} → Some x ≡ Some y → x ≡ y
one_of same = cc

module _ (tree : List Node) where
  -- sets of the same affinities have the same lowest
  pub noted_same : (P Q : AffinityId → Type 0) (noted : Option AffinityId) → ((b : AffinityId) → P b → Q b) → ((b : AffinityId) → Q b → P b)
      → IsLowestNoted tree P noted → IsLowestNoted tree Q noted
  noted_same P Q None to from h = λ b q. h b (from b q)
  noted_same P Q (Some low) to from h = record { one = to low h.one; each = λ b q. h.each b (from b q) }

  -- what is noted is the lowest
  pub noted_is : (P : AffinityId → Type 0) (noted : Option AffinityId) (low : AffinityId) → noted ≡ Some low → IsLowestNoted tree P noted
      → IsLowestOf tree P low
  noted_is P noted low is h = subst (λ x. IsLowestNoted tree P x) is h

  -- where a set has an affinity, one is noted
  pub noted_some : (P : AffinityId → Type 0) (noted : Option AffinityId) (b : AffinityId) → P b → IsLowestNoted tree P noted
      → (low : AffinityId) × (noted ≡ Some low) × IsLowestOf tree P low
  noted_some P None b has h = absurd (h b has)
  noted_some P (Some low) b has h = (low, refl, h)

  below_noted : (P : AffinityId → Type 0) (noted : Option AffinityId) (low b : AffinityId) → IsLowestNoted tree P noted
      → IfSome noted (λ a. AtOrAbove tree a.0 low.0) → P b → AtOrAbove tree b.0 low.0
  below_noted P None low b h above has = absurd (h b has)
  below_noted P (Some a) low b h above has = transitive tree b.0 a.0 low.0 (h.each b has) above

  -- the lower of the lowest of two sets is the lowest of both
  pub noted_either : (P Q : AffinityId → Type 0) (noted : Option AffinityId) (a low : AffinityId) → IsLowestNoted tree P noted → IsLowestOf tree Q a
      → IsLower tree noted a low → IsLowestNoted tree (λ b. P b ⊎ Q b) (Some low)
  noted_either P Q noted a low h g lower = record {
    one = elim lower.one [ inl new ↦ inr (subst Q (sym new) g.one) | inr old ↦ inl (noted_is P noted low old h).one ];
    each = λ b either. elim either [
      | inl p ↦ below_noted P noted low b h lower.noted_above p
      | inr q ↦ transitive tree b.0 a.0 low.0 (g.each b q) lower.above
    ];
  }

module _ (assigned : List Held) (coarse_tree : List Node) (coarse_assigned : List Held) where
  pub coarse_later : (n m a : ℕ) (b : AffinityId) → n ≤ m → IsCoarseOf assigned coarse_assigned n a b → IsCoarseOf assigned coarse_assigned m a b
  coarse_later n m a b later h = record { message = h.message; from = h.from; before = omega (arith, h.before); affinity = h.affinity; coarse = h.coarse }

  coarse_cases : (n a : ℕ) (b : AffinityId) → IsCoarseOf assigned coarse_assigned (n + 1) a b
      → IsCoarseOf assigned coarse_assigned n a b ⊎ ((affinity_of assigned n ≡ Some a) × (affinity_of coarse_assigned n ≡ Some b.0))
  coarse_cases n a b h =
      elim (cases_eq h.message n) [
        | inl last ↦ inr (rw last at h.affinity, rw last at h.coarse)
        | inr other ↦ inl (record { message = h.message; from = h.from; before = omega (arith, h.before, other); affinity = h.affinity; coarse = h.coarse })
      ]

  -- one message more
  pub lowests_more : (n place : ℕ) (lowests : List (Option AffinityId)) (b low : AffinityId) → 1 ≤ n
      → affinity_of assigned n ≡ Some place → place < length lowests → affinity_of coarse_assigned n ≡ Some b.0
      → IsLower coarse_tree (get_or lowests place None) b low
      → AreLowests assigned coarse_tree coarse_assigned n lowests
      → AreLowests assigned coarse_tree coarse_assigned (n + 1) (set lowests place (Some low))
  lowests_more n place lowests b low from there within is lower h a =
      let New : AffinityId → Type 0 = IsCoarseOf assigned coarse_assigned (n + 1) a in
      let Old : AffinityId → Type 0 = IsCoarseOf assigned coarse_assigned n a in
      elim (cases_eq a place) [
        | inl same ↦
            let Last : AffinityId → Type 0 = λ x. x.0 ≡ b.0 in
            let last : IsLowestOf coarse_tree Last b = record { one = refl; each = λ x equal. rw equal (reflexive coarse_tree b.0) } in
            let entry : get_or (set lowests place (Some low)) a None ≡ Some low
            = subst (λ x. get_or (set lowests place (Some low)) x None ≡ Some low) (sym same) (get_or-set_same lowests place (Some low) None within) in
            subst (λ x. IsLowestNoted coarse_tree New x) (sym entry)
            (noted_same coarse_tree (λ x. Old x ⊎ Last x) New (Some low)
            (λ x either. elim either [
              | inl old ↦ coarse_later n (n + 1) a x (omega arith) old
              | inr new ↦ record { message = n; from = from; before = omega arith; affinity = there ∙ ap Some (sym same); coarse = is ∙ ap Some (sym new) }
            ])
            (λ x new. elim (coarse_cases n a x new) [ inl old ↦ inl old | inr here ↦ inr (one_of (sym here.1 ∙ is)) ])
            (noted_either coarse_tree Old Last (get_or lowests a None) b low (h a) last
            (subst (λ x. IsLower coarse_tree (get_or lowests x None) b low) (sym same) lower)))
        | inr other ↦
            subst (λ x. IsLowestNoted coarse_tree New x) (sym (get_or-set_other lowests place a (Some low) None other))
            (noted_same coarse_tree Old New (get_or lowests a None)
            (λ x old. coarse_later n (n + 1) a x (omega arith) old)
            (λ x new. elim (coarse_cases n a x new) [ inl old ↦ old | inr here ↦ absurd (other (one_of (sym here.0 ∙ there))) ])
            (h a))
      ]

  -- where one hierarchy refines the other, messages that exclude each other do so under the other
  module _ (tree : List Node) (is_coarse : IsTree coarse_tree) (known : AreKnown coarse_tree coarse_assigned) (unlocked : AreUnlocked coarse_assigned)
      (lengths : length assigned ≡ length coarse_assigned) (refines : Refines tree assigned coarse_tree coarse_assigned) where
    ordered_excludes : (i j a b x y : ℕ) → 1 ≤ i → i < j → j ≤ length assigned → affinity_of assigned i ≡ Some a → affinity_of assigned j ≡ Some b
        → affinity_of coarse_assigned i ≡ Some x → affinity_of coarse_assigned j ≡ Some y → Excludes tree a b → Excludes coarse_tree x y
    ordered_excludes i j a b x y from before to is_a is_b is_x is_y excludes =
        let pair = refines i j (record {
          from = from;
          earlier = before;
          to = to;
          excludes = affinities_do tree (held_of assigned i) (held_of assigned j) a b is_a is_b excludes;
        }) in
        excludes_from coarse_tree (held_of coarse_assigned i) (held_of coarse_assigned j) x y is_coarse
        (affinity_known coarse_tree coarse_assigned i x known from (omega arith) is_x)
        (affinity_known coarse_tree coarse_assigned j y known (omega arith) (omega arith) is_y) is_x is_y
        (uses_none coarse_assigned i unlocked from (omega arith)) pair.excludes

    pub refined_excludes : (a b : ℕ) (x y : AffinityId)
        → IsCoarseOf assigned coarse_assigned (length assigned + 1) a x → IsCoarseOf assigned coarse_assigned (length assigned + 1) b y
        → Excludes tree a b → Excludes coarse_tree x.0 y.0
    refined_excludes a b x y one other excludes =
        let one_before : one.message < length assigned + 1 = one.before in
        let other_before : other.message < length assigned + 1 = other.before in
        elim (cases_order one.message other.message) [
          | inl same ↦
              let equal : x.0 ≡ y.0 = one_of (sym one.coarse ∙ ap (affinity_of coarse_assigned) same ∙ other.coarse) in
              inl (subst (λ z. AtOrAbove coarse_tree x.0 z) equal (reflexive coarse_tree x.0))
          | inr (inl before) ↦
              ordered_excludes one.message other.message a b x.0 y.0 one.from before (omega arith) one.affinity other.affinity one.coarse other.coarse excludes
          | inr (inr after) ↦
              excludes_sym coarse_tree y.0 x.0
              (ordered_excludes other.message one.message b a y.0 x.0 other.from after (omega arith) other.affinity one.affinity other.coarse one.coarse
              (excludes_sym tree a b excludes))
        ]

    -- where one hierarchy refines the other, the lowest affinities agree
    pub refined_agree : (lowests : List (Option AffinityId))
        → AreLowests assigned coarse_tree coarse_assigned (length assigned + 1) lowests → Agree tree coarse_tree lowests
    refined_agree lowests are a b x y above noted_a noted_b =
        let Of : ℕ → AffinityId → Type 0 = IsCoarseOf assigned coarse_assigned (length assigned + 1) in
        refined_excludes a b x y
        (noted_is coarse_tree (Of a) (get_or lowests a None) x noted_a (are a)).one
        (noted_is coarse_tree (Of b) (get_or lowests b None) y noted_b (are b)).one
        (inl above)

  both_above : (a b x y : ℕ) → AtOrAbove coarse_tree a x → AtOrAbove coarse_tree b y → Excludes coarse_tree x y → Excludes coarse_tree a b
  both_above a b x y above_a above_b excludes =
      elim excludes [
        | inl up ↦ comparable coarse_tree a b y (transitive coarse_tree a x y above_a up) above_b
        | inr down ↦ comparable coarse_tree a b x above_a (transitive coarse_tree b y x above_b down)
      ]

  -- where the lowest affinities agree, one hierarchy refines the other
  pub agreed_refine : (tree : List Node) (lowests : List (Option AffinityId)) → IsTree tree → AreKnown tree assigned → AreUnlocked assigned
      → AreKnown coarse_tree coarse_assigned → AreUnlocked coarse_assigned → length assigned ≡ length coarse_assigned
      → AreLowests assigned coarse_tree coarse_assigned (length assigned + 1) lowests
      → Agree tree coarse_tree lowests → Refines tree assigned coarse_tree coarse_assigned
  agreed_refine tree lowests is_tree known unlocked coarse_known coarse_unlocked lengths are agree i j is =
      let from : 1 ≤ i = is.from in
      let earlier : i < j = is.earlier in
      let to : j ≤ length assigned = is.to in
      let Of : ℕ → AffinityId → Type 0 = IsCoarseOf assigned coarse_assigned (length assigned + 1) in
      let of_i = affinity_unlocked tree assigned i known unlocked from (omega arith) in
      let of_j = affinity_unlocked tree assigned j known unlocked (omega arith) to in
      let to_i = affinity_unlocked coarse_tree coarse_assigned i coarse_known coarse_unlocked from (omega arith) in
      let to_j = affinity_unlocked coarse_tree coarse_assigned j coarse_known coarse_unlocked (omega arith) (omega arith) in
      let a : ℕ = of_i.0 in
      let b : ℕ = of_j.0 in
      let x : AffinityId = record { 0 = to_i.0 } in
      let y : AffinityId = record { 0 = to_j.0 } in
      let of_a : Of a x = record { message = i; from = from; before = omega arith; affinity = of_i.1; coarse = to_i.1 } in
      let of_b : Of b y = record { message = j; from = omega arith; before = omega arith; affinity = of_j.1; coarse = to_j.1 } in
      let low_a = noted_some coarse_tree (Of a) (get_or lowests a None) x of_a (are a) in
      let low_b = noted_some coarse_tree (Of b) (get_or lowests b None) y of_b (are b) in
      let excludes : Excludes tree a b = excludes_from tree (held_of assigned i) (held_of assigned j) a b is_tree of_i.2 of_j.2 of_i.1 of_j.1
      (uses_none assigned i unlocked from (omega arith)) is.excludes in
      let lows : Excludes coarse_tree low_a.0.0 low_b.0.0 = elim excludes [
        | inl up ↦ agree a b low_a.0 low_b.0 up low_a.1 low_b.1
        | inr down ↦ excludes_sym coarse_tree low_b.0.0 low_a.0.0 (agree b a low_b.0 low_a.0 down low_b.1 low_a.1)
      ] in
      record {
        from = from;
        earlier = earlier;
        to = omega arith;
        excludes = affinities_do coarse_tree (held_of coarse_assigned i) (held_of coarse_assigned j) x.0 y.0 to_i.1 to_j.1
            (both_above x.0 y.0 low_a.0.0 low_b.0.0 (low_a.2.each x of_a) (low_b.2.each y of_b) lows);
      }
