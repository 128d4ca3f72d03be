-- Shares given from the last affinity to the first.
use Rattle.std.proofs.Common.{◌≡◌, ◌≢◌, ℕ, ◌+◌, ◌-◌, ◌*◌, ◌<◌, ◌≤◌, inl, inr, List, length, take, set, get_or, replicate, Some, None, ap, sym, ◌∙◌, subst, arith, length-set, get_or-set_other, get_or-set_same}
use Rattle.std.proofs.lemmas.Bool.{cases_eq, cases_lt}
use Rattle.std.proofs.lemmas.List.{take-set-le, get_or-replicate, get_or-take, length-take-le, length-replicate}
use Rattle.std.proofs.lemmas.List.Sums.{sum_by-set, sum_by_more, get_or-le-sum_by, sum_by-take-le}
use Rattle.std.proofs.lemmas.List.Folds.{sum_by-replicate}
use Rattle.std.proofs.Math.Seq.{take-set-lt}
use Rattle.std.specs.List.{sum_by}
use Rattle.waff_model.specs.Tree.{Node, parent_of, IsRooted}
use Rattle.waff_model.specs.declared.preorder.Share.{Share}
use Rattle.waff_model.specs.Preorder.{leaf, share_at, sizes_before, AreShares}

-- the shares once the affinity b has its share of its parent p
abbrev pub given : List Share → ℕ → ℕ → ℕ → List Share
given shares b p m = set (set shares b (record { size = (share_at shares b).size; behind = (share_at shares p).size - 1 })) p (record { size = (share_at shares p).size + (share_at shares b).size; behind = m })

-- what has changed by then
pub record IsGiven (shares new : List Share) (b p : ℕ) : Type 0 where
  pub count : length new ≡ length shares
  pub child_behind : (share_at new b).behind ≡ (share_at shares p).size - 1
  pub child_size : (share_at new b).size ≡ (share_at shares b).size
  pub parent_size : (share_at new p).size ≡ (share_at shares p).size + (share_at shares b).size
  pub others : (c : ℕ) → c ≢ b → c ≢ p → share_at new c ≡ share_at shares c
  pub left : sizes_before new b ≡ sizes_before shares (b + 1)

-- the sizes of an affinity and of one before it are among those up to it
pub both_sizes : (shares : List Share) (b p : ℕ) → p < b → b < length shares → (share_at shares p).size + (share_at shares b).size ≤ sizes_before shares (b + 1)
both_sizes shares b p before here =
    let zero_share : Share = record { size = 0; behind = 0 } in
    let f : Share → ℕ = λ s. s.size in
    let inside : p < length (take b shares) = omega (arith, length-take-le b shares (omega arith)) in
    let part : (get_or (take b shares) p zero_share).size ≤ sum_by f (take b shares) = get_or-le-sum_by f (take b shares) p zero_share inside in
    let same : (get_or (take b shares) p zero_share).size ≡ (share_at shares p).size = ap f (get_or-take b shares p zero_share before) in
    let more : sizes_before shares (b + 1) ≡ sum_by f (take b shares) + (share_at shares b).size = sum_by_more f shares b zero_share here in
    omega arith

module _ (shares : List Share) (b p m : ℕ) (before : p < b) (here : b < length shares) where
  given_left : sizes_before (given shares b p m) b ≡ sizes_before shares (b + 1)
  given_left =
      let zero_share : Share = record { size = 0; behind = 0 } in
      let child : Share = record { size = (share_at shares b).size; behind = (share_at shares p).size - 1 } in
      let parent : Share = record { size = (share_at shares p).size + (share_at shares b).size; behind = m } in
      let f : Share → ℕ = λ s. s.size in
      let inside : p < length (take b shares) = omega (arith, length-take-le b shares (omega arith)) in
      let cut : take b (given shares b p m) ≡ set (take b shares) p parent =
      take-set-lt b (set shares b child) p parent before ∙ ap (λ t. set t p parent) (take-set-le b shares b child (omega arith)) in
      let sums : sizes_before (given shares b p m) b ≡ sum_by f (set (take b shares) p parent) = ap (sum_by f) cut in
      let moved : sum_by f (set (take b shares) p parent) + (get_or (take b shares) p zero_share).size ≡ sum_by f (take b shares) + parent.size = sum_by-set f (take b shares) p parent zero_share inside in
      let same : (get_or (take b shares) p zero_share).size ≡ (share_at shares p).size = ap f (get_or-take b shares p zero_share before) in
      let more : sizes_before shares (b + 1) ≡ sum_by f (take b shares) + (share_at shares b).size = sum_by_more f shares b zero_share here in
      omega arith

  pub is_given : IsGiven shares (given shares b p m) b p
  is_given =
      let zero_share : Share = record { size = 0; behind = 0 } in
      let child : Share = record { size = (share_at shares b).size; behind = (share_at shares p).size - 1 } in
      let parent : Share = record { size = (share_at shares p).size + (share_at shares b).size; behind = m } in
      let counted : length (set shares b child) ≡ length shares = length-set shares b child in
      let other : b ≢ p = omega arith in
      let at_child : share_at (given shares b p m) b ≡ child =
      get_or-set_other (set shares b child) p b parent zero_share other ∙ get_or-set_same shares b child zero_share here in
      let at_parent : share_at (given shares b p m) p ≡ parent =
      get_or-set_same (set shares b child) p parent zero_share (omega arith) in
      record {
        count = length-set (set shares b child) p parent ∙ counted;
        child_behind = ap (λ s. s.behind) at_child;
        child_size = ap (λ s. s.size) at_child;
        parent_size = ap (λ s. s.size) at_parent;
        others = λ c not_b not_p. get_or-set_other (set shares b child) p c parent zero_share not_p ∙ get_or-set_other shares b c child zero_share not_b;
        left = given_left;
      }

module _ (tree : List Node) (rooted : IsRooted tree) (shares new : List Share) (b p : ℕ) (before : p < b) (here : b < length tree) (parent : parent_of tree b ≡ Some p) (are : AreShares tree shares (b + 1)) (step : IsGiven shares new b p) where
  both_few : (share_at shares p).size + (share_at shares b).size ≤ length tree
  both_few = omega (arith, both_sizes shares b p before (omega (arith, are.count)), are.left)

  later_stays : (c : ℕ) → b < c → share_at new c ≡ share_at shares c
  later_stays c past = step.others c (omega arith) (omega arith)

  size_of_new : (c : ℕ) → c < length tree → ((share_at shares c).size ≤ (share_at new c).size) × ((share_at new c).size ≤ length tree)
  size_of_new c within = elim (cases_eq c b) [
    | inl same ↦ rw same (omega (arith, step.child_size, are.few b here), omega (arith, step.child_size, are.few b here))
    | inr not_b ↦ elim (cases_eq c p) [
      | inl same ↦ rw same (omega (arith, step.parent_size, both_few), omega (arith, step.parent_size, both_few))
      | inr not_p ↦ rw (step.others c not_b not_p) (omega arith, are.few c within)
    ]
  ]

  same_parent : (q : ℕ) → parent_of tree b ≡ Some q → p ≡ q
  same_parent q parent_q = cc

  -- and so the affinities from b on have their shares
  pub shares_given : AreShares tree new b
  shares_given = record {
    count = step.count ∙ are.count;
    filled = λ c within. omega (arith, are.filled c within, (size_of_new c within).0);
    few = λ c within. (size_of_new c within).1;
    left = omega (arith, step.left, are.left);
    within = λ c q from within parent_c. elim (cases_lt b c) [
      | inl past ↦
          let stays = later_stays c past in
          let up : q < c = rooted.earlier c q parent_c in
          omega (arith, ap (λ s. s.behind) stays, ap (λ s. s.size) stays, are.within c q (omega arith) within parent_c, (size_of_new q (omega arith)).0)
      | inr at ↦
          let same : b ≡ c = omega arith in
          let one : p ≡ q = same_parent q (subst (λ c. parent_of tree c ≡ Some q) (sym same) parent_c) in
          rw (← same, ← one) (omega (arith, step.child_behind, step.child_size, step.parent_size, are.filled p (omega arith)))
    ];
    apart = λ c e q from order within parent_c parent_e.
        let stays = later_stays e (omega arith) in
        elim (cases_lt b c) [
          | inl past ↦ rw (stays, later_stays c past) (are.apart c e q (omega arith) order within parent_c parent_e)
          | inr at ↦
              let same : b ≡ c = omega arith in
              let one : p ≡ q = same_parent q (subst (λ c. parent_of tree c ≡ Some q) (sym same) parent_c) in
              let inside = are.within e p (omega arith) within (subst (λ q. parent_of tree e ≡ Some q) (sym one) parent_e) in
              rw (stays, ← same, step.child_behind) (omega (arith, inside))
        ];
  }

module _ (tree : List Node) (shares : List Share) where
  -- an affinity without parent takes no share
  pub none_given : (b : ℕ) → b < length tree → parent_of tree b ≡ None → AreShares tree shares (b + 1) → AreShares tree shares b
  none_given b here none are = record {
    count = are.count;
    filled = are.filled;
    few = are.few;
    left = omega (arith, are.left, sum_by_more (λ (s : Share). s.size) shares b (record { size = 0; behind = 0 }) (omega (arith, are.count)));
    within = λ c q from within parent. elim (cases_lt b c) [
      | inl past ↦ are.within c q (omega arith) within parent
      | inr at ↦ absurd (no_parent c q (omega arith) parent)
    ];
    apart = λ c e q from order within parent parent_e. elim (cases_lt b c) [
      | inl past ↦ are.apart c e q (omega arith) order within parent parent_e
      | inr at ↦ absurd (no_parent c q (omega arith) parent)
    ];
  } where
    no_parent : (c q : ℕ) → b ≡ c → parent_of tree c ≡ Some q → ⊥
    no_parent c q same parent = let n : parent_of tree c ≡ None = subst (λ b. parent_of tree b ≡ None) same none in absurd (cc)

  -- at the start each takes its own place
  pub start_given : shares ≡ replicate (length tree) leaf → AreShares tree shares (length tree)
  start_given leaves =
      let each : (b : ℕ) → b < length tree → (share_at shares b).size ≡ 1 = λ b within. rw leaves (ap (λ s. s.size) (get_or-replicate (length tree) b leaf (record { size = 0; behind = 0 }) within)) in
      record {
        count = rw leaves (length-replicate (length tree) leaf);
        filled = λ b within. omega (arith, each b within);
        few = λ b within. omega (arith, each b within);
        left = let all : sum_by (λ (s : Share). s.size) shares ≡ length tree * 1 = rw leaves (sum_by-replicate (λ (s : Share). s.size) (length tree) leaf) in
            omega (arith, sum_by-take-le (λ (s : Share). s.size) shares (length tree));
        within = λ b q from within parent. absurd (omega arith);
        apart = λ b c q from order within parent parent_c. absurd (omega arith);
      }
