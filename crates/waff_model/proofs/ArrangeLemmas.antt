-- Places given from the first affinity to the last, by their shares.
use Rattle.std.proofs.Common.{◌≡◌, ℕ, ◌+◌, ◌-◌, ◌<◌, ◌≤◌, inl, inr, List, [], ◌∷◌, ◌++◌, length, Some, None, ◌∙◌, sym, arith, length-append}
use Rattle.std.proofs.lemmas.Bool.{cases_lt}
use Rattle.std.proofs.lemmas.List.{get_or_push, get_or_append_left}
use Rattle.waff_model.specs.Tree.{Node, parent_of, IsRooted}
use Rattle.waff_model.specs.declared.preorder.Span.{Span}
use Rattle.waff_model.specs.declared.preorder.Share.{Share}
use Rattle.waff_model.proofs.PreorderLemmas.{AreSpans}
use Rattle.waff_model.specs.Preorder.{span_at, share_at, AreShares}

-- the place of the affinity b follows from that of its parent
pub record IsPlaced (tree : List Node) (shares : List Share) (spans : List Span) (b : ℕ) (span : Span) : Type 0 where
  pub parent : span.parent ≡ parent_of tree b
  pub end : span.end ≡ span.first + (share_at shares b).size
  pub few : span.end ≤ length tree
  pub inside : (p : ℕ) → parent_of tree b ≡ Some p → span.end + (share_at shares b).behind ≡ (span_at spans p).end

-- the affinities before k have their places
pub record ArePlacedBefore (tree : List Node) (shares : List Share) (spans : List Span) (k : ℕ) : Type 0 where
  pub count : length spans ≡ k
  pub each : (b : ℕ) → b < k → IsPlaced tree shares spans b (span_at spans b)

module _ (tree : List Node) (rooted : IsRooted tree) (shares : List Share) (spans : List Span) (k : ℕ) (span : Span) (are : ArePlacedBefore tree shares spans k) where
  place_stays : (b : ℕ) → b < k → span_at (spans ++ span ∷ []) b ≡ span_at spans b
  place_stays b before = get_or_append_left spans (span ∷ []) _ b (omega (arith, are.count))

  placed_still : (b : ℕ) (at : Span) → b < k + 1 → IsPlaced tree shares spans b at → IsPlaced tree shares (spans ++ span ∷ []) b at
  placed_still b at before placed = record {
    parent = placed.parent;
    end = placed.end;
    few = placed.few;
    inside = λ p parent.
        let up : p < b = rooted.earlier b p parent in
        rw (place_stays p (omega arith)) (placed.inside p parent);
  }

  -- and so, with its place, the affinity k
  pub placed_more : IsPlaced tree shares spans k span → ArePlacedBefore tree shares (spans ++ span ∷ []) (k + 1)
  placed_more placed = record {
    count = omega (arith, length-append spans (span ∷ []), are.count);
    each = λ b before. elim (cases_lt b k) [
      | inl earlier ↦ rw (place_stays b earlier) (placed_still b (span_at spans b) before (are.each b earlier))
      | inr at ↦
          let same : k ≡ b = omega arith in
          let last : span_at (spans ++ span ∷ []) b ≡ span = get_or_push spans span _ b (are.count ∙ same) in
          rw (last, ← same) (placed_still k span (omega arith) placed)
    ];
  }

module _ (tree : List Node) (rooted : IsRooted tree) (shares : List Share) (shared : AreShares tree shares 0) (spans : List Span) where
  -- a child's share lies in its parent's span, after the parent's own place
  pub child_fits : (b p : ℕ) → ArePlacedBefore tree shares spans b → b < length tree → parent_of tree b ≡ Some p → (p < length spans) × ((share_at shares b).size + (share_at shares b).behind < (span_at spans p).end) × ((span_at spans p).end ≤ length tree)
  child_fits b p are within parent =
      let up : p < b = rooted.earlier b p parent in
      let placed = are.each p up in
      (omega (arith, are.count), omega (arith, placed.end, shared.within b p (omega arith) within parent), placed.few)

  -- the place that follows from the parent's
  pub parent_placed : (b p end : ℕ) → ArePlacedBefore tree shares spans b → b < length tree → parent_of tree b ≡ Some p → end ≡ (span_at spans p).end - (share_at shares b).behind → IsPlaced tree shares spans b (record { parent = Some p; first = end - (share_at shares b).size; end = end })
  parent_placed b p end are within parent below =
      let fits = child_fits b p are within parent in
      record {
        parent = sym parent;
        end = omega (arith, below, fits.1);
        few = omega (arith, below, fits.2);
        inside = λ q other. let same : p ≡ q = cc in rw (← same) (omega (arith, below, fits.1));
      }

  -- the place of the root
  pub root_placed : (b : ℕ) → b < length tree → parent_of tree b ≡ None → IsPlaced tree shares spans b (record { parent = None; first = (share_at shares b).size - (share_at shares b).size; end = (share_at shares b).size })
  root_placed b within none = record {
    parent = sym none;
    end = omega arith;
    few = shared.few b within;
    inside = λ q other. absurd (cc);
  }

  -- the places of all affinities nest as their shares do
  pub all_placed : ArePlacedBefore tree shares spans (length tree) → AreSpans tree spans
  all_placed are = record {
    count = are.count;
    parents = λ b within. (are.each b within).parent;
    filled = λ b within. omega (arith, (are.each b within).end, shared.filled b within);
    few = λ b within. (are.each b within).few;
    after = λ b p within parent.
        let up : p < b = rooted.earlier b p parent in
        omega (arith, (are.each b within).end, (are.each b within).inside p parent, (are.each p (omega arith)).end, shared.within b p (omega arith) within parent);
    within = λ b p within parent. omega (arith, (are.each b within).inside p parent);
    apart = λ b c p order within parent_b parent_c.
        omega (arith, (are.each c within).end, (are.each c within).inside p parent_c, (are.each b (omega arith)).inside p parent_b, shared.apart b c p (omega arith) order within parent_b parent_c);
  }
