-- Rows with the figures of parts, by place and by affinity or label.
use Rattle.std.proofs.Common.{◌≡◌, ℕ, ◌+◌, ◌<◌, ◌≤◌, ◌++◌, Bool, List, [], length, get_or, map, arith, sym, ◌∙◌, ap, subst}
use Rattle.std.specs.List.{range_with_len}
use Rattle.std.proofs.lemmas.List.{get_or-map, length-map}
use Rattle.std.proofs.lemmas.List.FromFn.{get_or-range_with_len, length-range_with_len}
use Rattle.waff_model.specs.Tree.{Node, name_of, parent_of}
use Rattle.waff_assign.specs.Held.{Held}
use Rattle.waff_plan.specs.Chain.{IsAmongFirst}
use Rattle.waff_plan.specs.Work.{Work, length_of, numbers}
use Rattle.waff_figures.specs.ByAffinity.{affinity_figures_row, parent_field, tallied_figures_row, tally_row}
use Rattle.waff_figures.specs.ByName.{first_messages, has_label, is_named, label_at, label_figures_row, named_row, tallied_name_figures_row}
use Rattle.waff_figures.specs.Parts.{AreOfParts, ArePartFigures, no_part, part_fields, part_where}
use Rattle.waff_figures.specs.Tally.{is_in, no_tally, tally_of}
use Rattle.waff_figures.specs.declared.parts.PartFigures.{PartFigures}
use Rattle.waff_figures.specs.declared.tally.Tally.{Tally}
use Rattle.waff_figures.proofs.Lists.{filter_same}
use Rattle.waff_figures.proofs.PartLemmas.{numbers_all}
use Rattle.waff_figures.proofs.RowLemmas.{AreTalliesUnder, map_range_same}

-- parts that are told of place by place
pub placed_parts : (work : Work) (start : ℕ → ℕ) (belongs : ℕ → ℕ → Bool) (n : ℕ) (parts : List PartFigures) → length parts ≡ n
    → ((g : ℕ) → g < n → ArePartFigures work start (part_where work (belongs g)) (get_or parts g no_part))
    → AreOfParts work start belongs (range_with_len 0 n) parts
placed_parts work start belongs n parts many each = record {
  count = many ∙ sym (length-range_with_len 0 n);
  each = λ i low.
      let inside : i < n = omega (arith, low, length-range_with_len 0 n) in
      let none : 0 + i ≡ i = omega arith in
      let at : i ≡ get_or (range_with_len 0 n) i 0 = sym (get_or-range_with_len 0 n i 0 inside ∙ none) in
      subst (λ g. ArePartFigures work start (part_where work (belongs g)) (get_or parts i no_part)) at (each i inside);
}

-- parts of the same messages
pub parts_same : (work : Work) (start : ℕ → ℕ) (one other : ℕ → ℕ → Bool) (keys : List ℕ) (parts : List PartFigures)
    → ((g m : ℕ) → IsAmongFirst work.count m → one g m ≡ other g m) → AreOfParts work start one keys parts → AreOfParts work start other keys parts
parts_same work start one other keys parts same are = record {
  count = are.count;
  each = λ i low.
      let g = get_or keys i 0 in
      subst (λ ms. ArePartFigures work start ms (get_or parts i no_part))
      (filter_same (one g) (other g) (numbers work) (λ k d short. same g (get_or (numbers work) k d) (numbers_all work.count k d short))) (are.each i low);
}

module _ (work : Work) (start : ℕ → ℕ) (chain : List ℕ) (tallies : List Tally) (parts : List PartFigures) where
  pub affinity_rows : (tree : List Node) (assigned : List Held) (below : List ℕ) → AreTalliesUnder tree assigned work chain tallies
      → map (tallied_figures_row tree (length_of work start) tallies below parts) (range_with_len 0 (length tree))
      ≡ map (affinity_figures_row tree assigned work start chain below parts) (range_with_len 0 (length tree))
  affinity_rows tree assigned below are =
      map_range_same (tallied_figures_row tree (length_of work start) tallies below parts) (affinity_figures_row tree assigned work start chain below parts) 0 (length tree)
      (λ a from to.
      ap (λ (t : Tally). tally_row (name_of tree a) (parent_field tree (parent_of tree a)) (get_or below a 0) t ++ part_fields (length_of work start) t (get_or parts a no_part))
      (are a (omega (arith, to))))

  module _ (names texts : List (List ℕ)) (texts_are : texts ≡ map (label_at names) (first_messages names)) where
    many : length texts ≡ length (first_messages names)
    many = ap length texts_are ∙ length-map (first_messages names) (label_at names)

    text_at : (p : ℕ) → p < length texts → get_or texts p [] ≡ label_at names (get_or (first_messages names) p 0)
    text_at p low =
        ap (λ (xs : List (List ℕ)). get_or xs p []) texts_are
        ∙ get_or-map (label_at names) (first_messages names) p 0 [] (omega (arith, low, many))

    pub label_rows : ((p : ℕ) → p < length texts → get_or tallies p no_tally ≡ tally_of work chain (is_named names (get_or texts p [])))
        → map (tallied_name_figures_row texts (length_of work start) tallies parts) (range_with_len 0 (length texts))
        ≡ map (label_figures_row names work start chain parts) (range_with_len 0 (length (first_messages names)))
    label_rows tally =
        map_range_same (tallied_name_figures_row texts (length_of work start) tallies parts) (label_figures_row names work start chain parts) 0 (length texts)
        (λ p from to.
        let low : p < length texts = omega (arith, to) in
        ap (λ (t : Tally). named_row (get_or texts p []) t ++ part_fields (length_of work start) t (get_or parts p no_part)) (tally p low)
        ∙ ap (λ (x : List ℕ). named_row x (tally_of work chain (is_named names x)) ++ part_fields (length_of work start) (tally_of work chain (is_named names x)) (get_or parts p no_part))
        (text_at p low))
        ∙ ap (λ n. map (label_figures_row names work start chain parts) (range_with_len 0 n)) many

    pub label_parts : (places : List ℕ)
        → ((p m : ℕ) → p < length texts → 1 ≤ m → m ≤ work.count → is_in places p m ≡ is_named names (get_or texts p []) m)
        → AreOfParts work start (is_in places) (range_with_len 0 (length texts)) parts → AreOfParts work start (has_label names) (first_messages names) parts
    label_parts places tells are = record {
      count = are.count ∙ length-range_with_len 0 (length texts) ∙ many;
      each = λ i low.
          let inside : i < length texts = omega (arith, low, many) in
          let none : 0 + i ≡ i = omega arith in
          let at : get_or (range_with_len 0 (length texts)) i 0 ≡ i = get_or-range_with_len 0 (length texts) i 0 inside ∙ none in
          let here = subst (λ g. ArePartFigures work start (part_where work (is_in places g)) (get_or parts i no_part)) at
          (are.each i (omega (arith, inside, length-range_with_len 0 (length texts)))) in
          let same : part_where work (is_in places i) ≡ part_where work (is_named names (get_or texts i []))
          = filter_same (is_in places i) (is_named names (get_or texts i [])) (numbers work) (λ k d short.
          let is = numbers_all work.count k d short in tells i (get_or (numbers work) k d) inside is.from is.to) in
          subst (λ (x : List ℕ). ArePartFigures work start (part_where work (is_named names x)) (get_or parts i no_part)) (text_at i inside)
          (subst (λ ms. ArePartFigures work start ms (get_or parts i no_part)) same here);
    }
