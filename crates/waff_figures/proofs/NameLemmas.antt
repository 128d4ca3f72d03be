-- Names numbered in the order in which they first appear.
use Rattle.std.proofs.Common.{◌≡◌, ℕ, ◌+◌, ◌-◌, ◌<◌, ◌≤◌, true, false, inl, inr, cond, ◌==◌, List, [], ◌∷◌, ◌++◌, length, get_or, take, Some, slice_get, option_map, arith, refl, sym, ◌∙◌, ap, subst}
use Rattle.std.specs.List.{AllPairs, list_any}
use Rattle.std.specs.Str.{bytes_eq}
use Rattle.std.proofs.lemmas.Bool.{cases_eq, cases_lt, cases_Bool, false≢true}
use Rattle.std.proofs.lemmas.Bool.Decides.{nat_tests}
use Rattle.std.proofs.lemmas.List.{length-map, get_or_push, get_or_append_left, length_push}
use Rattle.std.proofs.lemmas.List.Sums.{fold_more}
use Rattle.std.proofs.lemmas.Option.{get_or_from_slice_get, slice_get-map}
use Rattle.std.proofs.lemmas.Slice.Eq.{bytes_eq-Decides}
use Rattle.waff_model.specs.DistinctNames.{distinct_names, with_name}
use Rattle.waff_model.specs.declared.message.Message.{Message}
use Rattle.waff_model.proofs.DistinctNameLemmas.{message_name_at}
use Rattle.waff_figures.specs.ByName.{AreNumbered, is_named, label_of, labels_of}
use Rattle.waff_figures.specs.declared.grouping.Label.{Label}
use Rattle.waff_figures.specs.declared.grouping.Label.TheVariants.{Client, Name}
use Rattle.waff_figures.specs.Tally.{is_in}
use Rattle.waff_figures.proofs.GroupLemmas.{firsts_apart}
use Rattle.waff_figures.proofs.Lists.{bytes_laws}

-- each message has a label
pub labels_length : (label : Label) (messages : List Message) → length (labels_of label messages) ≡ length messages
labels_length Name messages = length-map messages (λ (m : Message). m.name)
labels_length Client messages = length-map messages (λ (m : Message). m.client)

-- that of the message at a place
pub label_there : (label : Label) (messages : List Message) (place : ℕ) (message : Message) → slice_get messages place ≡ Some message
    → get_or (labels_of label messages) place [] ≡ label_of label message
label_there Name messages place message at = message_name_at messages place message at
label_there Client messages place message at =
    get_or_from_slice_get (labels_of Client messages) place message.client []
    (slice_get-map (λ (m : Message). m.client) messages place ∙ ap (λ o. option_map (λ (m : Message). m.client) o) at)

pub none_numbered : (names : List (List ℕ)) → AreNumbered names [] []
none_numbered names = record {
  distinct = refl;
  few = omega arith;
  within = λ i low. absurd (omega (arith, low));
  each = λ i low. absurd (omega (arith, low));
}

-- a name more keeps the places of the others, and takes at most one place
with_name_length : (keys : List (List ℕ)) (name : List ℕ) → (length keys ≤ length (with_name keys name)) × (length (with_name keys name) ≤ length keys + 1)
with_name_length keys name = elim (cases_Bool (list_any (bytes_eq name) keys)) [
  | inl there ↦ let e : with_name keys name ≡ keys = ap (λ b. cond b keys (keys ++ name ∷ [])) there in rw e (omega arith, omega arith)
  | inr new ↦ let e : with_name keys name ≡ keys ++ name ∷ [] = ap (λ b. cond b keys (keys ++ name ∷ [])) new in
      rw e (omega (arith, length_push keys name), omega (arith, length_push keys name))
]

with_name_keeps : (keys : List (List ℕ)) (name : List ℕ) (i : ℕ) → i < length keys → get_or (with_name keys name) i [] ≡ get_or keys i []
with_name_keeps keys name i low = elim (cases_Bool (list_any (bytes_eq name) keys)) [
  | inl there ↦ ap (λ b. get_or (cond b keys (keys ++ name ∷ [])) i []) there
  | inr new ↦ ap (λ b. get_or (cond b keys (keys ++ name ∷ [])) i []) new ∙ get_or_append_left keys (name ∷ []) [] i low
]

pub numbered_next : (names keys : List (List ℕ)) (places : List ℕ) (name : List ℕ) (place : ℕ) → AreNumbered names keys places
    → length places < length names → name ≡ get_or names (length places) [] → place < length (with_name keys name)
    → get_or (with_name keys name) place [] ≡ name → AreNumbered names (with_name keys name) (places ++ place ∷ [])
numbered_next names keys places name place are inside is within at =
    let long = length_push places place in
    record {
      distinct =
          ap (λ ks. with_name ks name) are.distinct
          ∙ ap (λ x. with_name (distinct_names (take (length places) names)) x) is
          ∙ sym (fold_more with_name [] names (length places) [] inside)
          ∙ ap (λ n. distinct_names (take n names)) (sym long);
      few = omega (arith, long, are.few, (with_name_length keys name).1);
      within = λ i low. elim (cases_lt i (length places)) [
        | inl old ↦
            let same = get_or_append_left places (place ∷ []) 0 i old in
            omega (arith, same, are.within i old, (with_name_length keys name).0)
        | inr new ↦
            let same : i ≡ length places = omega (arith, new, low, long) in
            let last : get_or (places ++ place ∷ []) i 0 ≡ place = get_or_push places place 0 i (sym same) in
            omega (arith, last, within)
      ];
      each = λ i low. elim (cases_lt i (length places)) [
        | inl old ↦
            ap (λ p. get_or (with_name keys name) p []) (get_or_append_left places (place ∷ []) 0 i old)
            ∙ with_name_keeps keys name (get_or places i 0) (are.within i old) ∙ are.each i old
        | inr new ↦
            let same : i ≡ length places = omega (arith, new, low, long) in
            let last : get_or (places ++ place ∷ []) i 0 ≡ place = get_or_push places place 0 i (sym same) in
            ap (λ p. get_or (with_name keys name) p []) last ∙ at ∙ is ∙ ap (λ x. get_or names x []) (sym same)
      ];
    }

-- a message is at a place exactly where it has the name there
pub place_tells : (names keys : List (List ℕ)) (places : List ℕ) → AreNumbered names keys places → (g m : ℕ) → g < length keys → 1 ≤ m → m ≤ length places
    → is_in places g m ≡ is_named names (get_or keys g []) m
place_tells names keys places are g m low from to =
    let i = m - 1 in
    let inside : i < length places = omega (arith, from, to) in
    let place = get_or places i 0 in
    let each = are.each i inside in
    let same_name = bytes_eq-Decides (get_or names i []) (get_or keys g []) in
    elim (cases_eq place g) [
      | inl same ↦
          let yes : (place == g) ≡ true = grind (arith, nat_tests, same) in
          yes ∙ sym (same_name.1 (sym each ∙ ap (λ x. get_or keys x []) same))
      | inr other ↦
          let no : (place == g) ≡ false = grind (arith, nat_tests, other) in
          no ∙ sym (elim (cases_Bool (bytes_eq (get_or names i []) (get_or keys g []))) [
            | inl pass ↦
                let apart : AllPairs (λ a b. bytes_eq a b ≡ false) keys
                = subst (AllPairs (λ a b. bytes_eq a b ≡ false)) (sym are.distinct) (firsts_apart bytes_eq bytes_laws (take (length places) names)) in
                let equal : get_or keys place [] ≡ get_or keys g [] = each ∙ same_name.0 pass in
                absurd (elim (cases_lt place g) [
                  | inl less ↦ false≢true (sym (apart place g [] less low) ∙ (bytes_eq-Decides (get_or keys place []) (get_or keys g [])).1 equal)
                  | inr more ↦
                      false≢true (sym (apart g place [] (omega (arith, more, other)) (are.within i inside))
                      ∙ (bytes_eq-Decides (get_or keys g []) (get_or keys place [])).1 (sym equal))
                ])
            | inr differ ↦ differ
          ])
    ]
