-- Each distinct name comes once, in the order of the first messages, and what is told of the names adds up.
use Rattle.std.proofs.Common.{◌≡◌, ℕ, ◌+◌, ◌-◌, ◌<◌, cond, false, List, [], length, get_or, map, All, count_by, sum_by, arith, refl, sym, ◌∙◌, ap, subst}
use Rattle.std.specs.Cmp.{IsEquivalence}
use Rattle.std.specs.List.{range_with_len}
use Rattle.std.specs.List.Sorted.{IsStrictlyIncreasing}
use Rattle.std.specs.Str.{bytes_eq}
use Rattle.std.proofs.lemmas.Cmp.{on_equiv}
use Rattle.std.proofs.lemmas.List.{get_or_default, same_lists}
use Rattle.std.proofs.lemmas.List.Folds.{list_any_at}
use Rattle.std.proofs.lemmas.List.FromFn.{get_or-map-range_with_len, get_or-range_with_len, length-map-range_with_len, length-range_with_len}
use Rattle.waff_model.specs.DistinctNames.{distinct_names}
use Rattle.waff_plan.specs.Chain.{IsAmongFirst}
use Rattle.waff_plan.specs.Work.{Work, numbers}
use Rattle.waff_figures.specs.ByName.{first_messages, is_named, label_at, same_label}
use Rattle.waff_figures.specs.Groups.{firsts_by}
use Rattle.waff_figures.specs.Laws.{NameIsOnce, NamesAddUp, NamesInOrder}
use Rattle.waff_figures.proofs.AddingUp.{sum_of_ones}
use Rattle.waff_figures.proofs.GroupLemmas.{are_grouped, firsts_all, firsts_map, once_if_there, parts_add_up, sum_map}
use Rattle.waff_figures.proofs.Lists.{bytes_laws, one_if}

-- messages by their names
module _ (names : List (List ℕ)) where
  abbrev messages : List ℕ
  messages = range_with_len 1 (length names)

  message_at : (i : ℕ) (d : ℕ) → i < length names → get_or messages i d ≡ 1 + i
  message_at i d inside = get_or-range_with_len 1 (length names) i d inside

  pub all_messages : All (IsAmongFirst (length names)) messages
  all_messages i d low =
      let inside : i < length names = omega (arith, low, length-range_with_len 1 (length names)) in
      record { from = omega (arith, message_at i d inside); to = omega (arith, message_at i d inside, inside) }

  rising : IsStrictlyIncreasing messages
  rising k inside =
      let long = length-range_with_len 1 (length names) in
      omega (arith, message_at k 0 (omega (arith, inside, long)), message_at (k + 1) 0 (omega (arith, inside, long)))

  names_are : names ≡ map (label_at names) messages
  names_are = same_lists names (map (label_at names) messages) (sym (length-map-range_with_len (label_at names) 1 (length names))) (λ k d low.
      let next : 1 + k - 1 ≡ k = omega arith in
      get_or_default names k d [] low ∙ ap (λ i. get_or names i []) (sym next)
      ∙ sym (get_or-map-range_with_len (label_at names) 1 (length names) k (1 + k) d low refl))

  -- the distinct names are those of the first messages
  pub distinct_are : distinct_names names ≡ map (label_at names) (first_messages names)
  distinct_are = ap (firsts_by bytes_eq) names_are ∙ firsts_map bytes_eq (label_at names) messages

  pub name_is_once : NameIsOnce names
  name_is_once name =
      sym (sum_map (λ other. one_if (bytes_eq name other)) (label_at names) (first_messages names))
      ∙ ap (count_by (bytes_eq name)) (sym distinct_are) ∙ once_if_there bytes_eq bytes_laws names name

  -- the terms of some messages, name by name
  pub by_name : (term : ℕ → ℕ) (some : List ℕ) → All (IsAmongFirst (length names)) some
      → sum_by (λ first. sum_by (λ m. cond (is_named names (label_at names first) m) (term m) 0) some) (first_messages names) ≡ sum_by term some
  by_name term some are = parts_add_up (λ first. is_named names (label_at names first)) term (first_messages names) some (λ k d low.
      let m = get_or some k d in
      let x = label_at names m in
      let is = are k d low in
      name_is_once x ∙ ap one_if (list_any_at (bytes_eq x) names (m - 1) [] (omega (arith, is.from, is.to)) (bytes_laws.refl x)))

  laws : IsEquivalence (same_label names)
  laws = on_equiv (label_at names) bytes_laws

  pub names_in_order : NamesInOrder names
  names_in_order =
      let grouped = are_grouped (same_label names) messages laws in
      record {
        each = λ i d inside.
            let m = get_or (first_messages names) i d in
            let is = firsts_all (same_label names) (IsAmongFirst (length names)) messages all_messages i d inside in
            record {
              from = is.from;
              to = is.to;
              first = λ n from before.
                  let low : n - 1 < length names = omega (arith, from, before, is.to) in
                  let this : 1 + (n - 1) ≡ n = omega (arith, from) in
                  let there : n - 1 < length messages = omega (arith, low, length-range_with_len 1 (length names)) in
                  let other : same_label names m n ≡ false
                  = subst (λ x. x < m → same_label names m x ≡ false) (message_at (n - 1) 0 low ∙ this)
                  (grouped.first rising i d inside (n - 1) 0 there) before in
                  bytes_laws.symm (label_at names n) (label_at names m) ∙ other;
            };
        rising = grouped.rising rising;
      }

pub names_add_up : (names : List (List ℕ)) (work : Work) (chain : List ℕ) → length names ≡ work.count
    → All (IsAmongFirst work.count) chain → NamesAddUp names work chain
names_add_up names work chain long listed =
    let all : All (IsAmongFirst (length names)) (numbers work)
    = subst (λ n. All (IsAmongFirst (length names)) (range_with_len 1 n)) long (all_messages names) in
    record {
      messages = by_name names (λ m. 1) (numbers work) all ∙ sum_of_ones 1 work.count;
      costs = by_name names work.cost (numbers work) all;
      links = by_name names work.cost chain (subst (λ n. All (IsAmongFirst n) chain) (sym long) listed);
    }
