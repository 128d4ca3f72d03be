-- The first affinity of a third level.
use Rattle.std.proofs.Common.{◌≡◌, ℕ, ◌<◌, ◌≤◌, Bool, true, false, nat_lt, List, [], length, get_or, Some, None, unwrap_or, ap, sym, ◌∙◌, arith}
use Rattle.std.specs.Prelude.{option_and_then}
use Rattle.std.specs.List.{position_or_len}
use Rattle.std.proofs.lemmas.Bool.Decides.{nat_tests}
use Rattle.std.proofs.lemmas.List.Sums.{fails_before_first, position_or_len_is}
use Rattle.std.proofs.lemmas.Option.{slice_get-get_or}
use Rattle.waff_model.specs.Tree.{Node, parent_of}
use Rattle.waff_read.specs.Hierarchies.{third_level_of}

abbrev is_third : Node → Bool
is_third node = nat_lt 0 (unwrap_or node.parent 0)

-- whether the parent of the affinity k is another than the root
abbrev pub third_at : List Node → ℕ → Bool
third_at tree k = nat_lt 0 (unwrap_or (parent_of tree k) 0)

abbrev no_node : Node
no_node = record { name = []; parent = None }

third_at-get_or : (tree : List Node) (k : ℕ) → k < length tree → is_third (get_or tree k no_node) ≡ third_at tree k
third_at-get_or tree k inside =
    ap (λ o. nat_lt 0 (unwrap_or (option_and_then (λ (node : Node). node.parent) o) 0)) (sym (slice_get-get_or tree k no_node inside))

-- the first is found
pub found_level : (tree : List Node) (n : ℕ) → n < length tree → ((k : ℕ) → k < n → third_at tree k ≡ false) → third_at tree n ≡ true → Some n ≡ third_level_of tree
found_level tree n inside before here =
    let at : position_or_len is_third tree ≡ n = position_or_len_is is_third tree n no_node (omega arith)
    (λ k below. third_at-get_or tree k (omega arith) ∙ before k below)
    (λ _. third_at-get_or tree n inside ∙ here) in
    grind (arith, nat_tests, at)

-- there is none
pub no_level : (tree : List Node) → ((k : ℕ) → k < length tree → third_at tree k ≡ false) → None ≡ third_level_of tree
no_level tree none =
    let at : position_or_len is_third tree ≡ length tree = position_or_len_is is_third tree (length tree) no_node (omega arith)
    (λ k below. third_at-get_or tree k below ∙ none k below)
    (λ past. absurd (omega arith)) in
    grind (arith, nat_tests, at)

-- where there is none, no affinity has another parent than the root
pub level_none : (tree : List Node) → third_level_of tree ≡ None → (k : ℕ) → k < length tree → third_at tree k ≡ false
level_none tree none k inside =
    let past : length tree ≤ position_or_len is_third tree = grind (arith, nat_tests) in
    sym (third_at-get_or tree k inside) ∙ fails_before_first is_third tree k no_node (omega arith)
