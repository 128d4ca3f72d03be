-- Lifts of one kind: the groups of their messages and the owners of their cells, and rows by them.
use Rattle.std.proofs.Common.{◌≡◌, ℕ, ◌<◌, ◌==◌, ◌&&◌, not, cond, Bool, true, false, List, [], ◌∷◌, ◌++◌, length, get_or, map, slice_get, All, Some, refl, sym, ◌∙◌, ap, subst}
use Rattle.std.specs.Cmp.{IsEquivalence}
use Rattle.std.specs.List.{list_any}
use Rattle.std.specs.List.Sorted.{IsPermutation}
use Rattle.std.proofs.lemmas.Bool.{false≢true}
use Rattle.std.proofs.lemmas.Cmp.{and_equiv, nat_eq_equiv, on_equiv}
use Rattle.std.proofs.lemmas.List.Elements.{All-map, All-push, All-set}
use Rattle.std.proofs.lemmas.List.Sorted.{All-permutation}
use Rattle.waff_model.specs.Layout.{Space, owner_of}
use Rattle.waff_model.specs.Numbers.{IsAmongFirst}
use Rattle.waff_figures.specs.Groups.{firsts_by}
use Rattle.waff_figures.specs.WaitRows as groups
use Rattle.waff_figures.proofs.GroupLemmas.{firsts_all, firsts_same}
use Rattle.waff_figures.proofs.Lists.{filter_same, map_same}
use Rattle.waff_limits.specs.Lifted.{IsTold}
use Rattle.waff_limits.specs.WhyRows.{AreRows, kind_in, row_of, row_over, row_with, rows_by, rows_with, same_group, same_kind}
use Rattle.waff_limits.specs.declared.lifted.Lift.{Lift}
use Rattle.waff_limits.specs.declared.why_rows.Row.{Row}
use Rattle.waff_figures.proofs.KindRows as kinds
use Rattle.waff_limits.proofs.WhyOrder.{row_more}

abbrev pub Kind : Type 0
Kind = (ℕ × ℕ) × (ℕ × ℕ)

abbrev pair_eq : ℕ × ℕ → ℕ × ℕ → Bool
pair_eq a b = (a.0 == b.0) && (a.1 == b.1)

abbrev pub kind_eq : Kind → Kind → Bool
kind_eq a b = pair_eq a.0 b.0 && pair_eq a.1 b.1

-- lifts whose messages are alike in a way that is an equivalence are of kinds that are one
pub kinds_are : (alike : ℕ → ℕ → Bool) (spaces : List Space) → IsEquivalence alike → IsEquivalence (same_kind alike spaces)
kinds_are alike spaces laws =
    and_equiv (on_equiv (λ (l : Lift). l.message) laws)
    (and_equiv (on_equiv (λ (l : Lift). owner_of spaces l.cell) nat_eq_equiv) (on_equiv (λ (l : Lift). owner_of spaces l.other) nat_eq_equiv))

groups_are : (gs : List (ℕ × ℕ)) → IsEquivalence (groups.same_group gs)
groups_are gs =
    on_equiv (groups.group_of gs) (and_equiv (on_equiv (λ (p : ℕ × ℕ). p.0) nat_eq_equiv) (on_equiv (λ (p : ℕ × ℕ). p.1) nat_eq_equiv))

-- what holds of each row holds of each with one lift more
pub all_with : (P Q : Row → Type 0) (rows : List Row) (place : ℕ) (is_new : Bool) (l : Lift) → All P rows → ((r : Row) → P r → Q r)
    → Q (row_over (l ∷ []) l) → (is_new ≡ false → place < length rows) → ((r : Row) → P r → Q (row_with r l)) → All Q (rows_with rows place is_new l)
all_with P Q rows place true l all keeps new inside grows =
    All-push Q rows (row_over (l ∷ []) l) (λ k d low. keeps (get_or rows k d) (all k d low)) new
all_with P Q rows place false l all keeps new inside grows =
    let none = row_over [] l in
    All-set Q rows place (row_with (get_or rows place none) l) (grows (get_or rows place none) (all place none (inside refl)))
    (λ k d low. keeps (get_or rows k d) (all k d low))

module _ (gs : List (ℕ × ℕ)) (spaces : List Space) where
  abbrev is : Lift → Lift → Bool
  is = same_group gs spaces

  pub laws : IsEquivalence (same_group gs spaces)
  laws = kinds_are (groups.same_group gs) spaces (groups_are gs)

  abbrev kind : Lift → Kind
  kind = kind_in gs spaces

  pub agree : (l k : Lift) → same_group gs spaces l k ≡ kind_eq (kind_in gs spaces l) (kind_in gs spaces k)
  agree l k = refl

  -- a row for each kind that has come, in the order of the first lifts, and their kinds
  abbrev pub AreSoFar : List Lift → List Row → List Kind → Type 0
  AreSoFar ls rows keys = kinds.AreSoFar (same_group gs spaces) laws row_over row_with row_more (kind_in gs spaces) kind_eq agree ls rows keys

  module _ (ls : List Lift) (l : Lift) (rows : List Row) (keys new_keys : List Kind) (place : ℕ) (are : AreSoFar ls rows keys) where
    abbrev Places : Type 0
    Places = (k : Kind) × (slice_get new_keys place ≡ Some k) × (kind_eq (kind l) k ≡ true)

    pub inside_if_old : (is_new among : Bool) → is_new ≡ not among → new_keys ≡ cond among keys (keys ++ kind l ∷ []) → Places
        → is_new ≡ false → place < length rows
    inside_if_old is_new among added keys_are placed old =
        kinds.inside_if_old is laws row_over row_with row_more kind kind_eq agree ls l rows keys new_keys place are is_new among added keys_are placed old

    pub one_more : (is_new among : Bool) → among ≡ list_any (kind_eq (kind l)) keys → is_new ≡ not among
        → new_keys ≡ cond among keys (keys ++ kind l ∷ []) → Places → AreSoFar (ls ++ l ∷ []) (rows_with rows place is_new l) new_keys
    one_more true true is_there added keys_are placed = absurd (false≢true (sym added))
    one_more false false is_there added keys_are placed = absurd (false≢true added)
    one_more true false is_there added keys_are placed =
        kinds.with_new is laws row_over row_with row_more kind kind_eq agree ls l rows keys new_keys place are false is_there refl keys_are
    one_more false true is_there added keys_are placed =
        kinds.with_more is laws row_over row_with row_more kind kind_eq agree ls l rows keys new_keys place are true (row_over [] l) is_there refl keys_are placed

-- two ways in which lifts are alike, that agree on those that are told of
module _ (one other : Lift → Lift → Bool) (Q : Lift → Type 0) (agreed : (l k : Lift) → Q l → Q k → one l k ≡ other l k) (ls : List Lift) (all : All Q ls) where
  firsts_told : All Q (firsts_by one ls)
  firsts_told = firsts_all one Q ls all

  pub rows_told : (rows : List Row) → AreRows one ls rows → All (λ (row : Row). Q row.first) rows
  rows_told rows are =
      All-permutation (λ (row : Row). Q row.first) (rows_by one ls) rows are.are
      (All-map (λ (row : Row). Q row.first) (row_of one ls) (firsts_by one ls) firsts_told)

  rows_by_same : rows_by one ls ≡ rows_by other ls
  rows_by_same =
      let firsts = firsts_by one ls in
      map_same (row_of one ls) (row_of other ls) firsts (λ k d low.
      let first = get_or firsts k d in
      ap (λ xs. row_over xs first) (filter_same (one first) (other first) ls
      (λ i e inside. agreed first (get_or ls i e) (firsts_told k d low) (all i e inside))))
      ∙ ap (map (row_of other ls)) (firsts_same one other Q agreed ls all)

  pub rows_same : (rows : List Row) → AreRows one ls rows → AreRows other ls rows
  rows_same rows are = record { are = subst (λ xs. IsPermutation xs rows) rows_by_same are.are; order = are.order }

-- kinds by groups agree with kinds by messages that are alike, where the groups tell of those
pub groups_agree : (alike : ℕ → ℕ → Bool) (gs : List (ℕ × ℕ)) (spaces : List Space) (n : ℕ)
    → ((i j : ℕ) → IsAmongFirst n i → IsAmongFirst n j → groups.same_group gs i j ≡ alike i j)
    → (l k : Lift) → IsTold spaces n l → IsTold spaces n k → same_group gs spaces l k ≡ same_kind alike spaces l k
groups_agree alike gs spaces n tell l k one other =
    ap (λ b. b && ((owner_of spaces l.cell == owner_of spaces k.cell) && (owner_of spaces l.other == owner_of spaces k.other)))
    (tell l.message k.message one.message other.message)
