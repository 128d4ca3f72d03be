-- The kinds of waits, numbered as they come.
use Rattle.std.proofs.Common.{◌≡◌, ℕ, ◌<◌, cond, ◌==◌, Bool, true, false, not, nat_eq, List, [], ◌∷◌, ◌++◌, length, get_or, slice_get, All, Option, Some, None, option_map, ◌&&◌, refl, sym, ap}
use Rattle.std.specs.Cmp.{IsEquivalence}
use Rattle.std.specs.Cmp.Lexicographic.{options_equiv}
use Rattle.std.specs.List.{list_any}
use Rattle.std.specs.Option.{option_eq}
use Rattle.std.proofs.lemmas.Bool.{false≢true}
use Rattle.std.proofs.lemmas.Cmp.{and_equiv, nat_eq_equiv, on_equiv}
use Rattle.std.proofs.lemmas.List.Elements.{All-push, All-set}
use Rattle.waff_model.specs.declared.cell.Cell.{Cell}
use Rattle.waff_figures.specs.WaitLocks.{space_by}
use Rattle.waff_figures.specs.WaitRows.{group_of, kind_in, row_over, row_with, rows_with, same_group, same_in, same_kind}
use Rattle.waff_figures.specs.declared.wait_rows.Row.{Row}
use Rattle.waff_figures.specs.declared.waits.Wait.{Wait}
use Rattle.waff_figures.proofs.KindRows as kinds
use Rattle.waff_figures.proofs.WaitRowLemmas.{row_more}

abbrev pub Kind : Type 0
Kind = (ℕ × ℕ) × (Option (ℕ × ℕ) × Option ℕ)

abbrev pair_eq : ℕ × ℕ → ℕ × ℕ → Bool
pair_eq a b = (a.0 == b.0) && (a.1 == b.1)

abbrev pub kind_eq : Kind → Kind → Bool
kind_eq a b = pair_eq a.0 b.0 && (option_eq pair_eq a.1.0 b.1.0 && option_eq nat_eq a.1.1 b.1.1)

-- waits that are alike in a way that is an equivalence are of kinds that are one
pub kinds_are : (alike : ℕ → ℕ → Bool) (cells : List Cell) → IsEquivalence alike → IsEquivalence (same_kind alike cells)
kinds_are alike cells laws =
    and_equiv (on_equiv (λ (w : Wait). w.message) laws)
    (and_equiv (on_equiv (λ (w : Wait). w.on) (options_equiv laws)) (on_equiv (λ (w : Wait). space_by cells w.by) (options_equiv nat_eq_equiv)))

pub groups_are : (groups : List (ℕ × ℕ)) → IsEquivalence (same_group groups)
groups_are groups =
    on_equiv (group_of groups) (and_equiv (on_equiv (λ (p : ℕ × ℕ). p.0) nat_eq_equiv) (on_equiv (λ (p : ℕ × ℕ). p.1) nat_eq_equiv))

-- two waits are of one kind exactly if their kinds are equal
same_cause : (groups : List (ℕ × ℕ)) (a b : Option ℕ)
    → option_eq (same_group groups) a b ≡ option_eq pair_eq (option_map (group_of groups) a) (option_map (group_of groups) b)
same_cause groups None None = refl
same_cause groups None (Some j) = refl
same_cause groups (Some i) None = refl
same_cause groups (Some i) (Some j) = refl

pub same_kinds : (groups : List (ℕ × ℕ)) (cells : List Cell) (w v : Wait) → same_in groups cells w v ≡ kind_eq (kind_in groups cells w) (kind_in groups cells v)
same_kinds groups cells w v =
    ap (λ b. same_group groups w.message v.message && (b && option_eq nat_eq (space_by cells w.by) (space_by cells v.by))) (same_cause groups w.on v.on)

-- what holds of each row holds of each with one wait more
pub all_with : (P Q : Row → Type 0) (rows : List Row) (place : ℕ) (is_new : Bool) (w : Wait) → All P rows → ((r : Row) → P r → Q r)
    → Q (row_over (w ∷ []) w) → (is_new ≡ false → place < length rows) → ((r : Row) → P r → Q (row_with r w)) → All Q (rows_with rows place is_new w)
all_with P Q rows place true w all keeps new inside grows =
    All-push Q rows (row_over (w ∷ []) w) (λ k d low. keeps (get_or rows k d) (all k d low)) new
all_with P Q rows place false w all keeps new inside grows =
    let none = row_over [] w in
    All-set Q rows place (row_with (get_or rows place none) w) (grows (get_or rows place none) (all place none (inside refl)))
    (λ k d low. keeps (get_or rows k d) (all k d low))

module _ (groups : List (ℕ × ℕ)) (cells : List Cell) where
  abbrev is : Wait → Wait → Bool
  is = same_in groups cells

  pub laws : IsEquivalence (same_in groups cells)
  laws = kinds_are (same_group groups) cells (groups_are groups)

  -- a row for each kind that has come, in the order of the first waits, and their kinds
  abbrev pub AreSoFar : List Wait → List Row → List Kind → Type 0
  AreSoFar ws rows keys =
      kinds.AreSoFar (same_in groups cells) laws row_over row_with row_more (kind_in groups cells) kind_eq (same_kinds groups cells) ws rows keys

  module _ (ws : List Wait) (w : Wait) (rows : List Row) (keys new_keys : List Kind) (place : ℕ) (are : AreSoFar ws rows keys) where
    abbrev Places : Type 0
    Places = (k : Kind) × (slice_get new_keys place ≡ Some k) × (kind_eq (kind_in groups cells w) k ≡ true)

    pub inside_if_old : (is_new among : Bool) → is_new ≡ not among → new_keys ≡ cond among keys (keys ++ kind_in groups cells w ∷ []) → Places
        → is_new ≡ false → place < length rows
    inside_if_old is_new among added keys_are placed old =
        kinds.inside_if_old is laws row_over row_with row_more (kind_in groups cells) kind_eq (same_kinds groups cells) ws w rows keys new_keys place are
        is_new among added keys_are placed old

    pub one_more : (is_new among : Bool) → among ≡ list_any (kind_eq (kind_in groups cells w)) keys → is_new ≡ not among
        → new_keys ≡ cond among keys (keys ++ kind_in groups cells w ∷ []) → Places → AreSoFar (ws ++ w ∷ []) (rows_with rows place is_new w) new_keys
    one_more true true is_there added keys_are placed = absurd (false≢true (sym added))
    one_more false false is_there added keys_are placed = absurd (false≢true added)
    one_more true false is_there added keys_are placed =
        kinds.with_new is laws row_over row_with row_more (kind_in groups cells) kind_eq (same_kinds groups cells) ws w rows keys new_keys place are
        false is_there refl keys_are
    one_more false true is_there added keys_are placed =
        kinds.with_more is laws row_over row_with row_more (kind_in groups cells) kind_eq (same_kinds groups cells) ws w rows keys new_keys place are
        true (row_over [] w) is_there refl keys_are placed
