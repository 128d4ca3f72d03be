-- The lowest affinity that covers a list of cells, one cell after another.
use Rattle.std.proofs.Common.{◌≡◌, ◌≢◌, ℕ, ◌+◌, ◌<◌, ◌≤◌, List, [], ◌∷◌, ◌++◌, length, All, get_or, Contains, arith, sym, ◌∙◌, ap, subst, ⊎_elim}
use Rattle.std.proofs.lemmas.Bool.{cases_eq}
use Rattle.std.proofs.lemmas.List.{get_or_default}
use Rattle.std.proofs.lemmas.List.Elements.{Contains-get_or, Contains-append_left, Contains-append_right, Contains-append_cases, All-contains}
use Rattle.waff_model.specs.Tree.{AtOrAbove}
use Rattle.waff_model.specs.Layout.{Hierarchy, owner_of, IsCell, IsLayout}
use Rattle.waff_model.specs.declared.cell.Cell.{Cell}
use Rattle.waff_model.proofs.OwnerLemmas.{owner_is_affinity}
use Rattle.waff_model.proofs.TreeLemmas.{reflexive, transitive}
use Rattle.waff_assign.specs.Lowest.{Covers, IsLowest}
use Rattle.waff_assign.proofs.Climbs.{root_above}

-- low covers the first n cells, and every affinity that covers all is at or above it
pub record IsLowestSoFar (layout : Hierarchy) (cells : List Cell) (n low : ℕ) : Type 0 where
  pub within : low < length layout.tree
  pub covers : (k : ℕ) (d : Cell) → k < n → AtOrAbove layout.tree low (owner_of layout.spaces (get_or cells k d))
  pub lowest : (other : ℕ) → Covers layout (Contains cells) other → AtOrAbove layout.tree other low

-- what covers all cells is at or above the owner of each
above_owner : (layout : Hierarchy) (cells : List Cell) (other k : ℕ) (d : Cell) → k < length cells → Covers layout (Contains cells) other
    → AtOrAbove layout.tree other (owner_of layout.spaces (get_or cells k d))
above_owner layout cells other k d within covers = covers (get_or cells k d) (Contains-get_or cells k d within)

pub lowest_of_first : (layout : Hierarchy) (cells : List Cell) (low : ℕ) (d : Cell) → 0 < length cells → low < length layout.tree
    → low ≡ owner_of layout.spaces (get_or cells 0 d) → IsLowestSoFar layout cells 1 low
lowest_of_first layout cells low d some within is = record {
  within = within;
  covers = λ k e first.
      let top : 0 ≡ k = omega arith in
      let same : low ≡ owner_of layout.spaces (get_or cells k e)
      = is ∙ ap (λ cell. owner_of layout.spaces cell) (get_or_default cells 0 d e some)
      ∙ ap (λ i. owner_of layout.spaces (get_or cells i e)) top in
      subst (λ x. AtOrAbove layout.tree low x) same (reflexive layout.tree low);
  lowest = λ other covers. subst (λ x. AtOrAbove layout.tree other x) (sym is) (above_owner layout cells other 0 d some covers);
}

pub lowest_of_more : (layout : Hierarchy) (cells : List Cell) (n low owner lower : ℕ) (d : Cell) → n < length cells → lower < length layout.tree
    → owner ≡ owner_of layout.spaces (get_or cells n d) → IsLowestSoFar layout cells n low
    → AtOrAbove layout.tree lower low → AtOrAbove layout.tree lower owner
    → ((a : ℕ) → AtOrAbove layout.tree a low → AtOrAbove layout.tree a owner → AtOrAbove layout.tree a lower)
    → IsLowestSoFar layout cells (n + 1) lower
lowest_of_more layout cells n low owner lower d short within is h above_low above_owner_of_next least = record {
  within = within;
  covers = λ k e below.
      ⊎_elim {C = AtOrAbove layout.tree lower (owner_of layout.spaces (get_or cells k e))}
      (λ (last : k ≡ n).
      let same : owner ≡ owner_of layout.spaces (get_or cells k e)
      = is ∙ ap (λ cell. owner_of layout.spaces cell) (get_or_default cells n d e short)
      ∙ ap (λ i. owner_of layout.spaces (get_or cells i e)) (sym last) in
      subst (λ x. AtOrAbove layout.tree lower x) same above_owner_of_next)
      (λ (other : k ≢ n). transitive layout.tree lower low _ above_low (h.covers k e (omega arith)))
      (cases_eq k n);
  lowest = λ other covers.
      least other (h.lowest other covers)
      (subst (λ x. AtOrAbove layout.tree other x) (sym is) (above_owner layout cells other n d short covers));
}

pub lowest_of_all : (layout : Hierarchy) (cells : List Cell) (n low : ℕ) → length cells ≤ n → IsLowestSoFar layout cells n low
    → IsLowest layout (Contains cells) low
lowest_of_all layout cells n low all h = record {
  covers = λ cell has.
      subst (λ x. AtOrAbove layout.tree low (owner_of layout.spaces x)) has.2 (h.covers has.0 cell (omega (arith, has.1)));
  lowest = h.lowest;
}

-- the lowest that covers one cell is its owner
pub lowest_of_one : (layout : Hierarchy) (cell : Cell) (low : ℕ) → low < length layout.tree → low ≡ owner_of layout.spaces cell
    → IsLowest layout (Contains (cell ∷ [])) low
lowest_of_one layout cell low within is =
    lowest_of_all layout (cell ∷ []) 1 low (omega arith) (lowest_of_first layout (cell ∷ []) low cell (omega arith) within is)

-- the lowest that covers the cells of two lists, from those that cover each
pub lowest_of_both : (layout : Hierarchy) (xs ys : List Cell) (first second low : ℕ) → IsLowest layout (Contains xs) first
    → IsLowest layout (Contains ys) second → AtOrAbove layout.tree low first → AtOrAbove layout.tree low second
    → ((a : ℕ) → AtOrAbove layout.tree a first → AtOrAbove layout.tree a second → AtOrAbove layout.tree a low)
    → IsLowest layout (Contains (xs ++ ys)) low
lowest_of_both layout xs ys first second low one other above_first above_second least = record {
  covers = λ cell has.
      ⊎_elim {C = AtOrAbove layout.tree low (owner_of layout.spaces cell)}
      (λ (left : Contains xs cell). transitive layout.tree low first _ above_first (one.covers cell left))
      (λ (right : Contains ys cell). transitive layout.tree low second _ above_second (other.covers cell right))
      (Contains-append_cases xs ys cell has);
  lowest = λ a covers.
      least a (one.lowest a (λ cell has. covers cell (Contains-append_left xs ys cell has)))
      (other.lowest a (λ cell has. covers cell (Contains-append_right xs ys cell has)));
}

-- where the root is the lowest that covers some cells, it is so for more
pub root_is_lowest : (layout : Hierarchy) (some all : List Cell) → IsLayout layout → All (IsCell layout.spaces) all
    → ((cell : Cell) → Contains some cell → Contains all cell) → IsLowest layout (Contains some) 0 → IsLowest layout (Contains all) 0
root_is_lowest layout some all is_layout cells more h = record {
  covers = λ cell has.
      root_above layout.tree is_layout.tree (owner_of layout.spaces cell)
      (owner_is_affinity layout.tree layout.spaces is_layout.each cell (All-contains (IsCell layout.spaces) all cell cells has));
  lowest = λ other covers. h.lowest other (λ cell has. covers cell (more cell has));
}
