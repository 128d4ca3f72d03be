-- The lowest affinity that covers cells without locks, one cell after another.
use Rattle.std.proofs.Common.{◌≡◌, ℕ, inl, inr, List, [], ◌∷◌, ◌++◌, Option, None, Some, ◌∙◌, sym, ap, subst}
use Rattle.std.proofs.lemmas.List.Elements.{Contains-append_left, Contains-push, Contains-push_cases}
use Rattle.waff_model.specs.Layout.{Hierarchy, IsLocked, owner_of}
use Rattle.waff_model.specs.Tree.{AtOrAbove}
use Rattle.waff_model.specs.declared.cell.Cell.{Cell}
use Rattle.waff_model.proofs.TreeLemmas.{reflexive, transitive}
use Rattle.waff_assign.specs.Lowest.{Covers, IsAffinityAmong, IsUnlockedAmong}
use Rattle.waff_assign.proofs.Elements.{none_in_nil}

module _ (layout : Hierarchy) where
  -- no cell
  pub among_none : IsAffinityAmong layout [] None
  among_none cell has = absurd (none_in_nil cell has)

  module _ (cells : List Cell) (cell : Cell) where
    -- what covers more cells covers these
    fewer : (a : ℕ) → Covers layout (IsUnlockedAmong layout (cells ++ cell ∷ [])) a → Covers layout (IsUnlockedAmong layout cells) a
    fewer a covers c has = covers c (Contains-append_left cells (cell ∷ []) c has.0, has.1)

    -- one more with a lock
    pub among_locked : (o : Option ℕ) → IsLocked layout.spaces cell → IsAffinityAmong layout cells o → IsAffinityAmong layout (cells ++ cell ∷ []) o
    among_locked None locked all = λ c has. elim (Contains-push_cases cells cell c has) [
      | inl before ↦ all c before
      | inr here ↦ subst (λ x. IsLocked layout.spaces x) here locked
    ]
    among_locked (Some a) locked (some, low) = (
      (some.0, (Contains-append_left cells (cell ∷ []) some.0 some.1.0, some.1.1)),
      record {
        covers = λ c has. elim (Contains-push_cases cells cell c has.0) [
          | inl before ↦ low.covers c (before, has.1)
          | inr here ↦ absurd (has.1 (subst (λ x. IsLocked layout.spaces x) here locked))
        ];
        lowest = λ other covers. low.lowest other (fewer other covers);
      },
    )

    -- the first without one
    pub among_first : (owner : ℕ) → ¬ IsLocked layout.spaces cell → owner ≡ owner_of layout.spaces cell → IsAffinityAmong layout cells None
        → IsAffinityAmong layout (cells ++ cell ∷ []) (Some owner)
    among_first owner free is all = (
      (cell, (Contains-push cells cell, free)),
      record {
        covers = λ c has. elim (Contains-push_cases cells cell c has.0) [
          | inl before ↦ absurd (has.1 (all c before))
          | inr here ↦
              let same : owner ≡ owner_of layout.spaces c = is ∙ ap (owner_of layout.spaces) here in
              subst (λ a. AtOrAbove layout.tree owner a) same (reflexive layout.tree owner)
        ];
        lowest = λ other covers. subst (λ a. AtOrAbove layout.tree other a) (sym is) (covers cell (Contains-push cells cell, free));
      },
    )

    -- one more without
    pub among_more : (first owner low : ℕ) → ¬ IsLocked layout.spaces cell → owner ≡ owner_of layout.spaces cell
        → AtOrAbove layout.tree low first → AtOrAbove layout.tree low owner
        → ((a : ℕ) → AtOrAbove layout.tree a first → AtOrAbove layout.tree a owner → AtOrAbove layout.tree a low)
        → IsAffinityAmong layout cells (Some first) → IsAffinityAmong layout (cells ++ cell ∷ []) (Some low)
    among_more first owner low free is above_first above_owner least (some, lowest) = (
      (cell, (Contains-push cells cell, free)),
      record {
        covers = λ c has. elim (Contains-push_cases cells cell c has.0) [
          | inl before ↦ transitive layout.tree low first _ above_first (lowest.covers c (before, has.1))
          | inr here ↦
              let same : owner ≡ owner_of layout.spaces c = is ∙ ap (owner_of layout.spaces) here in
              subst (λ a. AtOrAbove layout.tree low a) same above_owner
        ];
        lowest = λ other covers.
            least other (lowest.lowest other (fewer other covers))
            (subst (λ a. AtOrAbove layout.tree other a) (sym is) (covers cell (Contains-push cells cell, free)));
      },
    )
