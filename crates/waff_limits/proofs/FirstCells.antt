-- The first of some cells, one cell after another.
use Rattle.std.proofs.Common.{◌≡◌, zero, suc, ◌⊎◌, inl, inr, List, [], ◌∷◌, ◌++◌, Contains, Option, Some, None, append_assoc, refl, sym, ◌∙◌, ap, subst, arith}
use Rattle.std.proofs.lemmas.Bool.{cases_order}
use Rattle.std.proofs.lemmas.List.{append-nil}
use Rattle.std.proofs.lemmas.List.Elements.{Contains-append_cases, Contains-append_left, Contains-append_right}
use Rattle.waff_model.specs.declared.cell.Cell.{Cell}
use Rattle.waff_limits.specs.Data.{ComesBefore}
use Rattle.waff_limits.specs.Lifted.{IsFirst, IsFirstAmong, IsSooner}

-- two cells are the same, or one comes before the other
same_cell : (cell other : Cell) → cell.space ≡ other.space → cell.index ≡ other.index → cell ≡ other
same_cell cell other space index =
    ap (λ s. record { space = s; index = cell.index }) space ∙ ap (λ i. record { space = other.space; index = i }) index

pub cases_before : (cell other : Cell) → (cell ≡ other) ⊎ (ComesBefore cell other ⊎ ComesBefore other cell)
cases_before cell other = elim (cases_order cell.space other.space) [
  | inl space ↦ elim (cases_order cell.index other.index) [
    | inl index ↦ inl (same_cell cell other space index)
    | inr (inl less) ↦ inr (inl (inr (space, less)))
    | inr (inr more) ↦ inr (inr (inr (sym space, more)))
  ]
  | inr (inl less) ↦ inr (inl (inl less))
  | inr (inr more) ↦ inr (inr (inl more))
]

pub one_way : (cell other : Cell) → ComesBefore cell other → ComesBefore other cell → ⊥
one_way cell other (inl less) (inl more) = omega (arith, less, more)
one_way cell other (inl less) (inr same) = omega (arith, less, same.0)
one_way cell other (inr same) (inl more) = omega (arith, more, same.0)
one_way cell other (inr same) (inr other_same) = omega (arith, same.1, other_same.1)

pub before_further : (cell other another : Cell) → ComesBefore cell other → ComesBefore other another → ComesBefore cell another
before_further cell other another (inl less) (inl more) = inl (omega (arith, less, more))
before_further cell other another (inl less) (inr same) = inl (omega (arith, less, same.0))
before_further cell other another (inr same) (inl more) = inl (omega (arith, same.0, more))
before_further cell other another (inr same) (inr next) = inr (same.0 ∙ next.0, omega (arith, same.1, next.1))

-- the first of some cells is one
pub first_is_one : (Has : Cell → Type 0) (cell other : Cell) → IsFirst Has cell → IsFirst Has other → cell ≡ other
first_is_one Has cell other one two = elim (one.before other two.has) [
  | inl same ↦ same
  | inr before ↦ elim (two.before cell one.has) [
    | inl same ↦ sym same
    | inr after ↦ absurd (one_way cell other before after)
  ]
]

-- of cells that are meant alike
pub first_same : (Has Other : Cell → Type 0) (cell : Cell) → ((c : Cell) → Has c → Other c) → ((c : Cell) → Other c → Has c) → IsFirst Has cell → IsFirst Other cell
first_same Has Other cell into back is = record { has = into cell is.has; before = λ other has. is.before other (back other has) }

one_of : (x y : Cell) → Contains (x ∷ []) y → x ≡ y
one_of x y (zero, inside, is) = is
one_of x y (suc k, inside, is) = absurd (omega (arith, inside))

alone : (x : Cell) → Contains (x ∷ []) x
alone x = (0, omega arith, refl)

module _ (M : Cell → Type 0) (cells : List Cell) (cell : Cell) where
  abbrev Has : Cell → Type 0
  Has c = Contains cells c × M c

  abbrev Now : Cell → Type 0
  Now c = Contains (cells ++ cell ∷ []) c × M c

  -- a cell that is meant is one of those before, or the last
  cases_now : (P : Type 0) (c : Cell) → Now c → (Has c → P) → (cell ≡ c → P) → P
  cases_now P c now before last = elim (Contains-append_cases cells (cell ∷ []) c now.0) [
    | inl there ↦ before (there, now.1)
    | inr here ↦ last (one_of cell c here)
  ]

  -- the last cell, where it is sooner than the others
  pub takes : (first : Option Cell) → IsSooner first cell → M cell → IsFirstAmong cells M first → IsFirstAmong (cells ++ cell ∷ []) M (Some cell)
  takes None sooner meant none = record {
    has = (Contains-append_right cells (cell ∷ []) cell (alone cell), meant);
    before = λ other now. cases_now ((cell ≡ other) ⊎ ComesBefore cell other) other now (λ has. absurd (none other has.0 has.1)) (λ same. inl same);
  }
  takes (Some first) sooner meant is = record {
    has = (Contains-append_right cells (cell ∷ []) cell (alone cell), meant);
    before = λ other now.
        cases_now ((cell ≡ other) ⊎ ComesBefore cell other) other now
        (λ has. elim (is.before other has) [
          | inl same ↦ inr (subst (ComesBefore cell) same sooner)
          | inr before ↦ inr (before_further cell first other sooner before)
        ])
        (λ same. inl same);
  }

  -- the one that was first, where the last one is not sooner, or not meant
  pub keeps : (first : Option Cell) → (IsSooner first cell → M cell → ⊥) → IsFirstAmong cells M first → IsFirstAmong (cells ++ cell ∷ []) M first
  keeps None not none = λ c there meant. cases_now ⊥ c (there, meant) (λ has. none c has.0 has.1) (λ same. not tt (subst M (sym same) meant))
  keeps (Some first) not is = record {
    has = (Contains-append_left cells (cell ∷ []) first is.has.0, is.has.1);
    before = λ other now.
        cases_now ((first ≡ other) ⊎ ComesBefore first other) other now (λ has. is.before other has)
        (λ same. elim (cases_before first cell) [
          | inl this ↦ inl (this ∙ same)
          | inr (inl before) ↦ inr (subst (ComesBefore first) same before)
          | inr (inr after) ↦ absurd (not after (subst M (sym same) now.1))
        ]);
  }

-- there is one, where it can be told whether a cell is meant
module _ (M : Cell → Type 0) (decide : (cell : Cell) → M cell ⊎ (M cell → ⊥)) where
  sooner_or_not : (first : Option Cell) (cell : Cell) → IsSooner first cell ⊎ (IsSooner first cell → ⊥)
  sooner_or_not None cell = inl tt
  sooner_or_not (Some first) cell = elim (cases_before cell first) [
    | inl same ↦ inr (λ before. one_way cell first before (subst (λ c. ComesBefore c cell) same (subst (ComesBefore cell) (sym same) before)))
    | inr (inl before) ↦ inl before
    | inr (inr after) ↦ inr (λ before. one_way cell first before after)
  ]

  next : (cells : List Cell) (cell : Cell) (first : Option Cell) → IsFirstAmong cells M first → (now : Option Cell) × IsFirstAmong (cells ++ cell ∷ []) M now
  next cells cell first is = elim (sooner_or_not first cell) [
    | inr not ↦ (first, keeps M cells cell first (λ sooner meant. not sooner) is)
    | inl sooner ↦ elim (decide cell) [
      | inl meant ↦ (Some cell, takes M cells cell first sooner meant is)
      | inr not ↦ (first, keeps M cells cell first (λ also meant. not meant) is)
    ]
  ]

  from : (before cells : List Cell) (first : Option Cell) → IsFirstAmong before M first → (now : Option Cell) × IsFirstAmong (before ++ cells) M now
  from before [] first is = (first, subst (λ cs. IsFirstAmong cs M first) (sym (append-nil before)) is)
  from before (cell ∷ cells) first is =
      let one = next before cell first is in
      let all = from (before ++ cell ∷ []) cells one.0 one.1 in
      (all.0, subst (λ cs. IsFirstAmong cs M all.0) (append_assoc before (cell ∷ []) cells) all.1)

  pub some_first : (cells : List Cell) → (first : Option Cell) × IsFirstAmong cells M first
  some_first cells = from [] cells None (λ c there meant. let (k, inside, is) = there in absurd (omega (arith, inside)))
