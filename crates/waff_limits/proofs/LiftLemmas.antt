-- The two cells that lift a message.
use Rattle.std.proofs.Common.{◌≡◌, ◌≢◌, ℕ, zero, suc, ◌+◌, ◌<◌, ◌≤◌, ◌⊎◌, inl, inr, List, [], ◌∷◌, length, Contains, Option, Some, None, refl, sym, ◌∙◌, ap, subst, arith}
use Rattle.std.proofs.lemmas.Bool.{cases_eq}
use Rattle.std.proofs.lemmas.List.Elements.{Contains-get_or}
use Rattle.waff_model.specs.Cells.{cells_of}
use Rattle.waff_model.specs.Layout.{Hierarchy, IsLayout, owner_of}
use Rattle.waff_model.specs.Tree.{AtOrAbove, IsRooted, Leads, Node, parent_of}
use Rattle.waff_model.specs.declared.cell.Cell.{Cell}
use Rattle.waff_model.specs.declared.op.Op.{Op}
use Rattle.waff_model.specs.declared.op.Op.TheVariants.{Set, Add, Copy, Swap, Read}
use Rattle.waff_model.proofs.TreeLemmas.{reflexive, above_child, above_parent, above_root, comparable, earlier, transitive}
use Rattle.waff_assign.specs.Lowest.{IsLowest}
use Rattle.waff_limits.specs.Lifted.{AreLifting, IsFirst, IsFirstAmong, IsLowestOfTwo}
use Rattle.waff_limits.specs.LiftedLaws.{AloneIsOwner, SomeLift}
use Rattle.waff_limits.proofs.FirstCells.{first_is_one, first_same, some_first}

-- operations name cells
pub some_cells : (ops : List Op) → 1 ≤ length ops → 0 < length (cells_of ops)
some_cells [] some = absurd (omega (arith, some))
some_cells (Set cell value ∷ ops) some = omega arith
some_cells (Add cell value ∷ ops) some = omega arith
some_cells (Copy cell source ∷ ops) some = omega arith
some_cells (Swap cell other ∷ ops) some = omega arith
some_cells (Read cell ∷ ops) some = omega arith

-- an affinity is at or above another, or it is not: the climb from the other decides it
decide_from : (tree : List Node) (a b : ℕ) (parent : Option ℕ) → parent_of tree b ≡ parent → a ≢ b
    → ((p : ℕ) → parent ≡ Some p → AtOrAbove tree a p ⊎ ¬ AtOrAbove tree a p)
    → AtOrAbove tree a b ⊎ ¬ AtOrAbove tree a b
decide_from tree a b None none other by_parent = inr (λ above. other (above_root tree a b none above))
decide_from tree a b (Some p) is other by_parent = elim (by_parent p refl) [
  | inl above ↦ inl (above_child tree a b p is above)
  | inr apart ↦ inr (λ above. apart (above_parent tree a b p other is above))
]

decide_by : (tree : List Node) → IsRooted tree → (n a b : ℕ) → b < n → AtOrAbove tree a b ⊎ ¬ AtOrAbove tree a b
decide_by tree rooted zero a b short = absurd (omega (arith, short))
decide_by tree rooted (suc n) a b short = elim (cases_eq a b) [
  | inl same ↦ inl (subst (λ x. AtOrAbove tree a x) same (reflexive tree a))
  | inr other ↦
      decide_from tree a b (parent_of tree b) refl other
      (λ p is. let up : p < b = rooted.earlier b p is in decide_by tree rooted n a p (omega (arith, up, short)))
]

decide_above : (tree : List Node) → IsRooted tree → (a b : ℕ) → AtOrAbove tree a b ⊎ ¬ AtOrAbove tree a b
decide_above tree rooted a b = decide_by tree rooted (b + 1) a b (omega arith)

-- what is above another affinity is the parent of one at or above that
next_on_way : (tree : List Node) (n a b : ℕ) → a ≢ b → Leads tree n a b → (k : ℕ) × (parent_of tree k ≡ Some a) × AtOrAbove tree k b
next_on_way tree zero a b other same = absurd (other same)
next_on_way tree (suc zero) a b other (p, parent, same) = (b, parent ∙ ap Some (sym same), reflexive tree b)
next_on_way tree (suc (suc n)) a b other (p, parent, leads) = elim (cases_eq a p) [
  | inl same ↦ (b, parent ∙ ap Some (sym same), reflexive tree b)
  | inr apart ↦ let (k, is, above) = next_on_way tree (suc n) a p apart leads in (k, is, above_child tree k b p parent above)
]

-- of two cells
first_of_two : (cell other : Cell) → Contains (cell ∷ other ∷ []) cell
first_of_two cell other = (0, omega arith, refl)

second_of_two : (cell other : Cell) → Contains (cell ∷ other ∷ []) other
second_of_two cell other = (1, omega arith, refl)

of_two : (P : Cell → Type 0) (cell other c : Cell) → Contains (cell ∷ other ∷ []) c → P cell → P other → P c
of_two P cell other c (zero, inside, is) one two = subst P is one
of_two P cell other c (suc zero, inside, is) one two = subst P is two
of_two P cell other c (suc (suc k), inside, is) one two = absurd (omega (arith, inside))

module _ (layout : Hierarchy) (is : IsLayout layout) (Has : Cell → Type 0) (a : ℕ) (lowest : IsLowest layout Has a) (first : Cell) (has : Has first) where
  -- where the affinity is the owner of the first cell, that one lifts with itself
  pub lifts_itself : a ≡ owner_of layout.spaces first → IsLowestOfTwo layout a first first
  lifts_itself same = record {
    covers = λ c there. of_two (λ x. AtOrAbove layout.tree a (owner_of layout.spaces x)) first first c there (lowest.covers first has) (lowest.covers first has);
    lowest = λ other covers. subst (λ x. AtOrAbove layout.tree other x) (sym same) (covers first (first_of_two first first));
  }

  -- and it lifts alone
  pub lifts_alone : IsFirst Has first → a ≡ owner_of layout.spaces first → AreLifting layout Has a first first
  lifts_alone before same = record {
    first = before;
    lifting = record {
      has = (has, lifts_itself same);
      before = λ other also. before.before other also.0;
    };
  }

  module _ (below : ℕ) (next : parent_of layout.tree below ≡ Some a) (above : AtOrAbove layout.tree below (owner_of layout.spaces first)) where
    up : a < below
    up = is.tree.rooted.earlier below a next

    -- a cell lifts with the first one exactly where what is next below on the way to its owner is not at or above its own
    pub outside_lifts : (cell : Cell) → Has cell → ¬ AtOrAbove layout.tree below (owner_of layout.spaces cell) → IsLowestOfTwo layout a first cell
    outside_lifts cell uses outside = record {
      covers = λ c there.
          of_two (λ x. AtOrAbove layout.tree a (owner_of layout.spaces x)) first cell c there (lowest.covers first has) (lowest.covers cell uses);
      lowest = λ other covers.
          let one = covers first (first_of_two first cell) in
          let two = covers cell (second_of_two first cell) in
          elim (comparable layout.tree other below (owner_of layout.spaces first) one above) [
            | inl higher ↦ elim (cases_eq other below) [
              | inl same ↦ absurd (outside (subst (λ x. AtOrAbove layout.tree x (owner_of layout.spaces cell)) same two))
              | inr apart ↦ above_parent layout.tree other below a apart next higher
            ]
            | inr lower ↦ absurd (outside (transitive layout.tree below other (owner_of layout.spaces cell) lower two))
          ];
    }

    not_above : ¬ AtOrAbove layout.tree below a
    not_above lower = let down : below ≤ a = earlier layout.tree is.tree.rooted below a lower in omega (arith, up, down)

    pub lifts_outside : (cell : Cell) → IsLowestOfTwo layout a first cell → ¬ AtOrAbove layout.tree below (owner_of layout.spaces cell)
    lifts_outside cell two also =
        not_above (two.lowest below (λ c there. of_two (λ x. AtOrAbove layout.tree below (owner_of layout.spaces x)) first cell c there above also))

    -- not all cells are below it
    pub some_outside : ((cell : Cell) → Has cell → ¬ ¬ AtOrAbove layout.tree below (owner_of layout.spaces cell)) → ⊥
    some_outside none = not_above (lowest.lowest below (λ cell uses. elim (decide_above layout.tree is.tree.rooted below (owner_of layout.spaces cell)) [
      | inl higher ↦ higher
      | inr outside ↦ absurd (none cell uses outside)
    ]))

    pub first_lifts : (other : Cell) → IsFirst Has first → IsFirst (λ cell. Has cell × ¬ AtOrAbove layout.tree below (owner_of layout.spaces cell)) other
        → AreLifting layout Has a first other
    first_lifts other before lifting = record {
      first = before;
      lifting = first_same (λ cell. Has cell × ¬ AtOrAbove layout.tree below (owner_of layout.spaces cell)) (λ cell. Has cell × IsLowestOfTwo layout a first cell) other
          (λ cell is. (is.0, outside_lifts cell is.0 is.1)) (λ cell is. (is.0, lifts_outside cell is.1)) lifting;
    }

-- there are two such cells
module _ (layout : Hierarchy) (is : IsLayout layout) (cells : List Cell) (a : ℕ) (lowest : IsLowest layout (Contains cells) a) where
  abbrev Lifting : Type 0
  Lifting = (cell : Cell) × (other : Cell) × AreLifting layout (Contains cells) a cell other

  with_first : (cell : Cell) → IsFirst (Contains cells) cell → Lifting
  with_first cell first = elim (cases_eq a (owner_of layout.spaces cell)) [
    | inl same ↦ (cell, cell, lifts_alone layout is (Contains cells) a lowest cell first.has first same)
    | inr apart ↦
        let way = lowest.covers cell first.has in
        let (below, next, above) = next_on_way layout.tree way.0 a (owner_of layout.spaces cell) apart way.1 in
        let IsOutside : Cell → Type 0 = λ c. ¬ AtOrAbove layout.tree below (owner_of layout.spaces c) in
        let found = some_first IsOutside (λ c. decided below c) cells in
        by below next above found.0 found.1
  ]
    where
      decided : (below : ℕ) (c : Cell) → (¬ AtOrAbove layout.tree below (owner_of layout.spaces c)) ⊎ ((¬ AtOrAbove layout.tree below (owner_of layout.spaces c)) → ⊥)
      decided below c = elim (decide_above layout.tree is.tree.rooted below (owner_of layout.spaces c)) [
        | inl higher ↦ inr (λ outside. outside higher)
        | inr outside ↦ inl outside
      ]

      by : (below : ℕ) → parent_of layout.tree below ≡ Some a → AtOrAbove layout.tree below (owner_of layout.spaces cell) → (found : Option Cell)
          → IsFirstAmong cells (λ c. ¬ AtOrAbove layout.tree below (owner_of layout.spaces c)) found → Lifting
      by below next above None none = absurd (some_outside layout is (Contains cells) a lowest cell first.has below next above none)
      by below next above (Some other) lifting =
          (cell, other, first_lifts layout is (Contains cells) a lowest cell first.has below next above other first lifting)

  with_some : 0 < length cells → (found : Option Cell) → IsFirstAmong cells (λ c. Unit {0}) found → Lifting
  with_some some None none = absurd (none _ (Contains-get_or cells 0 (record { space = 0; index = 0 }) some) tt)
  with_some some (Some cell) first =
      with_first cell (first_same (λ c. Contains cells c × Unit {0}) (Contains cells) cell (λ c has. has.0) (λ c has. (has, tt)) first)

  pub lifting : 0 < length cells → Lifting
  lifting some = let found = some_first (λ c. Unit {0}) (λ c. inl tt) cells in with_some some found.0 found.1

pub some_lift : (layout : Hierarchy) (cells : List Cell) → SomeLift layout cells
some_lift layout cells a is some within lowest = lifting layout is cells a lowest some

pub lifting_is_one : (layout : Hierarchy) (Has : Cell → Type 0) (a : ℕ) (cell other one another : Cell) → AreLifting layout Has a cell other
    → AreLifting layout Has a one another → (cell ≡ one) × (other ≡ another)
lifting_is_one layout Has a cell other one another p q =
    let same = first_is_one Has cell one p.first q.first in
    let moved = subst (λ c. IsFirst (λ x. Has x × IsLowestOfTwo layout a c x) other) same p.lifting in
    (same, first_is_one (λ x. Has x × IsLowestOfTwo layout a one x) other another moved q.lifting)

-- the first cell lifts alone exactly where its owner is the affinity
pub alone_is_owner : (layout : Hierarchy) (cells : List Cell) → AloneIsOwner layout cells
alone_is_owner layout cells a cell other is lowest lifting = (alone, owner)
  where
    alone : cell ≡ other → a ≡ owner_of layout.spaces cell
    alone same =
        let two : IsLowestOfTwo layout a cell cell = subst (IsLowestOfTwo layout a cell) (sym same) lifting.lifting.has.1 in
        let of : ℕ = owner_of layout.spaces cell in
        let down = earlier layout.tree is.tree.rooted a of (two.covers cell (first_of_two cell cell)) in
        let up = earlier layout.tree is.tree.rooted of a
        (two.lowest of (λ c there. of_two (λ x. AtOrAbove layout.tree of (owner_of layout.spaces x)) cell cell c there (reflexive layout.tree of) (reflexive layout.tree of))) in
        omega (arith, down, up)

    owner : a ≡ owner_of layout.spaces cell → cell ≡ other
    owner same =
        let itself = lifts_alone layout is (Contains cells) a lowest cell lifting.first.has lifting.first same in
        sym ((lifting_is_one layout (Contains cells) a cell other cell cell lifting itself).1)
